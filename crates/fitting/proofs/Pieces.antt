-- The pieces of a fitting, one at a time. Assumes nothing.
use Prim.Native.Nat.{ℕ, ◌≤◌, ◌<◌, max, min}
use mathlib.Core.Path.{◌≡◌, refl, ◌∙◌}
use mathlib.Core.List.{List, [], ◌∷◌}
use native.Mathlib.Omega.{arith}
use native.Mathlib.Decide.{dec_le}
use lib.ListN.{length, get_or, drop}
use borrow.Author.Tests.{le-leb, lt-leb}
use Rattle.windows.specs.Windows.{plain_from, window, fit, leaving}
use Rattle.windows.specs.Walks.{raise}
use Rattle.windows.proofs.Ticks.{plain_apart, window_some, window_none}
use Rattle.windows.proofs.Fitting.{fit_no_demand, fit_leaving}
use Rattle.windows.proofs.Stretching.{fit_unwanted, fit_unserved, fit_side, raise_none}
use Rattle.walks.proofs.Fronts.{behind, behind_is}
use Rattle.fitting.specs.Steps.{demand_ahead, fit_ahead, FitSound, Unpassed, Goes, Unsupplied, InSupply, Supplied, Stretches}
use Rattle.fitting.specs.declared.Fitting.{Fitting}
use Rattle.fitting.specs.declared.Piece.{Piece}
use Rattle.fitting.specs.declared.Part.TheVariants.{Left, Served, Rest}
use Rattle.fitting.specs.declared.Stretch.{Stretch}
use Rattle.fitting.proofs.Stretches.{Ahead, ahead_window, ahead_none, ahead_some, plain_from_later}

pub ruleset starts = (raise_none)

-- ---- the supply is handed on with its first window, or without it

module _ {curve ahead : List ℕ} {instant : ℕ} where
  pub unpassed_first : instant < get_or curve 1 0 → ahead ≡ curve → Unpassed curve instant ahead
  unpassed_first h e = record {
    by_place = record { place = 0; inside = omega arith; is = e };
    few = omega arith;
    is = rw (lt-leb (get_or curve 1 0) instant h) e;
  }

  pub unpassed_behind : 2 ≤ length curve → get_or curve 1 0 ≤ instant → ahead ≡ behind curve → Unpassed curve instant ahead
  unpassed_behind s h e =
      let later = e ∙ behind_is curve in
      record {
        by_place = record { place = 2; inside = s; is = later };
        few = omega arith;
        is = rw (le-leb (get_or curve 1 0) instant h) later;
      }

  -- where there is none
  pub unpassed_none : curve ≡ [] → ahead ≡ curve → Unpassed curve instant ahead
  unpassed_none none e = record {
    by_place = record { place = 0; inside = omega arith; is = e };
    few = omega arith;
    is = rw (none, le-leb 0 instant (omega arith)) (e ∙ none);
  }

-- ---- the supply from an instant of its first window on

module _ {w : Fitting} {till : ℕ} (p : InSupply w till) where
  window_offered : Ahead w.supply.now w.free
  window_offered = ahead_window w.supply.now w.free p.plain p.some

  module _ {v : Fitting} (ed : v.demand.now ≡ w.demand.now) (ew : v.wanted ≡ w.wanted) where
    -- some of the window is left
    pub supplied_part : till < get_or w.supply.now 1 0 → v.supply.now ≡ w.supply.now → v.free ≡ till → Supplied w till v
    supplied_part h es ef =
        let a = window_offered in
        record {
          demand = ed;
          wanted = ew;
          supply = rw (es, ef, a.from till p.after, window_some till (get_or w.supply.now 1 0) (drop 2 w.supply.now) h, behind_is w.supply.now);
          plain = rw (es, ef) (plain_from_later w.supply.now w.free till a p.after h);
        }

    -- none is
    pub supplied_whole : get_or w.supply.now 1 0 ≤ till → v.supply.now ≡ behind w.supply.now → v.free ≡ 0 → Supplied w till v
    supplied_whole h es ef =
        let a = window_offered in
        record {
          demand = ed;
          wanted = ew;
          supply = rw (es, ef, raise_none (behind w.supply.now), window_none till (get_or w.supply.now 1 0) (drop 2 w.supply.now) h) (behind_is w.supply.now);
          plain = rw (es, ef, raise_none (behind w.supply.now)) a.later;
        }

-- ---- no supply is left

pub unsupplied : {w : Fitting} → FitSound w → length w.supply.now < 2 → Unsupplied w
unsupplied {w} p h = record { demand = p.demand; none = ahead_none w.supply.now w.free p.supply h }

module _ {w : Fitting} (p : Unsupplied w) where
  pub piece_none : length w.demand.now < 2 → fit_ahead w ≡ record { left = []; served = []; rest = [] }
  unfolding raise
  piece_none h = rw (p.none, ahead_none w.demand.now w.wanted p.demand h) (fit_no_demand [])

  pub piece_rest : {s : Piece} → 2 ≤ length w.demand.now → s.part ≡ Rest → s.start ≡ max (get_or w.demand.now 0 0) w.wanted → s.end ≡ get_or w.demand.now 1 0
      → s.behind.demand.now ≡ behind w.demand.now → s.behind.wanted ≡ 0 → s.behind.supply.now ≡ w.supply.now → Goes w s
  unfolding raise plain_from
  piece_rest {s} h ep es ee bd bw bs =
      let a = ahead_window w.demand.now w.wanted p.demand h in
      let d = behind w.demand.now in
      record {
        is = rw (ep, es, ee, bd, bw, bs, p.none, a.is, raise_none d) (fit_unserved 0 _ _ d (plain_apart 0 d a.later));
        sound = record { demand = rw (bd, bw, raise_none d) a.later; supply = rw (bs, p.none) refl };
      }

-- ---- the first supply window

module _ {w : Fitting} (p : FitSound w) (h : 2 ≤ length w.supply.now) where
  offered : Ahead w.supply.now w.free
  offered = ahead_window w.supply.now w.free p.supply h

  pub supply_rises : max (get_or w.supply.now 0 0) w.free < get_or w.supply.now 1 0
  supply_rises = offered.front.rises

  pub supply_bounded : get_or w.supply.now 1 0 ≤ 1000000
  supply_bounded = offered.front.bounded

  module _ {start till : ℕ} {v : Fitting} (at_start : start ≡ max (get_or w.supply.now 0 0) w.free) (u : Supplied w till v) where
    same_demand : demand_ahead v ≡ demand_ahead w
    same_demand = rw (u.demand, u.wanted)

    sound_behind : FitSound v
    sound_behind = record { demand = rw same_demand p.demand; supply = u.plain }

    -- nothing is wanted
    pub piece_unwanted : length w.demand.now < 1 → till ≡ get_or w.supply.now 1 0 → Goes w (record { part = Left; start = start; end = till; behind = v })
    unfolding raise
    piece_unwanted i e =
        let a = offered in
        let s = drop 2 w.supply.now in
        let end = get_or w.supply.now 1 0 in
        record {
          is = rw (u.supply, a.is, same_demand, ahead_none w.demand.now w.wanted p.demand (omega arith), e, at_start, behind_is w.supply.now, window_none end end s (omega arith)) (fit_unwanted _ _ s);
          sound = sound_behind;
        }

    module _ (wanted : 0 < length w.demand.now) where
      asked : Ahead w.demand.now w.wanted
      asked = ahead_window w.demand.now w.wanted p.demand (ahead_some w.demand.now w.wanted p.demand wanted)

      -- the supply window starts before the demand
      pub piece_before : {q : ℕ} → q ≡ max (get_or w.demand.now 0 0) w.wanted → start < q → till ≡ min (get_or w.supply.now 1 0) q
          → Goes w (record { part = Left; start = start; end = till; behind = v })
      piece_before {q} eq k e =
          record {
            is = rw (u.supply, a.is, same_demand, asked.is, behind_is w.supply.now, ← at_start, ← eq) (go (dec_le end q));
            sound = sound_behind;
          }
        where
          a : Ahead w.supply.now w.free
          a = offered

          end : ℕ
          end = get_or w.supply.now 1 0

          d : List ℕ
          d = behind w.demand.now

          s : List ℕ
          s = drop 2 w.supply.now

          go : Dec (end ≤ q)
              → fit (q ∷ (get_or w.demand.now 1 0 ∷ d)) (start ∷ (end ∷ s)) ≡ leaving start till (fit (q ∷ (get_or w.demand.now 1 0 ∷ d)) (window till end s))
          go (yes i) =
              let t : till ≡ end = omega arith in
              rw (t, window_none end end s (omega arith)) (fit_leaving _ _ _ _ d s i)
          go (no i) =
              let t : till ≡ q = omega arith in
              rw (t, window_some q end s (omega arith)) (fit_side q _ _ _ d s k (omega arith))

    -- demand is served
    pub piece_served : {r : Stretch} → (o : Fitting) → Stretches w start (get_or w.supply.now 1 0) r → r.till ≡ till
        → o.demand.now ≡ r.demand.now → o.wanted ≡ r.wanted → o.supply.now ≡ v.supply.now → o.free ≡ v.free
        → Goes w (record { part = Served; start = start; end = till; behind = o })
    piece_served {r} o t e od ow os of =
        let a = offered in
        record {
          is = rw (od, ow, os, of, u.supply, ← e, a.is, ← at_start, behind_is w.supply.now) (t.is (drop 2 w.supply.now) (rw (behind_is w.supply.now) at a.front.rest));
          sound = record { demand = rw (od, ow) t.plain; supply = rw (os, of) u.plain };
        }

pub ruleset pieces = (unsupplied, supply_rises, supply_bounded, piece_unwanted, piece_before, piece_served)
