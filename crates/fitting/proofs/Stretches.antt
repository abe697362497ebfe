-- A stretch of served demand, a demand window at a time. Assumes nothing.
use Prim.Native.Nat.{ℕ, suc, ◌+◌, ◌-◌, ◌≤◌, ◌<◌, max}
use mathlib.Core.Path.{◌≡◌, refl, sym, ap, ◌∙◌}
use mathlib.Core.List.{List, [], ◌∷◌}
use mathlib.Core.Bool.{true}
use native.Mathlib.Numerals.{add-one}
use native.Mathlib.Omega.{arith}
use native.Mathlib.Decide.{dec_lt}
use lib.ListN.{length, get_or, drop, length-drop}
use lib.Seq.{drop-drop}
use Rattle.windows.specs.Windows.{is_plain, plain_from, window, fit}
use Rattle.windows.specs.Walks.{raise, open_first}
use Rattle.windows.proofs.Ticks.{Apart, Front, plain_front, plain_lower, plain_apart, front_plain, not_odd, window_some, window_none}
use Rattle.windows.proofs.Stretching.{open_none, stretch_whole, stretch_over, stretch_none, stretch_stop, later_demand, later_supply, raise_none}
use Rattle.walks.proofs.Fronts.{behind, behind_is}
use Rattle.fitting.specs.Steps.{demand_ahead, demand_behind, ByPlace, InStretch, Stretches}
use Rattle.fitting.specs.declared.Fitting.{Fitting}
use Rattle.fitting.specs.declared.Stretch.{Stretch}

pub apart_behind : (e : ℕ) (l : List ℕ) → plain_from (e + 1) l ≡ true → Apart (suc e) l
apart_behind e l h = rw add-one at (plain_apart (e + 1) l h)

-- ---- what is handed on stands at a place of the curve

pub place_first : {curve ahead : List ℕ} → ahead ≡ curve → ByPlace curve ahead
place_first e = record { place = 0; inside = omega arith; is = e }

-- a window further
pub place_behind : {curve ahead later : List ℕ} → 2 ≤ length ahead → later ≡ behind ahead → ByPlace curve ahead → ByPlace curve later
place_behind {curve} {ahead} h e p = record {
  place = p.place + 2;
  inside = omega (arith, h, ap length p.is, length-drop p.place curve, p.inside);
  is = e ∙ behind_is ahead ∙ ap (drop 2) p.is ∙ drop-drop 2 p.place curve;
}

-- ---- the first window of what is left, wanted from w on

pub record Ahead (l : List ℕ) (w : ℕ) : Type 0 where
  pub is : raise w l ≡ max (get_or l 0 0) w ∷ (get_or l 1 0 ∷ behind l)
  pub front : Front 0 (max (get_or l 0 0) w) (get_or l 1 0) (behind l)
  pub later : is_plain (behind l) ≡ true
  pub from : (v : ℕ) → max (get_or l 0 0) w ≤ v → raise v l ≡ v ∷ (get_or l 1 0 ∷ behind l)

pub ahead_window : (l : List ℕ) (w : ℕ) → is_plain (raise w l) ≡ true → 2 ≤ length l → Ahead l w
unfolding raise
ahead_window [] w h k = absurd (omega arith)
ahead_window (s ∷ []) w h k = absurd (omega arith)
ahead_window (s ∷ (e ∷ r)) w h k =
    let f = plain_front 0 _ _ _ h in
    let b : behind (s ∷ (e ∷ r)) ≡ r = behind_is (s ∷ (e ∷ r)) in
    record {
      is = rw b;
      front = rw b f;
      later = rw b (plain_lower (e + 1) 0 r (omega arith) f.rest);
      from = λ v i. let m : max s v ≡ v = omega arith in rw (m, b);
    }

pub ahead_none : (l : List ℕ) (w : ℕ) → is_plain (raise w l) ≡ true → length l < 2 → l ≡ []
unfolding raise
ahead_none [] w h k = refl
ahead_none (s ∷ []) w h k = absurd (not_odd 0 s h)
ahead_none (s ∷ (e ∷ r)) w h k = absurd (omega arith)

-- a curve that is not empty has a window
pub ahead_some : (l : List ℕ) (w : ℕ) → is_plain (raise w l) ≡ true → 0 < length l → 2 ≤ length l
unfolding raise
ahead_some [] w h k = absurd (omega arith)
ahead_some (s ∷ []) w h k = absurd (not_odd 0 s h)
ahead_some (s ∷ (e ∷ r)) w h k = omega arith

-- wanted from a later instant of the window on
pub plain_from_later : (l : List ℕ) (w v : ℕ) → Ahead l w → max (get_or l 0 0) w ≤ v → v < get_or l 1 0 → is_plain (raise v l) ≡ true
plain_from_later l w v a h k =
    rw (a.from v h)
    (front_plain 0 v (get_or l 1 0) (behind l) (record { after = omega arith; rises = k; bounded = a.front.bounded; rest = a.front.rest }))

-- ---- the loop: up to `till` all is served in one stretch, and the demand of `o` is still to come

pub record Stretching (w : Fitting) (from end : ℕ) (o : Stretch) : Type 0 where
  pub given : InStretch w from end
  pub low : from ≤ o.till
  pub high : o.till ≤ end
  pub plain : is_plain (demand_behind o) ≡ true
  pub first : o.till ≡ from → (o.demand.now ≡ w.demand.now) × (o.wanted ≡ w.wanted)
  pub is : (s : List ℕ) → plain_from (end + 1) s ≡ true
      → fit (demand_ahead w) (from ∷ (end ∷ s)) ≡ open_first from o.till (fit (demand_behind o) (window o.till end s))

pub stretching_first : {w : Fitting} {from end : ℕ} {o : Stretch} → InStretch w from end → o.demand.now ≡ w.demand.now → o.wanted ≡ w.wanted → o.till ≡ from
    → Stretching w from end o
stretching_first {w} {from} {end} {o} p ed ew et =
    let z = p.below in
    record {
      given = p;
      low = omega (arith, et);
      high = omega (arith, et);
      plain = rw (ed, ew) p.plain;
      first = λ e. (ed, ew);
      is = λ s h. rw (ed, ew, et, window_some from end s p.below, open_none from (fit (demand_ahead w) (from ∷ (end ∷ s))));
    }

-- what is left of the demand of a stretch, at its first window
module _ {w : Fitting} {from end : ℕ} {o : Stretch} (p : Stretching w from end o) where
  abbrev starts : ℕ
  starts = max (get_or o.demand.now 0 0) o.wanted

  abbrev ends : ℕ
  ends = get_or o.demand.now 1 0

  -- a stretch ends where no demand is left, or it starts later: something was served before
  stretching_stop : from < o.till → Apart (suc o.till) (demand_behind o) → Stretches w from end o
  stretching_stop h a = record {
    rises = h;
    within = p.high;
    plain = p.plain;
    is = λ s i. p.is s i ∙ stretch_stop from o.till _ h (later_demand o.till end (demand_behind o) s a (apart_behind end s i));
  }

  served_some : (o.demand.now ≡ w.demand.now → o.wanted ≡ w.wanted → o.till ≡ from → ⊥) → from < o.till
  served_some no-first = go (dec_lt from o.till)
    where
      go : Dec (from < o.till) → from < o.till
      go (yes h) = h
      go (no h) =
          let e : o.till ≡ from = omega (arith, p.low) in
          absurd (no-first (p.first e).0 (p.first e).1 e)

  pub stretching_end : length o.demand.now < 2 → Stretches w from end o
  unfolding raise
  stretching_end h =
      let none = ahead_none o.demand.now o.wanted p.plain h in
      stretching_stop (served_some (λ e f g. let z = ap length (sym e ∙ none) in omega (arith, p.given.some, z))) (rw none tt)

  module _ (h : 2 ≤ length o.demand.now) where
    window_ahead : Ahead o.demand.now o.wanted
    window_ahead = ahead_window o.demand.now o.wanted p.plain h

    pub stretching_rises : starts < ends
    stretching_rises = window_ahead.front.rises

    pub stretching_gap : o.till < starts → Stretches w from end o
    stretching_gap k =
        let a = window_ahead in
        stretching_stop (served_some none) (rw a.is (k, a.front.rises, apart_behind ends (behind o.demand.now) a.front.rest))
      where
        none : o.demand.now ≡ w.demand.now → o.wanted ≡ w.wanted → o.till ≡ from → ⊥
        none e f g =
            let s : starts ≤ from = rw (e, f) p.given.starts in
            omega arith

    -- the next demand window is served whole
    pub stretching_whole : {v : Stretch} → starts ≤ o.till → ends - starts ≤ end - o.till
        → v.demand.now ≡ behind o.demand.now → v.wanted ≡ 0 → v.till ≡ o.till + (ends - starts) → Stretching w from end v
    stretching_whole {v} i k ed ew et =
        let a = window_ahead in
        let z = a.front.rises in
        record {
          given = p.given;
          low = omega (arith, p.low, et);
          high = omega (arith, p.high, et);
          plain = rw (ed, ew, raise_none (behind o.demand.now)) a.later;
          first = λ x. absurd (omega (arith, p.low, et));
          is = λ s j.
              rw (ed, ew, et, raise_none (behind o.demand.now))
              (p.is s j
              ∙ ap (λ (l : List ℕ). open_first from o.till (fit l (window o.till end s))) a.is
              ∙ stretch_whole from o.till end starts ends (behind o.demand.now) s p.low i (omega arith) z k);
        }

    -- the supply window is used up
    pub stretching_over : {v : Stretch} → starts ≤ o.till → end - o.till < ends - starts
        → v.demand.now ≡ o.demand.now → v.wanted ≡ starts + (end - o.till) → v.till ≡ end → Stretches w from end v
    stretching_over {v} i k ed ew et =
        let a = window_ahead in
        record {
          rises = omega (arith, p.given.below, et);
          within = omega (arith, et);
          plain = rw (ed, ew) (plain_from_later o.demand.now o.wanted later a (omega arith) (omega arith));
          is = λ s j.
              rw (ed, ew, et)
              (p.is s j
              ∙ ap (λ (l : List ℕ). open_first from o.till (fit l (window o.till end s))) a.is
              ∙ used s (dec_lt o.till end)
              ∙ stretch_stop from end (fit (later ∷ (ends ∷ behind o.demand.now)) s) p.given.below
              (later_supply end (later ∷ (ends ∷ behind o.demand.now)) s (omega arith, omega arith, apart_behind ends (behind o.demand.now) a.front.rest) (apart_behind end s j))
              ∙ rw (a.from later (omega arith), window_none end end s (omega arith)));
        }
      where
        later : ℕ
        later = starts + (end - o.till)

        used : (s : List ℕ) → Dec (o.till < end)
            → open_first from o.till (fit (starts ∷ (ends ∷ behind o.demand.now)) (window o.till end s)) ≡ open_first from end (fit (later ∷ (ends ∷ behind o.demand.now)) s)
        used s (yes l) = stretch_over from o.till end starts ends (behind o.demand.now) s p.low i l window_ahead.front.rises k
        used s (no l) =
            let x : o.till ≡ end = omega (arith, p.high) in
            rw x (ap (open_first from end) (stretch_none end starts ends (behind o.demand.now) s))

-- ---- and that demand stands at a place of the curve

pub record Advancing (w : Fitting) (from end : ℕ) (o : Stretch) : Type 0 where
  pub stretching : Stretching w from end o
  pub demand : ByPlace w.demand.now o.demand.now

pub advancing_first : {w : Fitting} {from end : ℕ} {o : Stretch} → InStretch w from end → o.demand.now ≡ w.demand.now → o.wanted ≡ w.wanted → o.till ≡ from
    → Advancing w from end o
advancing_first p ed ew et = record { stretching = stretching_first p ed ew et; demand = place_first ed }

-- the next demand window is served whole
pub advancing_whole : {w : Fitting} {from end : ℕ} {o v : Stretch} (a : Advancing w from end o) → 2 ≤ length o.demand.now → starts a.stretching ≤ o.till
    → ends a.stretching - starts a.stretching ≤ end - o.till → v.demand.now ≡ behind o.demand.now → v.wanted ≡ 0
    → v.till ≡ o.till + (ends a.stretching - starts a.stretching) → Advancing w from end v
advancing_whole a h i k ed ew et = record { stretching = stretching_whole a.stretching h i k ed ew et; demand = place_behind h ed a.demand }
