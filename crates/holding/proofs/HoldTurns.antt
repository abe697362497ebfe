-- One turn of the walk over a server's free ticks: a piece of a free window is held or left. Assumes nothing.
use Prim.Native.Nat.{ℕ, suc, ◌+◌, ◌≤◌, ◌<◌, max}
use mathlib.Core.Path.{◌≡◌}
use mathlib.Core.List.{List}
use native.Mathlib.Omega.{arith}
use lib.ListN.{length, get_or}
use Rattle.windows.specs.Windows.{cover, upto}
use Rattle.windows.proofs.Counts.{upto_rises}
use Rattle.holding.specs.declared.Place.{Place}
use Rattle.buffers.specs.Parts.{PlainBelow}
use Rattle.holding.specs.Pieces.{held_from, first_place, Entered, Offered, Holds, Leaves, done, later, spent, Moved, part, whole, Served}
use Rattle.windows.proofs.WindowsAt.{WindowAt, window_at, window_below}
use Rattle.holding.proofs.HeldBlocks.{upto_still, upto_ones, held_not_free, idle_done, idle_spent, busy_block}
use Rattle.holding.proofs.Standing.{Wants, wants_first, wants_on, wants_part, wants_whole, wants_comes, Paced, Under, paced_first, paced_enter, paced_on, paced_served, Offers, Behind, offers_first, offers_next}

-- what `hold` is given
pub record Given (T : ℕ) (demand free : List ℕ) : Type 0 where
  pub some : 0 < T
  pub wanted : PlainBelow 16000 demand
  pub offered : PlainBelow 16000 free

pub given_by : {T : ℕ} {demand free : List ℕ} → 0 < T → PlainBelow 16000 demand → PlainBelow 16000 free → Given T demand free
given_by h p q = record { some = h; wanted = p; offered = q }

-- ---- between two turns: every tick below the place's is decided

pub record Stands (C T : ℕ) (demand free : List ℕ) (w : Place) (i : ℕ) : Type 0 where
  pub most : w.at ≤ 16000
  pub wants : Wants demand (held_from C T demand free) w.demand w.wanted w.at
  pub paced : Paced C T (held_from C T demand free) w.at w.until w.budget
  pub offers : Offers free i w.at

pub stands_first : (C : ℕ) {T : ℕ} {demand free : List ℕ} → Given T demand free → Stands C T demand free (first_place demand) 0
stands_first C {T} {demand} {free} g = record {
  most = omega arith;
  wants = wants_first demand (held_from C T demand free) g.wanted.plain;
  paced = paced_first C T (held_from C T demand free);
  offers = offers_first free g.offered.plain;
}

-- the free window of a turn
pub free_window : {C T : ℕ} {demand free : List ℕ} {w : Place} {i : ℕ} → Given T demand free → Stands C T demand free w i → i < length free → WindowAt 0 free i
free_window {free = free} {i = i} g s k = window_at free i g.offered.plain s.offers.even k

pub free_most : {C T : ℕ} {demand free : List ℕ} {w : Place} {i : ℕ} → Given T demand free → Stands C T demand free w i → i < length free → get_or free (i + 1) 0 ≤ 16000
free_most {free = free} {i = i} g s k = window_below free i 16000 (free_window g s k) g.offered.over

-- ---- inside a turn: the walk has gone on from `from` to a free tick, in the window at i

pub record Turn (C T : ℕ) (demand free : List ℕ) (from : ℕ) (w : Place) (i : ℕ) : Type 0 where
  pub given : Given T demand free
  pub window : WindowAt 0 free i
  pub most : get_or free (i + 1) 0 ≤ 16000
  pub wants : Wants demand (held_from C T demand free) w.demand w.wanted w.at
  pub under : Under C T (held_from C T demand free) w.at w.until w.budget
  pub offers : Offers free i from
  pub on : from ≤ w.at
  pub low : get_or free i 0 ≤ w.at
  pub high : w.at < get_or free (i + 1) 0
  pub quiet : (t : ℕ) → from ≤ t → t < w.at → cover free t ≡ 0

pub turn_in : {C T : ℕ} {demand free : List ℕ} {w r : Place} {i at : ℕ} → Given T demand free → Stands C T demand free w i → i < length free
    → at ≡ max w.at (get_or free i 0) → Entered C T w at r → Turn C T demand free w.at r i
turn_in {C} {T} {demand} {free} {w} {r} {i} {at} g s k e n =
    rw n.there
    (record {
      given = g;
      window = free_window g s k;
      most = free_most g s k;
      wants = rw (n.demand, n.wanted) (wants_on s.wants (upto_still h w.at at (omega arith) idle));
      under = paced_enter g.some s.paced n (omega arith) idle;
      offers = s.offers;
      on = omega arith;
      low = omega arith;
      high = omega (arith, s.offers.ends k, (free_window g s k).rises);
      quiet = quiet;
    })
  where
    h : ℕ → ℕ
    h = held_from C T demand free

    quiet : (t : ℕ) → w.at ≤ t → t < at → cover free t ≡ 0
    quiet t l m = s.offers.gap t l (λ o. omega arith)

    idle : (t : ℕ) → w.at ≤ t → t < at → held_from C T demand free t ≡ 0
    idle t l m = held_not_free C T (cover demand) (cover free) g.some t (quiet t l m)

-- ---- what is free and what is held

module _ {C T : ℕ} {demand free : List ℕ} {from : ℕ} {w : Place} {i : ℕ} (u : Turn C T demand free from w i) where
  pub turn_offered : Offered demand w (get_or free (i + 1) 0)
  turn_offered = record {
    soon = u.high;
    most = u.most;
    under = u.under.soon;
    pair = λ k. (window_at demand w.demand u.given.wanted.plain u.wants.even k).pair;
    wants = u.wants.ends;
  }

  pub turn_free : (stop : ℕ) → stop ≤ get_or free (i + 1) 0 → (t : ℕ) → w.at ≤ t → t < stop → cover free t ≡ 1
  turn_free stop k t l m = u.window.inner t (omega (arith, u.low)) (omega arith)

  pub turn_idle : (t : ℕ) → from ≤ t → t < w.at → held_from C T demand free t ≡ 0
  turn_idle t l m = held_not_free C T (cover demand) (cover free) u.given.some t (u.quiet t l m)

  -- nothing is held of a piece that is left
  pub turn_left : (stop : ℕ) → Leaves demand w stop → (t : ℕ) → w.at ≤ t → t < stop → held_from C T demand free t ≡ 0
  turn_left stop (done k) t l m = idle_done C T (cover demand) (cover free) u.given.some w.at t l (u.wants.none k (suc t))
  turn_left stop (later k e) t l m =
      idle_done C T (cover demand) (cover free) u.given.some w.at t l
      (omega (arith, u.wants.count k, upto_rises (cover demand) (suc t) w.wanted (omega arith)))
  turn_left stop (spent b e) t l m =
      idle_spent C T (cover demand) (cover free) u.given.some w.until w.at t u.under.turn l (omega arith) u.under.far
      (omega (arith, u.under.left))

  -- every tick is held of a piece that is to be held
  pub ticks_held : (stop : ℕ) → stop ≤ get_or free (i + 1) 0 → Holds demand w stop → (t : ℕ) → w.at ≤ t → t < stop → held_from C T demand free t ≡ 1
  ticks_held stop k q =
      busy_block C T (cover demand) (cover free) u.given.some w.until w.at stop w.budget u.under.turn u.under.far u.under.left
      q.period q.budget (turn_free stop k)
      (wants_comes u.given.wanted.plain u.wants (omega (arith, q.pair)) q.come q.window)

  -- ---- where the walk stands behind a piece

  turn_offers : {stop n : ℕ} → w.at < stop → stop ≤ get_or free (i + 1) 0 → Behind free i stop n → Offers free n stop
  turn_offers k l b = offers_next u.given.offered.plain u.offers.even (omega (arith, u.window.pair)) u.low k l b

  pub stands_left : {stop : ℕ} → w.at < stop → stop ≤ get_or free (i + 1) 0 → Leaves demand w stop → {n : ℕ} → Behind free i stop n
      → Stands C T demand free (record w { at = stop }) n
  stands_left {stop} k l q b =
      let idle = turn_left stop q in
      record {
        most = omega (arith, u.most);
        wants = wants_on u.wants (upto_still (held_from C T demand free) w.at stop (omega arith) idle);
        paced = paced_on u.given.some u.under stop (omega arith) idle;
        offers = turn_offers k l b;
      }

  wants_served : {stop : ℕ} {r : Place} → Holds demand w stop → upto (held_from C T demand free) stop + w.at ≡ upto (held_from C T demand free) w.at + stop
      → Moved demand w stop r → Wants demand (held_from C T demand free) r.demand r.wanted stop
  wants_served {stop} {r} q e (part k d v) =
      rw d (wants_part u.given.wanted.plain u.wants (omega (arith, q.pair)) (omega (arith, q.some)) e v (omega arith))
  wants_served {stop} {r} q e (whole k d v) =
      rw (d, v) (wants_whole u.given.wanted.plain u.wants (omega (arith, q.pair)) e k)

  pub stands_served : {stop : ℕ} {r : Place} → stop ≤ get_or free (i + 1) 0 → Holds demand w stop → Served demand w stop r
      → {n : ℕ} → Behind free i r.at n → Stands C T demand free r n
  stands_served {stop} {r} l q p b =
      let e = upto_ones (held_from C T demand free) w.at stop (omega (arith, q.some)) (ticks_held stop l q) in
      record {
        most = omega (arith, p.there, u.most);
        wants = rw p.there (wants_served q e p.moved);
        paced = rw (p.there, p.until) (paced_served u.given.some u.under stop r.budget (omega (arith, q.some)) q.period e p.budget);
        offers = rw p.there (turn_offers q.some l (rw p.there at b));
      }
