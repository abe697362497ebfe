-- The two buffers of the walk over a server's free ticks: what is held and what is left of the ticks decided so far. Assumes nothing.
use Prim.Native.Nat.{ℕ, ◌+◌, ◌-◌, ◌≤◌, ◌<◌}
use mathlib.Core.Path.{◌≡◌}
use mathlib.Core.List.{List}
use native.Mathlib.Omega.{arith}
use lib.ListN.{length, get_or, take}
use lib.Seq.{length-take-le}
use Rattle.windows.specs.Windows.{cover}
use Rattle.buffers.proofs.Fronts.{plain_room}
use Rattle.holding.specs.declared.Place.{Place}
use Rattle.buffers.specs.Parts.{PlainBelow, Curve, Drawn, with_window}
use Rattle.holding.specs.Pieces.{held_from, left_from, Leaves, Holds, Served}
use Rattle.holding.proofs.HeldBlocks.{held_not_free}
use Rattle.holding.proofs.DrawnSoFar.{DrawnBelow, drawn_none, drawn_curve, drawn_on, drawn_window, drawn_all}
use Rattle.holding.proofs.Standing.{Behind}
use Rattle.holding.proofs.HoldTurns.{Given, Stands, Turn, turn_free, turn_idle, turn_left, ticks_held, stands_left, stands_served}

pub record Draws (C T : ℕ) (demand free held₀ left₀ held left : List ℕ) (n m at : ℕ) : Type 0 where
  pub in_held : DrawnBelow held₀ held n (held_from C T demand free) at
  pub in_left : DrawnBelow left₀ left m (left_from C T demand free) at

pub draws_none : (C T : ℕ) (demand free held left : List ℕ) → Draws C T demand free held left held left 0 0 0
draws_none C T demand free held left = record { in_held = drawn_none held (held_from C T demand free); in_left = drawn_none left (left_from C T demand free) }

-- there is room for a piece in either buffer
pub draws_room : {C T : ℕ} {demand free old new : List ℕ} {from i n s stop : ℕ} {w : Place} {g : ℕ → ℕ} → Turn C T demand free from w i → w.at ≡ s
    → w.at < stop → stop ≤ get_or free (i + 1) 0 → DrawnBelow old new n g from → 16000 ≤ length old → Curve new n s × (s < stop) × (stop ≤ 16000)
draws_room u e k l d r = (drawn_curve d r (omega (arith, u.on)), omega arith, omega (arith, u.most))

-- a turn brings the walk nearer to the last tick
pub turn_less : {C T : ℕ} {demand free : List ℕ} {from i stop : ℕ} {w : Place} → Turn C T demand free from w i → w.at < stop → stop ≤ get_or free (i + 1) 0
    → 16000 - stop < 16000 - from
turn_less u k l = omega (arith, u.most, u.on)

module _ {C T : ℕ} {demand free : List ℕ} {from : ℕ} {w : Place} {i : ℕ} (u : Turn C T demand free from w i) where
  -- before the piece nothing is free
  quiet_left : (t : ℕ) → from ≤ t → t < w.at → left_from C T demand free t ≡ 0
  quiet_left t k l = omega (arith, u.quiet t k l)

  draws_held : {held₀ left₀ held left out : List ℕ} {n m k stop : ℕ} → Draws C T demand free held₀ left₀ held left n m from → stop ≤ get_or free (i + 1) 0
      → Holds demand w stop → Drawn held out k (with_window (take n held) w.at stop) → Draws C T demand free held₀ left₀ out left k m stop
  draws_held {stop = stop} d l q p =
      let one = ticks_held u stop l q in
      let on = drawn_on d.in_left u.on quiet_left in
      record {
        in_held = drawn_window d.in_held u.on q.some (turn_idle u) one p;
        in_left = drawn_on on (omega (arith, q.some)) (λ t a b. omega (arith, turn_free u stop l t a b, one t a b));
      }

  draws_left : {held₀ left₀ held left out : List ℕ} {n m k stop : ℕ} → Draws C T demand free held₀ left₀ held left n m from → w.at < stop → stop ≤ get_or free (i + 1) 0
      → Leaves demand w stop → Drawn left out k (with_window (take m left) w.at stop) → Draws C T demand free held₀ left₀ held out n k stop
  draws_left {stop = stop} d k l q p =
      let none = turn_left u stop q in
      let on = drawn_on d.in_held u.on (turn_idle u) in
      record {
        in_held = drawn_on on (omega arith) none;
        in_left = drawn_window d.in_left u.on k quiet_left (λ t a b. omega (arith, turn_free u stop l t a b, none t a b)) p;
      }

  -- ---- a whole turn

  pub turn_held : {held₀ left₀ held left out : List ℕ} {n m k s stop : ℕ} {r : Place} → w.at ≡ s → Draws C T demand free held₀ left₀ held left n m from
      → stop ≤ get_or free (i + 1) 0 → Holds demand w stop → Drawn held out k (with_window (take n held) s stop) → Served demand w stop r
      → {index : ℕ} → Behind free i r.at index → Stands C T demand free r index × Draws C T demand free held₀ left₀ out left k m r.at
  turn_held e d l q p v b = (stands_served u l q v b, rw v.there (draws_held d l q (rw e p)))

  pub turn_left_over : {held₀ left₀ held left out : List ℕ} {n m k s stop : ℕ} → w.at ≡ s → Draws C T demand free held₀ left₀ held left n m from
      → w.at < stop → stop ≤ get_or free (i + 1) 0 → Leaves demand w stop → Drawn left out k (with_window (take m left) s stop)
      → {index : ℕ} → Behind free i stop index → Stands C T demand free (record w { at = stop }) index × Draws C T demand free held₀ left₀ held out n k stop
  turn_left_over e d k l q p b = (stands_left u k l q b, draws_left d k l q (rw e p))

-- ---- no free window is left

pub draws_all : {C T : ℕ} {demand free held₀ left₀ held left : List ℕ} {w : Place} {i n m : ℕ} → Given T demand free → Stands C T demand free w i
    → length free ≤ i → Draws C T demand free held₀ left₀ held left n m w.at
    → Drawn held₀ held n (held_from C T demand free) × Drawn left₀ left m (left_from C T demand free)
draws_all {C} {T} {demand} {free} {w = w} g s k d =
    (drawn_all d.in_held (λ t l. held_not_free C T (cover demand) (cover free) g.some t (over t l)), drawn_all d.in_left (λ t l. omega (arith, over t l)))
  where
    over : (t : ℕ) → w.at ≤ t → cover free t ≡ 0
    over t l = s.offers.gap t l (λ o. absurd (omega arith))

-- ticks of a curve that has room have room
pub drawn_few : {n : ℕ} {free old new : List ℕ} {f : ℕ → ℕ} → PlainBelow 16000 free → ((t : ℕ) → f t ≤ cover free t) → Drawn old new n f → n ≤ 16000
drawn_few {n} {new = new} p h d =
    let over : (t : ℕ) → 16000 ≤ t → cover (take n new) t ≡ 0 = λ t k. omega (arith, d.covers t, h t, p.over t k) in
    omega (arith, plain_room (take n new) (record { plain = d.plain; over = over }), length-take-le n new d.count)
