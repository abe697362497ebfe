-- What the opening of a call tells: its table is that of an accepted text, and the tick lies in its span; a refusal has a number. Assumes nothing.
use Prim.Native.Nat.{ℕ, ◌≤◌, ◌<◌}
use mathlib.Core.Path.{◌≡◌, refl, sym}
use mathlib.Core.List.{List, [], ◌∷◌}
use mathlib.Core.Bool.{Bool, true, false}
use native.Mathlib.Omega.{arith}
use lib.Dec.{leb}
use borrow.Author.Tests.{leb-true, leb-false}
use Rattle.std.specs.Prelude.{Result, Ok, Err}
use Rattle.basics.specs.Choice.{pick}
use Rattle.basics.proofs.Tests.{and_left, and_right}
use Rattle.refusals.specs.Refusals.{refused_for}
use Rattle.refusals.specs.declared.Refusal.{Refusal}
use Rattle.refusals.specs.declared.Ground.TheVariants.{WorkRoom, OutOfStep}
use Rattle.table.specs.Places.{Obeyed}
use Rattle.table.specs.declared.Table.{Table}
use Rattle.reading.specs.Reading.{reading_of}
use Rattle.reading.proofs.Accepted.{accepted_obeyed}
use Rattle.reading.proofs.TurnedAway.{turned_away}
use Rattle.opening.specs.Opening.{enough, at_tick, opened_of}

-- a call that is not refused
pub record Opens (text : List ℕ) (tick : ℕ) (room : Bool) (table : Table) : Type 0 where
  pub roomy : room ≡ true
  pub accepted : reading_of text ≡ Ok table
  pub within : tick < table.span
  pub obeyed : Obeyed table

module _ (text : List ℕ) (tick : ℕ) where
  told : (x : Result Table Refusal) → reading_of text ≡ x → {table : Table} → at_tick tick x ≡ Ok table → Opens text tick true table
  told (Ok t) e {table} h = go (leb t.span tick) refl h
    where
      go : (b : Bool) → leb t.span tick ≡ b → pick b (Err (refused_for OutOfStep)) (Ok t) ≡ Ok table → Opens text tick true table
      go true q h = absurd cc
      go false q h = let s : t ≡ table = cc in rw (sym s) (record { roomy = refl; accepted = e; within = leb-false t.span tick q; obeyed = accepted_obeyed text e })
  told (Err r) e h = absurd cc

  pub opened_ready : (room : Bool) {table : Table} → opened_of text tick room ≡ Ok table → Opens text tick room table
  opened_ready true h = told (reading_of text) refl h
  opened_ready false h = absurd cc

  number_told : (x : Result Table Refusal) → reading_of text ≡ x → {r : Refusal} → at_tick tick x ≡ Err r → 0 < r.number
  number_told (Ok t) e {r} h = go (leb t.span tick) h
    where
      go : (b : Bool) → pick b (Err (refused_for OutOfStep)) (Ok t) ≡ Err r → 0 < r.number
      go true h = let s : refused_for OutOfStep ≡ r = cc in rw (sym s) (omega arith)
      go false h = absurd cc
  number_told (Err d) e {r} h = let s : d ≡ r = cc in rw (sym s) (turned_away text d e).number

  pub opened_refused : (room : Bool) {r : Refusal} → opened_of text tick room ≡ Err r → 0 < r.number
  opened_refused true h = number_told (reading_of text) refl h
  opened_refused false {r} h = let s : refused_for WorkRoom ≡ r = cc in rw (sym s) (omega arith)

-- where there is room, each of the six buffers has it
pub each_enough : (a b c d e f : ℕ) → enough (a ∷ b ∷ c ∷ d ∷ e ∷ f ∷ []) ≡ true
    → (16000 ≤ a) × (16000 ≤ b) × (16000 ≤ c) × (16000 ≤ d) × (16000 ≤ e) × (16000 ≤ f)
each_enough a b c d e f h =
    let p = and_right (leb 16000 a) _ h in
    let q = and_right (leb 16000 b) _ p in
    let r = and_right (leb 16000 c) _ q in
    let s = and_right (leb 16000 d) _ r in
    let t = and_right (leb 16000 e) _ s in (
      leb-true 16000 a (and_left (leb 16000 a) _ h),
      leb-true 16000 b (and_left (leb 16000 b) _ p),
      leb-true 16000 c (and_left (leb 16000 c) _ q),
      leb-true 16000 d (and_left (leb 16000 d) _ r),
      leb-true 16000 e (and_left (leb 16000 e) _ s),
      leb-true 16000 f (and_left (leb 16000 f) _ t),
    )
