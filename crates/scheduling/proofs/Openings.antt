-- What the opening of a call tells: where a table comes out the text is accepted and the tick lies in the span, and elsewhere the call is refused
-- so. Assumes nothing.
use Prim.Native.Nat.{ℕ}
use mathlib.Core.Path.{◌≡◌, refl, ◌∙◌}
use mathlib.Core.List.{List}
use mathlib.Core.Bool.{Bool, true, false}
use native.Mathlib.Omega.{arith}
use lib.Dec.{leb}
use borrow.Author.Tests.{leb-true}
use Rattle.std.specs.Prelude.{Result, Ok, Err}
use Rattle.refusals.specs.Refusals.{refused_for}
use Rattle.refusals.specs.declared.Ground.TheVariants.{OutOfStep, WorkRoom}
use Rattle.refusals.specs.declared.Refusal.{Refusal}
use Rattle.table.specs.declared.Table.{Table}
use Rattle.table.proofs.Obeyed.{span_some}
use Rattle.reading.specs.Reading.{reading_of}
use Rattle.reading.proofs.Accepted.{accepted_obeyed}
use Rattle.opening.specs.Opening.{opened_of}
use Rattle.scheduling.specs.Asking.{who_of}
use Rattle.scheduling.specs.Analysing.{analysis_of}

module _ (text : List ℕ) (tick : ℕ) where
  -- the ways that it can go
  pub data Way (room : Bool) : Type 0 where
    ready : (table : Table) → opened_of text tick room ≡ Ok table → Way room
    refused : (refusal : Refusal) → opened_of text tick room ≡ Err refusal → who_of text tick room ≡ Err refusal
        → (tick ≡ 0 → analysis_of text room ≡ Err refusal) → Way room

  accepted_way : (table : Table) → reading_of text ≡ Ok table → (b : Bool) → leb table.span tick ≡ b → Way true
  accepted_way table e false h = ready table (rw (e, h))
  accepted_way table e true h =
      refused (refused_for OutOfStep) (rw (e, h)) (rw (e, h)) (λ z. absurd (omega (arith, span_some table (accepted_obeyed text e), leb-true table.span tick h)))

  read_way : (x : Result Table Refusal) → reading_of text ≡ x → Way true
  read_way (Ok table) e = accepted_way table e (leb table.span tick) refl
  read_way (Err refusal) e = refused refusal (rw e) (rw e) (λ z. rw e)

  pub way : (room : Bool) → Way room
  way true = read_way (reading_of text) refl
  way false = refused (refused_for WorkRoom) refl refl (λ z. refl)

  -- a refused call is refused so
  pub refused_who : (room : Bool) (refusal : Refusal) → opened_of text tick room ≡ Err refusal → who_of text tick room ≡ Err refusal
  refused_who room refusal e = go (way room)
    where
      go : Way room → who_of text tick room ≡ Err refusal
      go (ready table q) = absurd (cc)
      go (refused other q w a) = w ∙ cc

  pub refused_analysis : (room : Bool) (refusal : Refusal) → tick ≡ 0 → opened_of text tick room ≡ Err refusal → analysis_of text room ≡ Err refusal
  refused_analysis room refusal z e = go (way room)
    where
      go : Way room → analysis_of text room ≡ Err refusal
      go (ready table q) = absurd (cc)
      go (refused other q w a) = a z ∙ cc
