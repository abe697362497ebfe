-- What a refused step hands out. Assumes nothing.
use mathlib.Core.Path.{◌≡◌, refl, ap}
use mathlib.Core.Bool.{Bool, true, false}
use Rattle.refusals.specs.declared.Refusal.{Refusal}
use Rattle.table.specs.declared.Table.{Table}
use Rattle.machine.specs.Machine.{accepts, step_of}
use Rattle.machine.specs.declared.State.{State}
use Rattle.machine.proofs.Grounds.{step_refused, step_accepted}
use Rattle.handing_tables.specs.Tables.{refusal_in, number_in, unplaced}

-- equal refusals have equal numbers
pub same_number : {p q : Refusal} → p ≡ q → p.number ≡ q.number
same_number e = ap (λ (r : Refusal). r.number) e

-- a step's refusal has no line and no place
pub step_unplaced : (table : Table) (s : State) → unplaced (number_in (step_of table s)) ≡ refusal_in (step_of table s)
step_unplaced table s = go (accepts table s) refl
  where
    go : (b : Bool) → accepts table s ≡ b → unplaced (number_in (step_of table s)) ≡ refusal_in (step_of table s)
    go true e = rw (step_accepted table s e)
    go false e = rw (step_refused table s e)
