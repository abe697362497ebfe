-- How the private functions of the step go.
use Rattle.std.specs.Prelude.{ℕ, zero, suc, ◌<◌, ◌≡◌, List, get_or, ltb}
use Rattle.basics.specs.Choice.{pick}
use Rattle.table.specs.declared.Table.{Table}
use Rattle.machine.specs.declared.State.{State}
use Rattle.machine.specs.Machine.{first_task}

-- each server's first task with waiting work, by its place
abbrev pub Firsts : Table → State → List ℕ → Type 0
Firsts table s firsts = (i : ℕ) → i < 16 → get_or firsts i 0 ≡ first_task table s (suc i)

-- the first task seen so far, going up the table, once the task of a number is looked at
abbrev pub noted : ℕ → ℕ → ℕ → ℕ
noted waiting number seen = pick (ltb 0 waiting) number seen

-- the entry of a number, and 0 for 0
abbrev pub entry_of : List ℕ → ℕ → ℕ
entry_of l zero = 0
entry_of l (suc i) = get_or l i 0

-- the entry of a number is not 0
abbrev pub Has : List ℕ → ℕ → Type 0
Has l n = (i : ℕ) → n ≡ suc i → 0 < get_or l i 0
