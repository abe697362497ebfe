-- Document 01, 'Servers, one tick at a time': the run of the machine from tick 0 on, without end.
use Rattle.std.specs.Prelude.{ℕ, zero, suc, replicate, eqb}
use Rattle.basics.specs.Choice.{pick}
use Rattle.table.specs.declared.Table.{Table}
use Rattle.machine.specs.declared.State.{State}
use Rattle.machine.specs.Machine.{holder, runner, next}

-- "Before tick 0 all budgets and waiting work are zero"
abbrev pub all_zero : State
all_zero = record { tick = 0; budgets = replicate 16 0; waiting = replicate 64 0 }

-- the state before tick t
unfoldable pub state_before : Table → ℕ → State
state_before table zero = all_zero
state_before table (suc t) = next table (state_before table t)

-- who holds tick t, and who runs in it
abbrev pub holder_at : Table → ℕ → ℕ
holder_at table t = holder table (state_before table t)

abbrev pub runner_at : Table → ℕ → ℕ
runner_at table t = runner table (state_before table t)

-- 1 where the server at place i holds the tick t, and 0 elsewhere
abbrev pub holds : Table → ℕ → ℕ → ℕ
holds table i t = pick (eqb (holder_at table t) (suc i)) 1 0

-- 1 where the task at place j runs in the tick t, and 0 elsewhere
abbrev pub runs_in : Table → ℕ → ℕ → ℕ
runs_in table j t = pick (eqb (runner_at table t) (suc j)) 1 0
