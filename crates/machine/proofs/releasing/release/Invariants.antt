-- The first j tasks have gained, and nothing else has changed.
use Rattle.std.proofs.Common.{◌≡◌, take}
use Rattle.table.specs.Rules.{tasks_of}
use Rattle.machine.specs.Machine.{along, gained}
use Rattle.machine.proofs.releasing.release.Given as goal

abbrev pub invariant-loop-j : goal.invariant-loop-j
invariant-loop-j l =
    record {
      tick : l.released.tick ≡ l.fn.state.tick;
      budgets : l.released.budgets ≡ l.fn.state.budgets;
      waiting : l.released.waiting ≡ along (gained l.fn.state.tick) (take l.j (tasks_of l.fn.table)) l.fn.state.waiting;
    }
