-- The budgets of the first i servers are made anew, and nothing else is.
use Rattle.std.proofs.Common.{◌≡◌, take}
use Rattle.table.specs.Rules.{servers_of}
use Rattle.machine.specs.Machine.{along, refilled}
use Rattle.machine.proofs.refilling.refill.Given as goal

abbrev pub invariant-loop-i : goal.invariant-loop-i
invariant-loop-i l =
    record {
      tick : l.filled.tick ≡ l.fn.state.tick;
      waiting : l.filled.waiting ≡ l.fn.state.waiting;
      budgets : l.filled.budgets ≡ along (refilled l.fn.state.tick) (take l.i (servers_of l.fn.table)) l.fn.state.budgets;
    }
