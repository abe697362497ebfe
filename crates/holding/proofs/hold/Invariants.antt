use Rattle.std.proofs.Common.{◌-◌}
use Rattle.holding.proofs.Ahead.{Ahead, index_of}
use Rattle.holding.proofs.HoldTurns.{Stands}
use Rattle.holding.proofs.HoldDraws.{Draws}
use Rattle.holding.proofs.hold.Given as goal

-- below the place, every tick is decided, and held or left
abbrev pub invariant-loop-ahead : goal.invariant-loop-ahead
invariant-loop-ahead l = record {
  ahead : Ahead l.free l.ahead;
  stands : Stands l.capacity l.period l.demand l.free l.place (index_of l.free l.ahead);
  draws : Draws l.capacity l.period l.demand l.free l.fn.held l.fn.left l.held l.left l.counts.taken l.counts.left l.place.at;
}

abbrev pub decreases-loop-ahead : goal.decreases-loop-ahead
decreases-loop-ahead l = 16000 - l.place.at
