-- Up to `till` all is served in one stretch, and the demand behind it, at a place of the curve, is still to come.
use Rattle.std.proofs.Common.{length}
use Rattle.fitting.proofs.Stretches.{Advancing}
use Rattle.fitting.proofs.Fitting.stretch.Given as goal

abbrev pub invariant-loop-served : goal.invariant-loop-served
invariant-loop-served l = Advancing l.fn.self l.fn.from l.fn.end l.served

abbrev pub decreases-loop-served : goal.decreases-loop-served
decreases-loop-served l = length l.served.demand.now
