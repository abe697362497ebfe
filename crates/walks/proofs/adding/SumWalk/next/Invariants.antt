-- The open window and what is left of both curves grow to the whole sum.
use Rattle.std.proofs.Common.{length}
use Rattle.walks.specs.Steps.{merge_ahead, sum_ahead}
use Rattle.walks.proofs.Sums.{Open}
use Rattle.walks.proofs.adding.SumWalk.next.Given as goal

abbrev pub invariant-loop-next : goal.invariant-loop-next
invariant-loop-next l = Open (sum_ahead l.fn.self) l.open

abbrev pub decreases-loop-next : goal.decreases-loop-next
decreases-loop-next l = length (merge_ahead l.open.behind)
