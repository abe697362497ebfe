use Rattle.std.proofs.Common.{arith}
use Rattle.windows.specs.Walks.{grown}
use Rattle.walks.proofs.Sums.{open_first_lem, open_end, open_gap, open_more}
use Rattle.walks.proofs.adding.SumWalk.next.Goals as goal

pub returns-in_default : goal.returns-in_default
unfolding grown
returns-in_default c = rw c.in_default.ensures

pub loop-next-init : goal.loop-next-init
loop-next-init c = open_first_lem c.requires c.in-Some.ensures

pub returns-then-open-next : goal.returns-then-open-next
returns-then-open-next c =
    let o = c.loop-next.invariant in
    record { is = open_gap o c.in-Some-take.ensures (omega arith); bounded = o.bounded; behind = o.plain }

pub loop-next-preserved : goal.loop-next-preserved
loop-next-preserved c = open_more c.loop-next.invariant c.in-Some-take.ensures (omega arith) (omega arith)

pub returns : goal.returns
returns c = let o = c.loop-next.invariant in record { is = open_end o c.in_default-take.ensures; bounded = o.bounded; behind = o.plain }
