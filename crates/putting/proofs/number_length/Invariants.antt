-- `putting::number_length`: the digits taken off are counted, and the last one.
use Rattle.putting.proofs.Numbers.{Measured}
use Rattle.putting.proofs.number_length.Given as goal

abbrev pub invariant-loop-left : goal.invariant-loop-left
invariant-loop-left l = Measured l.value l.left l.digits

abbrev pub decreases-loop-left : goal.decreases-loop-left
decreases-loop-left l = l.left
