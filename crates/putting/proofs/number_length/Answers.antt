-- A digit more is taken off, or the last one is left.
use Rattle.std.proofs.Common.{arith}
use Rattle.putting.proofs.Decimals.{decimal_length}
use Rattle.putting.proofs.Numbers.{measured_next, measured_all, measured_few}
use Rattle.putting.proofs.number_length.Goals as goal

pub overflow_add-digits : goal.overflow_add-digits
overflow_add-digits c =
    let few = measured_few _ _ _ (omega (arith, c.loop-left-test.true)) c.ranges.value c.loop-left.invariant in record { fits = omega (arith, few) }

pub loop-left-preserved : goal.loop-left-preserved
loop-left-preserved c = measured_next _ _ _ (omega (arith, c.loop-left-test.true)) c.loop-left.invariant

pub returns : goal.returns
returns c =
    let all = measured_all _ _ _ (omega (arith, c.loop-left-test.false)) c.loop-left.invariant in (all, omega (arith, all, decimal_length _ c.ranges.value))
