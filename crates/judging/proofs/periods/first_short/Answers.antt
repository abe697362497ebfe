use Rattle.judging.proofs.ShortPeriods.{looking_starts, count_rises, looking_finds, looking_next, looking_ends}
use Rattle.judging.proofs.periods.first_short.Goals as goal

pub loop-k-init : goal.loop-k-init
loop-k-init c = looking_starts _ _ _ _ c.default-passed.ensures

pub overflow_sub-given : goal.overflow_sub-given
overflow_sub-given c = count_rises c.loop-k.invariant c.given_below-given.ensures

pub returns-then-given-before : goal.returns-then-given-before
returns-then-given-before c = looking_finds c.loop-k.invariant c.given_below-given.ensures c.loop-k-test.true c.if-given-before.true

pub loop-k-preserved : goal.loop-k-preserved
loop-k-preserved c =
    let e = c.pass_instant-passed.ensures in
    looking_next c.loop-k.invariant c.given_below-given.ensures c.loop-k-test.true c.if-given-before.false e.0 e.1

pub returns : goal.returns
returns c = looking_ends c.loop-k.invariant c.loop-k-test.false
