-- By the first window of the demand that is still to come.
use Rattle.std.proofs.Common.{refl, arith}
use Rattle.fitting.proofs.Stretches.{advancing_first, advancing_whole, stretching_rises, stretching_gap, stretching_over, stretching_end}
use Rattle.fitting.proofs.Fitting.stretch.Goals as goal

pub loop-served-init : goal.loop-served-init
loop-served-init c = advancing_first c.requires refl refl refl

pub overflow_sub-length : goal.overflow_sub-length
overflow_sub-length c = omega (arith, stretching_rises c.loop-served.invariant.stretching c.in-len2-up.len_at_least, c.max-start.ensures)

pub returns-then-served-start-clause-stretches : goal.returns-then-served-start-clause-stretches
returns-then-served-start-clause-stretches c = stretching_gap c.loop-served.invariant.stretching c.in-len2-up.len_at_least (rw c.max-start.ensures at c.if-served-start.true)

pub returns-then-end-served-clause-stretches : goal.returns-then-end-served-clause-stretches
returns-then-end-served-clause-stretches c =
    let start = c.max-start.ensures in
    stretching_over c.loop-served.invariant.stretching c.in-len2-up.len_at_least (rw start at c.if-served-start.false) (rw start at c.if-end-served.true) refl (omega (arith, start)) refl

pub loop-served-preserved : goal.loop-served-preserved
loop-served-preserved c =
    let start = c.max-start.ensures in
    advancing_whole c.loop-served.invariant c.in-len2-up.len_at_least (rw start at c.if-served-start.false) (rw start at c.if-end-served.false) refl refl (omega (arith, start))

pub returns-clause-stretches : goal.returns-clause-stretches
returns-clause-stretches c = stretching_end c.loop-served.invariant.stretching c.in_default.len_below
