use Rattle.std.proofs.Common.{sym, ap, ◌∙◌, arith, rules}
use Rattle.answers.specs.Answers.{response_of}
use Rattle.judging.proofs.JobsAhead.{judging_starts, judging_ends, judging_unfinished, end_below, judging_next}
use Rattle.judging.proofs.jobs.judge.Goals as goal

pub loop-release-init : goal.loop-release-init
loop-release-init c = rw c.first_release-release.ensures (judging_starts _ _ _ c.requires.0 c.default-passed.ensures)

pub returns-in_default : goal.returns-in_default
returns-in_default c =
    let p = c.requires in
    let e = c.pass_amount-passed.ensures in
    let j = judging_unfinished c.loop-release.invariant p.0 p.2 c.loop-release-test.true e.0 e.1 e.2 c.in_default.ensures.lookup.3 in
    sym (ap (response_of c.args.task.deadline) j)

pub overflow_add-end : goal.overflow_add-end
overflow_add-end c =
    let p = c.requires in
    let e = c.pass_amount-passed.ensures in
    let at = c.in-Some.ensures.lookup.3 in
    let ends = end_below c.loop-release.invariant p.0 p.2 c.loop-release-test.true e.0 e.1 e.2 at.0 p.3 in
    rw (at.1 0) (search rules)

pub invariant_of-worse : goal.invariant_of-worse
invariant_of-worse c =
    let p = c.requires in
    let e = c.pass_amount-passed.ensures in
    let at = c.in-Some.ensures.lookup.3 in
    let ends = end_below c.loop-release.invariant p.0 p.2 c.loop-release-test.true e.0 e.1 e.2 at.0 p.3 in
    record { in_ticks = omega (arith, at.1 0, c.saturating_sub-response.ensures, p.2) }

pub loop-release-preserved : goal.loop-release-preserved
loop-release-preserved c =
    let p = c.requires in
    let e = c.pass_amount-passed.ensures in
    let at = c.in-Some.ensures.lookup.3 in
    let worst = rw (c.saturating_sub-response.ensures, at.1 0) at c.worse.ensures in
    rw c.next_release-release.ensures (judging_next c.loop-release.invariant p.0 p.2 c.loop-release-test.true e.0 e.1 e.2 at.0 worst)

pub returns : goal.returns
returns c = c.answer.ensures ∙ sym (ap (response_of c.args.task.deadline) (judging_ends c.loop-release.invariant c.loop-release-test.false))
