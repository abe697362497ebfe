use Rattle.std.proofs.Common.{◌≡◌, ◌+◌, ◌-◌, ◌*◌, inr, arith, rules}
use Rattle.judging.proofs.PassedWindows.{next_window, passes_more, passed_all, ahead_start, ahead_end, ahead_pair}
use Rattle.judging.proofs.Instants.{given_before}
use Rattle.judging.proofs.passing.pass.Goals.{in_default, in-len2-up+then-not-goes_on}
use Rattle.judging.proofs.passing.pass.Goals as goal

pub overflow_sub-given : goal.overflow_sub-given
overflow_sub-given g c =
    let l = c.args.curve.now in
    let w = c.loop-passed.passed.windows in
    let pair = ahead_pair l (2 * w) c.in-len2-up.len_at_least in
    let rises = (next_window c.requires.curve.0 w (omega arith)).rises in
    rw (ahead_start l (2 * w), ahead_end l (2 * w)) (omega arith)

pub overflow_add-given : goal.overflow_add-given
overflow_add-given g c =
    let l = c.args.curve.now in
    let w = c.loop-passed.passed.windows in
    let pair = ahead_pair l (2 * w) c.in-len2-up.len_at_least in
    let rises = (next_window c.requires.curve.0 w (omega arith)).rises in
    let before = given_before c.requires.curve.0 c.loop-passed.invariant.passes (omega arith) in
    let end = c.type_inv.curve (2 * w + 1) in
    rw (ahead_start l (2 * w), ahead_end l (2 * w)) (search rules)

pub loop-passed-preserved : goal.loop-passed-preserved
loop-passed-preserved g c =
    let l = c.args.curve.now in
    let w = c.loop-passed.passed.windows in
    let pair = ahead_pair l (2 * w) c.in-len2-up.len_at_least in
    let last : 2 * (w + 1) - 1 ≡ 2 * w + 1 = omega arith in
    let went = c.if-not-goes_on.ensures in
    rw (ahead_start l (2 * w), ahead_end l (2 * w)) (record {
      passes = passes_more c.requires.curve.0 c.loop-passed.invariant.passes (omega arith);
      passed = inr (rw last (rw (ahead_start l (2 * w), ahead_end l (2 * w)) at went));
    })

pub returns-clause-stopped : goal.returns-clause-stopped
returns-clause-stopped g c =
    let l = c.args.curve.now in
    let w = c.loop-passed.passed.windows in
    elim c.if-curve-passed-lt2.branch [
      | in_default b ↦ (λ h. absurd (omega (arith, passed_all l w c.requires.curve.0 b.in_default.len_below)))
      | in-len2-up+then-not-goes_on b ↦ (λ h. let held = b.if-not-goes_on.ensures in rw (ahead_start l (2 * w), ahead_end l (2 * w)) at held)
    ]
