use Rattle.std.proofs.Common.{◌<◌, ◌≤◌, ◌+◌, ◌-◌, ◌*◌, length, get_or, inl, inr, rules}
use Rattle.judging.proofs.PassedWindows.{provide_next}
use Rattle.judging.proofs.passing.pass_amount.Goals as goal

pub returns : goal.returns
returns c =
    let p = c.requires in
    let l = c.args.curve.now in
    let r = c.pass.result in
    let above : r.given < c.args.amount = elim c.pass.ensures.passed [ inl e ↦ rw e p.2 | inr d ↦ search rules ] in
    let long : 2 * r.windows < length l → c.args.amount ≤ r.given + (get_or l (2 * r.windows + 1) 0 - get_or l (2 * r.windows) 0) =
    λ h. let d = c.pass.ensures.stopped h in search rules in
    (c.pass.ensures.passes, above, provide_next l r _ p.0 c.pass.ensures.passes above long)
