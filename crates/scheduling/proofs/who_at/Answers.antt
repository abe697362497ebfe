-- What was worked out is what it answers.
use Rattle.std.proofs.Common.{sym}
use Rattle.std.proofs.lemmas.Result.{err_from_is_err_and}
use Rattle.opening.specs.Opening.{roomy}
use Rattle.scheduling.proofs.Answered.{told_is, works_few}
use Rattle.scheduling.proofs.Openings.{refused_who}
use Rattle.scheduling.proofs.who_at.Goals as goal

pub told-requires : goal.told-requires
told-requires c =
    let a = c.args in
    let w = c.in_ok-worked.ensures.works in
    works_few a.text.now a.tick (roomy a.free.now a.sum.now a.part.now a.held.now a.running.now a.spare.now) c.in_ok-worked.worked w.0 w.1

pub returns : goal.returns
returns c =
    let a = c.args in
    let w = c.in_ok-worked.ensures.works in
    record {
      answer = rw c.told.ensures (sym (told_is a.text.now a.tick (roomy a.free.now a.sum.now a.part.now a.held.now a.running.now a.spare.now) c.in_ok-worked.worked w.0 w.1));
      buffers = c.in_ok-worked.ensures.buffers;
    }

pub returns-in_err-worked : goal.returns-in_err-worked
returns-in_err-worked c =
    let a = c.args in
    let e = c.in_err-worked.ensures in
    let p = err_from_is_err_and c.from_residual.result c.from_residual.ensures.1 in
    rw (p.1, p.2) (record { answer = sym (refused_who a.text.now a.tick (roomy a.free.now a.sum.now a.part.now a.held.now a.running.now a.spare.now) _ e.works); buffers = e.buffers })
