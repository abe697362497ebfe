-- Where a table comes out, it obeys the rules.
use Rattle.std.proofs.Common.{◌≡◌, sym, Ok}
use Rattle.opening.specs.Opening.{roomy, opened_of}
use Rattle.opening.proofs.Opened.{opened_ready}
use Rattle.scheduling.proofs.work_out.Goals as goal

pub answer_all-notes-requires : goal.answer_all-notes-requires
answer_all-notes-requires c =
    let a = c.args in
    let room = roomy a.free.now a.sum.now a.part.now a.held.now a.running.now a.spare.now in
    let e : opened_of a.text.now a.tick room ≡ Ok c.in_ok-table.table = sym c.in_ok-table.ensures in
    (opened_ready a.text.now a.tick room e).obeyed
