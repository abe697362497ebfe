use Rattle.std.proofs.Common.{sym, ◌∙◌, length}
use borrow.Author.Tests.{leb-true}
use lib.Dec.{leb}
use Rattle.basics.proofs.Tests.{and_left, and_right}
use Rattle.windows.specs.Windows.{end_of}
use Rattle.walks.proofs.Buffers.{written_none, written_pair}
use Rattle.walks.proofs.Sums.{ends_pair}
use Rattle.walks.proofs.write.Goals as goal

pub loop-step-init : goal.loop-step-init
loop-step-init g c =
    let whole = g.W.Walk.ahead c.args.walk in
    let fits = leb (length whole) (length c.args.out.now) in
    let ends = leb (end_of whole) 1000000 in
    (c.requires.0, written_none _ _ (leb-true _ _ (and_left fits ends c.requires.1)), and_right fits ends c.requires.1)

pub loop-step-preserved : goal.loop-step-preserved
loop-step-preserved g c =
    let inv = c.loop-step.invariant in
    let step = rw c.in-Ok-Some.field-0-is at c.in-Ok-Some.ensures in
    let put = c.put-count.ensures in
    (step.behind, rw (put.0, put.1) (written_pair inv.1 step.is), sym (ends_pair step.is step.bounded) ∙ inv.2)
