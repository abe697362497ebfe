use Rattle.std.proofs.Common.{sym, ◌∙◌}
use Rattle.windows.specs.Windows.{end_of}
use Rattle.walks.proofs.Buffers.{counted_pair, counted_all}
use Rattle.walks.proofs.Sums.{ends_pair}
use Rattle.walks.proofs.fits.Goals as goal

pub returns-in_default-next : goal.returns-in_default-next
unfolding end_of
returns-in_default-next g c =
    let inv = c.loop-next.invariant in
    let none = rw c.in_default-next.is at c.in-Ok.ensures in
    rw (counted_all inv.1 none, ← inv.2, none)

pub loop-next-preserved : goal.loop-next-preserved
loop-next-preserved g c =
    let inv = c.loop-next.invariant in
    let step = rw c.in-Some.is at c.in-Ok.ensures in
    let less = c.in-Some-checked_sub.ensures in
    (step.behind, rw less.1 (counted_pair inv.1 step.is less.0), sym (ends_pair step.is step.bounded) ∙ inv.2)
