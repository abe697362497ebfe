-- What is written and what is ahead are together the whole, and that ends in time.
use Rattle.std.proofs.Common.{◌≡◌, true, length}
use lib.Dec.{leb}
use Rattle.windows.specs.Windows.{end_of}
use Rattle.walks.proofs.Buffers.{Written}
use Rattle.walks.proofs.write.Given as goal

abbrev pub invariant-loop-step : goal.invariant-loop-step
invariant-loop-step g l =
    let w = g.W.Walk in
    w.sound l.place × Written (w.ahead l.fn.walk) (w.ahead l.place) l.fn.out l.out l.count
    × (leb (end_of (w.ahead l.place)) 1000000 ≡ true)

abbrev pub decreases-loop-step : goal.decreases-loop-step
decreases-loop-step g l = length (g.W.Walk.ahead l.place)
