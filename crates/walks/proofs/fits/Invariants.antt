-- Of the room, `free` is left, and of the windows those ahead are still to come; how they end is how the whole ends.
use Rattle.std.proofs.Common.{◌≡◌, length}
use lib.Dec.{leb}
use Rattle.windows.specs.Windows.{end_of}
use Rattle.walks.proofs.Buffers.{Counted}
use Rattle.walks.proofs.fits.Given as goal

abbrev pub invariant-loop-next : goal.invariant-loop-next
invariant-loop-next g l =
    let w = g.W.Walk in
    w.sound l.place × Counted (w.ahead l.fn.walk) (w.ahead l.place) l.room l.free
    × (leb (end_of (w.ahead l.place)) 1000000 ≡ leb (end_of (w.ahead l.fn.walk)) 1000000)

abbrev pub decreases-loop-next : goal.decreases-loop-next
decreases-loop-next g l = length (g.W.Walk.ahead l.place)
