-- Of the rooms, `free` is left, and of the fitting what is at `place` is still to come.
use Rattle.fitting.specs.Steps.{fit_ahead, FitSound}
use Rattle.fitting.proofs.Fittings.{total, FitCounted}
use Rattle.fitting.proofs.fits.Given as goal

abbrev pub invariant-loop-piece : goal.invariant-loop-piece
invariant-loop-piece l = FitSound l.place × FitCounted (fit_ahead l.fn.fitting) (fit_ahead l.place) l.fn.rooms l.free

abbrev pub decreases-loop-piece : goal.decreases-loop-piece
decreases-loop-piece l = total (fit_ahead l.place)
