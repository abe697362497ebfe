-- Of each result, what is written and what is still to come at `place` are together the whole.
use Rattle.fitting.specs.Steps.{fit_ahead, FitSound}
use Rattle.fitting.proofs.Fittings.{total, FitWritten}
use Rattle.fitting.proofs.write.Given as goal

abbrev pub invariant-loop-piece : goal.invariant-loop-piece
invariant-loop-piece l =
    FitSound l.place
    × FitWritten (fit_ahead l.fn.fitting) (fit_ahead l.place) (record { left = l.fn.left; served = l.fn.served; rest = l.fn.rest })
    (record { left = l.left; served = l.served; rest = l.rest }) l.written

abbrev pub decreases-loop-piece : goal.decreases-loop-piece
decreases-loop-piece l = total (fit_ahead l.place)
