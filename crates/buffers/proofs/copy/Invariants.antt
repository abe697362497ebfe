use Rattle.buffers.proofs.Copies.{Filled}
use Rattle.buffers.proofs.copy.Given as goal

-- the first numbers are those of the curve
abbrev pub invariant-loop-i : goal.invariant-loop-i
invariant-loop-i l = Filled l.fn.out l.out l.curve l.i
