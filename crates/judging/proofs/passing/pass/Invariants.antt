use Rattle.std.proofs.Common.{◌≡◌, true, ◌-◌, ◌*◌, ◌⊎◌, length, get_or}
use Rattle.judging.specs.Passes.{Passes}
use Rattle.judging.proofs.passing.pass.Given as goal

abbrev pub invariant-loop-passed : goal.invariant-loop-passed
invariant-loop-passed g l = record {
  passes : Passes l.curve l.passed;
  passed : (l.passed ≡ l.fn.from) ⊎ goal.F-post g l.goes_on l.passed.given (get_or l.curve (2 * l.passed.windows - 1) 0) true;
}

abbrev pub decreases-loop-passed : goal.decreases-loop-passed
decreases-loop-passed g l = length l.curve - 2 * l.passed.windows
