-- What is ahead is plain from `low` on just when the whole is plain.
use Rattle.std.proofs.Common.{◌≡◌, length}
use Rattle.windows.specs.Windows.{plain_from, is_plain}
use Rattle.curves.proofs.plain.Given as goal

abbrev pub invariant-loop-ahead : goal.invariant-loop-ahead
invariant-loop-ahead l = plain_from l.low l.ahead ≡ is_plain l.curve

abbrev pub decreases-loop-ahead : goal.decreases-loop-ahead
decreases-loop-ahead l = length l.ahead
