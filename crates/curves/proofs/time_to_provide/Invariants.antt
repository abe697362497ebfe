-- What is ahead is plain from somewhere on, and gives what is left of the amount when the whole gives the amount.
use Rattle.std.proofs.Common.{◌≡◌, Ok, true, length}
use Rattle.windows.specs.Windows.{is_plain}
use Rattle.windows.specs.Walks.{walk}
use Rattle.curves.specs.Refusals.{provide_outcome}
use Rattle.curves.proofs.time_to_provide.Given as goal

abbrev pub invariant-loop-ahead : goal.invariant-loop-ahead
invariant-loop-ahead l = (is_plain l.ahead ≡ true) × (Ok (walk l.ahead l.left) ≡ provide_outcome l.curve l.fn.amount)

abbrev pub decreases-loop-ahead : goal.decreases-loop-ahead
decreases-loop-ahead l = length l.ahead
