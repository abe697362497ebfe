-- `handing::listing::list_margins`: the margins up to here are written.
use Rattle.std.proofs.Common.{◌≤◌, take}
use Rattle.handing.specs.Handing.{margin_number}
use Rattle.handing.proofs.Listed.{ListedTo}
use Rattle.handing.proofs.listing.list_margins.Given as goal

abbrev pub invariant-loop-j : goal.invariant-loop-j
invariant-loop-j l =
    record { within : l.j ≤ l.n; written : ListedTo margin_number (take l.n l.fn.tasks) l.j l.initial.margin l.margin }
