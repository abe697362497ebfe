-- `handing::listing::list_rows`: the rows up to here are written.
use Rattle.std.proofs.Common.{◌≡◌, ◌≤◌, length, take}
use Rattle.refusals.specs.Outcomes.{front}
use Rattle.entries.specs.Entries.{rows}
use Rattle.handing.proofs.listing.list_rows.Given as goal

abbrev pub invariant-loop-i : goal.invariant-loop-i
invariant-loop-i g l =
    record { written : l.out ≡ front (rows g.T.Row.numbers (take l.i l.answers)) l.initial.out; within : l.i ≤ length l.answers; long : length l.out ≡ length l.initial.out }
