use lib.ListN.{length}
use Rattle.fields.specs.Fields.{split}
use Rattle.reading.proofs.Rows.{Underway}
use Rattle.reading.proofs.read_lines.Given as goal

-- the table so far and the lines still to come give what all lines give
abbrev pub invariant-loop-line : goal.invariant-loop-line
invariant-loop-line l = Underway (split 10 l.lines) (length l.yielded) l.table l.n
