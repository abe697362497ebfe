-- The rows of the first i entries are written.
use Rattle.entries.proofs.Rows.{RowsTo}
use Rattle.entries.proofs.hand.Given as goal

abbrev pub invariant-loop-i : goal.invariant-loop-i
invariant-loop-i g l = RowsTo g.E.Row.row_of g.row.W g.met.E.Row.wide l.entries l.i l.fn.out l.out
