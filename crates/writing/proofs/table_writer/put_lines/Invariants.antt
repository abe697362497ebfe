-- `writing::table_writer::put_lines`: the lines up to here are put.
use Rattle.std.proofs.Common.{take, map}
use Rattle.putting.specs.Puts.{Put}
use Rattle.writing.specs.Text.{ended}
use Rattle.writing.proofs.table_writer.put_lines.Given as goal

abbrev pub invariant-loop-entry : goal.invariant-loop-entry
invariant-loop-entry g l = Put l.fn.out l.out l.n (ended (map g.T.Line.line (take l.entry-index l.entries))) l.at
