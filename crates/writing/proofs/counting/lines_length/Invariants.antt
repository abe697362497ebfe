-- `writing::counting::lines_length`: the lines up to here are counted.
use Rattle.std.proofs.Common.{◌≡◌, ◌*◌, ◌≤◌, length, take, map, arith}
use Rattle.writing.specs.Text.{ended}
use Rattle.writing.proofs.Lengths.{Counted}
use Rattle.writing.proofs.counting.lines_length.Given as goal

abbrev pub invariant-loop-entry : goal.invariant-loop-entry
invariant-loop-entry g l =
    let t = g.T.Line in
    record {
      by_fields : Counted t.fields l.entries (length l.entries) (omega arith) l.n l.entry-index;
      counted : l.n ≡ length (ended (map t.line (take l.entry-index l.entries)));
      most : l.n ≤ l.entry-index * 61;
      within : l.entry-index ≤ length l.entries;
    }
