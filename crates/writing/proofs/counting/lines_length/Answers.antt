-- A line more.
use Rattle.std.proofs.Common.{refl, ◌++◌, length, length-append, map, take, ap, arith}
use lib.Seq.{take_all}
use Rattle.putting.specs.Decimal.{feed}
use Rattle.writing.specs.Text.{ended}
use Rattle.writing.proofs.Lengths.{counted_next, counted_all}
use Rattle.writing.proofs.Puts.{lines_next}
use Rattle.writing.proofs.counting.lines_length.Goals as goal

pub loop-entry-init : goal.loop-entry-init
unfolding ended
loop-entry-init g c = record { by_fields = omega arith; counted = refl; most = omega arith; within = omega arith }

pub loop-entry-preserved : goal.loop-entry-preserved
loop-entry-preserved g c =
    let line = g.T.Line.line in
    let next = lines_next line c.args.entries.now c.entry-item.result c.loop-entry.entry-index c.loop-entry-test.true c.entry-item.is in
    let fields =
    counted_next g.T.Line.fields c.args.entries.now (length c.args.entries.now) (omega arith) c.entry-item.result c.loop-entry.n c.loop-entry.entry-index
    {r = c.length-n.result} c.loop-entry-test.true (rw (← c.entry-item.is) c.length-n.ensures.by_fields) c.loop-entry.invariant.by_fields in
    record {
      by_fields = omega (arith, fields);
      counted = omega (arith, c.loop-entry.invariant.counted, c.length-n.ensures.counted, ap length next, length-append (ended (map line (take c.loop-entry.entry-index c.args.entries.now))) (line c.entry-item.result ++ feed));
      most = omega (arith, c.loop-entry.invariant.most, c.length-n.ensures.most);
      within = omega arith;
    }

pub returns-clause-by_fields : goal.returns-clause-by_fields
returns-clause-by_fields g c =
    let xs = c.args.entries.now in
    let whole = take_all (length xs) xs (omega arith) in
    rw whole at (counted_all g.T.Line.fields xs (length xs) (omega arith) _ c.loop-entry.entry-index (omega (arith, c.loop-entry-test.false)) c.loop-entry.invariant.by_fields)
