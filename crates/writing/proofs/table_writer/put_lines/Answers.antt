-- Each line is put into the part of the buffer behind those already there.
use Rattle.std.proofs.Common.{◌-◌, length, arith, rules}
use Rattle.writing.specs.Text.{ended}
use Rattle.putting.proofs.Puts.{put_none}
use Rattle.writing.proofs.Puts.{line_inside, line_fits, line_put}
use Rattle.writing.proofs.table_writer.put_lines.Goals as goal

pub loop-entry-init : goal.loop-entry-init
unfolding ended
loop-entry-init g c = put_none _ _

pub slice_bounds-put-count : goal.slice_bounds-put-count
slice_bounds-put-count g c =
    let v = c.loop-entry.invariant in omega (arith, line_inside g.T.Line.line c.args.entries.now c.loop-entry.entry-index c.requires v, v.count)

pub slice_bounds-put-start : goal.slice_bounds-put-start
slice_bounds-put-start g c = omega (arith, line_inside g.T.Line.line c.args.entries.now c.loop-entry.entry-index c.requires c.loop-entry.invariant)

pub overflow_add-at : goal.overflow_add-at
overflow_add-at g c =
    let fits = line_fits g.T.Line.line c.args.entries.now c.loop-entry.entry-index c.requires c.loop-entry.invariant c.entry-item.result c.loop-entry-test.true c.entry-item.is c.put-at.ensures in
    search rules

pub loop-entry-preserved : goal.loop-entry-preserved
loop-entry-preserved g c =
    let l = c.loop-entry in
    line_put g.T.Line.line c.args.entries.now c.entry-item.result l.entry-index l.out l.at (length l.out - l.at) c.loop-entry-test.true c.entry-item.is
    (omega (arith, line_inside g.T.Line.line c.args.entries.now l.entry-index c.requires l.invariant)) l.invariant c.put-at.ensures
