use Rattle.std.proofs.Common.{rules, ap, ◌∙◌}
use Rattle.entries.proofs.Rows.{rows_none, rows_next, row_fits}
use Rattle.entries.proofs.hand.Goals as goal

pub loop-i-init : goal.loop-i-init
loop-i-init g c = rows_none _ _ _ _ _

pub loop-i-preserved : goal.loop-i-preserved
loop-i-preserved g c =
    let item = c.index-entries-i in
    rw c.put_row.ensures (rows_next g.E.Row.row_of g.row.W g.met.E.Row.wide c.args.entries.now c.loop-i.i c.args.out.now c.loop-i.out item.result c.row.result (search rules) (row_fits g.row.W c.loop-i.i _ _ (search rules) c.requires) (c.row.ensures ∙ ap g.E.Row.row_of item.is) c.loop-i.invariant)
