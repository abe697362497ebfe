-- A row more.
use Rattle.std.proofs.Common.{◌+◌, ◌*◌, ◌≤◌, length, refl, ap, ◌∙◌, arith}
use Rattle.entries.specs.Entries.{rows}
use Rattle.entries.proofs.Rows.{rows_next}
use Rattle.handing.proofs.listing.list_rows.Goals as goal

pub loop-i-init : goal.loop-i-init
unfolding rows
loop-i-init g c = record { written = refl; within = omega arith; long = refl }

pub loop-i-preserved : goal.loop-i-preserved
loop-i-preserved g c =
    let l = c.loop-i in
    let room : g.row.N * l.i + g.row.N ≤ length c.args.out.now = grind arith in
    let next = rows_next g.T.Row.numbers g.row.N g.met.T.Row.wide c.args.answers.now l.i c.args.out.now l.out c.index-answers-i.result c.row.result
    c.loop-i-test.true room (c.row.ensures ∙ ap g.T.Row.numbers c.index-answers-i.is) (record { long = l.invariant.long; written = l.invariant.written }) in
    rw c.put_row.ensures (record { written = next.written; within = omega arith; long = next.long })
