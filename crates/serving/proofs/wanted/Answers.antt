use Rattle.table.proofs.Obeyed.{span_some, span_most}
use Rattle.serving.proofs.ServerTicks.{span_drawn, empty_curve}
use Rattle.serving.proofs.wanted.Goals as goal

pub put-requires : goal.put-requires
put-requires c =
    let p = c.requires in
    (empty_curve _ p.2, span_some c.args.table p.0, span_most c.args.table p.0)

pub returns-in-Periodic : goal.returns-in-Periodic
returns-in-Periodic c = rw c.in-Periodic.is (span_drawn c.args.table.span (span_most c.args.table c.requires.0) c.put.ensures)
