use Rattle.std.proofs.Common.{arith}
use Rattle.entries.proofs.Filled.{filled_all}
use Rattle.entries.proofs.entries_from.Goals as goal

pub returns : goal.returns
returns g c =
    filled_all (g.E.Row.entry_in c.args.rows.now) g.E.Row.nothing g.row.N c.loop-i.i c.args.n c.loop-i.entries
    (omega (arith, c.loop-i.auto.i-end, c.loop-i-test.false, c.min-i-end.ensures)) c.loop-i.invariant
