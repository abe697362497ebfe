use Rattle.std.proofs.Common.{arith}
use Rattle.holding.proofs.Standing.{mod_since}
use Rattle.holding.proofs.period_end.Goals as goal

pub returns-then-at-next : goal.returns-then-at-next
returns-then-at-next c =
    let p = c.requires in
    omega (arith, p.3, mod_since c.args.period c.args.until c.args.at p.4 p.3 c.if-at-next.true)
