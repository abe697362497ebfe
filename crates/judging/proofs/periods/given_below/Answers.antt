use Rattle.std.proofs.Common.{◌*◌, arith, rules}
use Rattle.judging.proofs.Instants.{given_before, counted_all, counted_part}
use Rattle.judging.proofs.periods.given_below.Goals as goal

pub returns-in_default : goal.returns-in_default
returns-in_default c = let p = c.requires in counted_all p.0 p.1 p.2 p.3 c.in_default.ensures.lookup.3

pub overflow_add-result : goal.overflow_add-result
overflow_add-result c =
    let p = c.requires in
    let at = c.in-Some.ensures.lookup.3 in
    let start = at.1 0 in
    let before = given_before p.0 p.1 at.0 in
    let ticks = c.saturating_sub.ensures in
    let fits = c.type_inv.curve (2 * c.args.passed.windows) in
    search rules

pub returns : goal.returns
returns c =
    let p = c.requires in
    let at = c.in-Some.ensures.lookup.3 in
    omega (arith, at.1 0, c.saturating_sub.ensures, counted_part p.0 p.1 p.2 p.3 at.0)
