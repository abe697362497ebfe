use Rattle.windows.proofs.Ticks.{plain_apart}
use Rattle.demands.proofs.Cutoffs.{cut_last, cut_none}
use Rattle.demands.proofs.summing.cut_off.Goals as goal

pub returns-in-Some : goal.returns-in-Some
returns-in-Some c =
    let cut = cut_last c.args.span 0 c.args.curve.now (plain_apart 0 c.args.curve.now c.requires.0) c.requires.1 in
    let last = c.in-Some.ensures.item.3.1 0 in
    cc

pub returns-in_default : goal.returns-in_default
returns-in_default c = cut_none _ _ c.in_default.ensures.item.3
