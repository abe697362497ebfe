use Rattle.demands.proofs.Additions.{written_plain}
use Rattle.demands.proofs.summing.add_task.Goals as goal

pub add_below-added-requires : goal.add_below-added-requires
add_below-added-requires c = let p = c.requires in (p.3.curve, written_plain p.0 p.2 c.demand-demanded.ensures, p.1, p.2, p.5)
