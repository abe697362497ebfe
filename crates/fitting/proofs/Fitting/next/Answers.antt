use Rattle.std.proofs.Common.{refl, arith}
use Rattle.fitting.proofs.Pieces.{piece_served}
use Rattle.fitting.proofs.Stretches.{place_first}
use Rattle.fitting.proofs.Fitting.next.Goals as goal

pub returns-clause-gives : goal.returns-clause-gives
returns-clause-gives c =
    piece_served c.requires c.in-len2-up.len_at_least c.max-start.ensures c.supplied_from-2.ensures.supplied _ c.stretch-stretch.ensures.stretches
    (omega arith) refl (omega arith) refl (omega arith)

pub returns-in_default-demand-clause-handed : goal.returns-in_default-demand-clause-handed
returns-in_default-demand-clause-handed c = record { supply = c.supplied_from.ensures.supply; demand = place_first c.supplied_from.ensures.supplied.demand }

pub returns-then-start-wanted-clause-handed : goal.returns-then-start-wanted-clause-handed
returns-then-start-wanted-clause-handed c =
    let v = c.supplied_from-then-start-wanted.ensures in record { supply = v.supply; demand = place_first v.supplied.demand }

pub returns-clause-handed : goal.returns-clause-handed
returns-clause-handed c = record { supply = c.supplied_from-2.ensures.supply; demand = c.stretch-stretch.ensures.demand }
