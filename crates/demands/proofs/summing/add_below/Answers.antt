use Rattle.std.proofs.Common.{arith}
use Rattle.demands.proofs.Additions.{starts, sum_plain, sum_few, sum_fits, sum_wrote, written_length}
use Rattle.demands.proofs.summing.add_below.Goals as goal

pub write-count-requires : goal.write-count-requires
write-count-requires c = let p = c.requires in (c.of.ensures.sound, rw c.of.ensures.whole (sum_fits _ _ _ _ p.2 p.3 p.0 p.1 p.4))

pub cut_off-requires : goal.cut_off-requires
cut_off-requires c =
    let p = c.requires in
    let w = sum_wrote _ _ _ _ p.2 p.3 p.0 p.1 p.4 (rw c.of.ensures.whole at c.write-count.ensures) in
    (rw w.front (sum_plain _ _ _ _ p.2 p.3 p.0 p.1 p.4), rw w.front (starts _ _ _ _ p.2 p.3 p.0 p.1 p.4))

pub returns-clause-fits : goal.returns-clause-fits
returns-clause-fits c =
    let p = c.requires in
    let w = sum_wrote _ _ _ _ p.2 p.3 p.0 p.1 p.4 (rw c.of.ensures.whole at c.write-count.ensures) in
    omega (arith, written_length w, sum_few _ _ _ _ p.2 p.3 p.0 p.1 p.4)
