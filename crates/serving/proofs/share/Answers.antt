use Rattle.buffers.proofs.Copies.{copied}
use Rattle.std.proofs.Common.{arith}
use Rattle.serving.proofs.Fittings.{share_demand, share_supply, share_serves, share_leaves}
use Rattle.serving.proofs.share.Goals as goal

pub hold-counts-requires : goal.hold-counts-requires
hold-counts-requires c =
    let p = c.requires in
    let w = c.demand-demanded.ensures in
    (omega arith, omega arith, omega arith, share_demand p.0 p.2 w p.3, share_supply p.0 p.2 w p.3, p.5, p.6)

pub returns : goal.returns
returns c =
    let p = c.requires in
    let w = c.demand-demanded.ensures in
    let e = c.hold-counts.ensures in
    (share_serves p.0 p.2 w p.3 e.taken, copied (share_leaves p.0 p.2 w p.3 e.left) c.copy.ensures)
