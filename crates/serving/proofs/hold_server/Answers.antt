use Rattle.std.proofs.Common.{arith}
use Rattle.table.proofs.Obeyed.{span_most, server_period, server_ticks}
use Rattle.buffers.proofs.Copies.{copied}
use Rattle.demands.proofs.Additions.{plain_higher}
use Rattle.serving.proofs.ServerTicks.{wanted_plain, server_holds, server_leaves}
use Rattle.serving.proofs.hold_server.Goals as goal

pub hold-counts-requires : goal.hold-counts-requires
hold-counts-requires c =
    let a = c.args in
    let p = c.requires in
    let few = server_ticks a.table p.0 a.i p.1 in
    let span = span_most a.table p.0 in (
      server_period a.table p.0 a.i p.1,
      omega (arith, few.1),
      omega (arith, few.0, few.1),
      plain_higher a.table.span 16000 _ span (rw c.wanted-wanted.ensures.front (wanted_plain a.table p.0 a.i)),
      plain_higher a.table.span 16000 _ span p.2.curve,
      p.5,
      omega (arith, p.6),
    )

pub returns-clause-held : goal.returns-clause-held
returns-clause-held c =
    let a = c.args in
    let p = c.requires in
    server_holds a.table p.0 a.i p.1 _ p.2.curve _ c.wanted-wanted.ensures.front c.hold-counts.ensures.taken

pub returns-clause-left : goal.returns-clause-left
returns-clause-left c =
    let a = c.args in
    let p = c.requires in
    let e = c.hold-counts.ensures in
    copied (server_leaves a.table p.0 a.i p.1 _ p.2.curve _ c.wanted-wanted.ensures.front e.left) c.copy.ensures
