use Rattle.std.proofs.Common.{arith}
use Rattle.machine.proofs.Noting.{noted_starts, own_some, own_below, noted_waits, noted_rests}
use Rattle.machine.proofs.picking.first_tasks.Goals as goal

pub loop-j-init : goal.loop-j-init
loop-j-init c = noted_starts c.args.table c.args.state

pub overflow_sub-own : goal.overflow_sub-own
overflow_sub-own c = own_some c.args.table c.requires c.loop-j.j (omega arith) (omega arith)

pub bounds-firsts-own : goal.bounds-firsts-own
bounds-firsts-own c = own_below c.args.table c.requires c.loop-j.j (omega arith) (omega arith)

pub loop-j-preserved-then-waiting-gt0 : goal.loop-j-preserved-then-waiting-gt0
loop-j-preserved-then-waiting-gt0 c = noted_waits c.args.table c.requires c.loop-j.j (omega arith) (omega arith) c.args.state c.loop-j.firsts c.loop-j.invariant (omega arith)

pub loop-j-preserved : goal.loop-j-preserved
loop-j-preserved c = noted_rests c.args.table c.requires c.loop-j.j (omega arith) (omega arith) c.args.state c.loop-j.firsts c.loop-j.invariant (omega arith)
