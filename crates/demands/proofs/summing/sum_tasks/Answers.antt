use Rattle.std.proofs.Common.{suc, ◌-◌, ◌≡◌, arith}
use Rattle.table.proofs.Obeyed.{span_some, span_most}
use Rattle.demands.proofs.Sums.{counted, task_is, task_obeyed, sum_none, sum_curve, sum_own, sum_other}
use Rattle.demands.proofs.summing.sum_tasks.Goals.{then-task-server, else-task-server}
use Rattle.demands.proofs.summing.sum_tasks.Goals as goal

pub loop-task-init : goal.loop-task-init
loop-task-init c = sum_none _ _ _

pub add_task-count-requires : goal.add_task-count-requires
add_task-count-requires c =
    let p = c.requires in
    let table = c.args.table in
    let h = c.loop-task-test.true in
    let few = counted table p.0 _ h in (
      rw (task_is table p.0 _ h) (task_obeyed table p.0 _ few),
      span_some table p.0,
      span_most table p.0,
      sum_curve table _ _ p.0 _ c.loop-task.invariant p.2 (omega arith),
      omega (arith, p.3),
      omega (arith, p.4),
    )

pub loop-task-preserved : goal.loop-task-preserved
loop-task-preserved c =
    let p = c.requires in
    let table = c.args.table in
    let same = task_is table p.0 _ c.loop-task-test.true in
    let next : c.args.server ≡ suc (c.args.server - 1) = omega (arith, p.1) in
    elim c.if-task-server.branch [
      | then-task-server w ↦
          rw (w.sum-is, w.count-is) (sum_own table _ _ p.0 _ c.loop-task.invariant _ next (rw same at w.if-task-server.true) (rw same at w.add_task-count.ensures))
      | else-task-server w ↦
          rw (w.sum-is, w.count-is) (sum_other table _ _ p.0 _ c.loop-task.invariant _ next (rw same at w.if-task-server.false))
    ]
