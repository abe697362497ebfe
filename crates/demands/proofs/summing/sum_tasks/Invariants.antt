use Rattle.std.proofs.Common.{◌-◌}
use Rattle.schedule.specs.Curves.{summed_below}
use Rattle.buffers.specs.Parts.{Wrote}
use Rattle.demands.proofs.summing.sum_tasks.Given as goal

-- the demands of the tasks before this one are summed
abbrev pub invariant-loop-task : goal.invariant-loop-task
invariant-loop-task l = Wrote l.fn.sum l.sum l.count (summed_below l.fn.table (l.server - 1) l.task-index)
