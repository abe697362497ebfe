use Rattle.std.proofs.Common.{◌≡◌, ◌≤◌, ◌<◌, rules, ap, refl, ◌+◌, get_or}
use lib.Seq.{get_or-take}
use Rattle.table.specs.Rules.{no_task, tasks_of}
use Rattle.table.proofs.Obeyed.{task_release, task_work, gains_most}
use Rattle.machine.specs.Machine.{along, gained}
use Rattle.machine.proofs.Limits.{sum_fits}
use Rattle.machine.proofs.Beside.{along_stores, along_next}
use Rattle.machine.proofs.releasing.release.Goals as goal

pub loop-j-init : goal.loop-j-init
unfolding along
loop-j-init c = record { tick = refl; budgets = refl; waiting = refl }

pub gain-requires : goal.gain-requires
gain-requires c = rw (get_or-take c.args.table.tasks_n c.args.table.tasks c.loop-j.j no_task (search rules)) (task_release c.args.table c.requires.0 c.loop-j.j (search rules))

pub overflow_add-released : goal.overflow_add-released
overflow_add-released c =
    let a = c.args in
    let h : c.loop-j.j < a.table.tasks_n = search rules in
    let task = get_or a.table.tasks c.loop-j.j no_task in
    let still = along_next (gained a.state.tick) (tasks_of a.table) a.state.waiting c.loop-j.released.waiting c.loop-j.j c.loop-j.invariant.waiting (search rules) in
    let same : get_or (tasks_of a.table) c.loop-j.j no_task ≡ task = get_or-take a.table.tasks_n a.table.tasks c.loop-j.j no_task h in
    let more : c.gain.result ≤ task.work = rw (c.gain.ensures, same) (gains_most task a.state.tick) in
    let sum = sum_fits a.state a.table.tasks_n c.loop-j.j _ _ task c.requires.1 h still more (task_work a.table c.requires.0 c.loop-j.j h) in
    search (rules, sum)

pub loop-j-preserved : goal.loop-j-preserved
loop-j-preserved c =
    record {
      tick = c.loop-j.invariant.tick;
      budgets = c.loop-j.invariant.budgets;
      waiting = along_stores (gained c.args.state.tick) (tasks_of c.args.table) c.args.state.waiting c.loop-j.released.waiting no_task c.loop-j.j _ c.loop-j.invariant.waiting (search rules) (search rules) (ap (λ m. get_or c.loop-j.released.waiting c.loop-j.j 0 + m) c.gain.ensures);
    }
