-- The parts of a tick in their order.
use Rattle.std.proofs.Common.{rules, ap, ◌≡◌, ◌∙◌}
use Rattle.table.proofs.Obeyed.{span_most}
use Rattle.machine.specs.declared.State.{State}
use Rattle.machine.specs.Machine.{releases, ready}
use Rattle.machine.proofs.Stepping.{accepted_tick, accepted_work, holder_most, holder_has, first_runs, runner_most, runner_has, step_goes}
use Rattle.machine.proofs.State.after_tick.Goals as goal

pub release-ready-requires : goal.release-ready-requires
release-ready-requires c = (c.requires.obeyed, rw c.refill-filled.ensures (accepted_work _ _ c.requires.accepted))

pub first_task-runner-requires : goal.first_task-runner-requires
first_task-runner-requires c = holder_most _ c.requires.obeyed c.release-ready.result _ c.first_server-holder.ensures

pub spend-requires : goal.spend-requires
spend-requires c =
    let r = c.release-ready.result in
    let h = c.first_server-holder.result in
    (holder_most _ c.requires.obeyed r h c.first_server-holder.ensures, holder_has _ c.requires.obeyed r h c.first_server-holder.ensures)

pub run-requires : goal.run-requires
run-requires c =
    let r = c.release-ready.result in
    let h = c.first_server-holder.result in
    let most = holder_most _ c.requires.obeyed r h c.first_server-holder.ensures in
    let is = c.first_task-runner.ensures ∙ first_runs _ c.requires.obeyed r _ h c.first_tasks-firsts.ensures most in
    rw c.spend.ensures (runner_most _ c.requires.obeyed r h _ is, runner_has _ c.requires.obeyed r h _ is)

pub overflow_add-next : goal.overflow_add-next
overflow_add-next c =
    let tick : c.release-ready.result.tick ≡ c.args.self.tick =
    ap (λ (x : State). x.tick) c.release-ready.ensures ∙ ap (λ (x : State). x.tick) c.refill-filled.ensures in
    search (rules, tick, accepted_tick _ _ c.requires.accepted, span_most _ c.requires.obeyed)

pub returns : goal.returns
unfolding ready
returns c =
    let r = c.release-ready.result in
    let h = c.first_server-holder.result in
    let k = c.first_task-runner.result in
    let most = holder_most _ c.requires.obeyed r h c.first_server-holder.ensures in
    let is = c.first_task-runner.ensures ∙ first_runs _ c.requires.obeyed r _ h c.first_tasks-firsts.ensures most in
    let ready-so = c.release-ready.ensures ∙ ap (releases c.args.table.now) c.refill-filled.ensures in
    rw (c.run.ensures, c.spend.ensures) (step_goes c.args.table.now c.args.self r h k ready-so c.first_server-holder.ensures is)
