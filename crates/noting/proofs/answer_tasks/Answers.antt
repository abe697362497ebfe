use Rattle.std.proofs.Common.{suc, ◌≡◌, ◌-◌, refl, arith, rules}
use Rattle.std.proofs.lemmas.List.{length-take-le}
use Rattle.table.specs.Places.{task_at}
use Rattle.table.proofs.Obeyed.{span_some, span_most, task_deadline}
use Rattle.demands.proofs.Sums.{counted, task_is, task_obeyed}
use Rattle.serving.proofs.LeftTicks.{left_all, left_curve, served_plain}
use Rattle.noting.proofs.Answering.{answering_starts, answering_ends, answering_own, answering_other}
use Rattle.noting.proofs.answer_tasks.Goals.{then-task-server, else-task-server}
use Rattle.noting.proofs.answer_tasks.Goals as goal

pub loop-j-init : goal.loop-j-init
loop-j-init c =
    let a = c.args in
    let placed = c.requires.1 (a.server - 1) (omega (arith, c.requires.2)) in
    record {
      same = search rules;
      free = refl;
      sum = refl;
      noted = answering_starts a.table a.server (left_all a.table (a.server - 1) a.work.now.held.now a.n c.requires.3 placed.1) c.requires.4;
    }

pub share-counts-requires : goal.share-counts-requires
share-counts-requires c =
    let p = c.requires in
    let table = c.args.table in
    let placed = p.1 (c.args.server - 1) (omega (arith, p.2)) in
    let h = c.loop-j-test.true in (
      rw (task_is table p.0 _ h) (task_obeyed table p.0 _ (counted table p.0 _ h)),
      span_some table p.0,
      span_most table p.0,
      left_curve c.loop-j.invariant.noted.left p.0 placed.0 c.loop-j.work.roomy.of_held,
      c.loop-j.work.roomy.of_part,
      c.loop-j.work.roomy.of_running,
      c.loop-j.work.roomy.of_spare,
    )

pub judge-requires : goal.judge-requires
judge-requires c =
    let p = c.requires in
    let table = c.args.table in
    let h = c.loop-j-test.true in
    let few = counted table p.0 _ h in
    let same = task_is table p.0 _ h in
    let own = rw same at c.if-task-server.true in
    let place : (task_at table c.loop-j.j).server ≡ suc (c.args.server - 1) = omega (arith, own, p.2) in
    let served = rw same at c.share-counts.ensures.0 in
    rw same (
      task_obeyed table p.0 _ few,
      (task_deadline table p.0 _ few).1,
      span_most table p.0,
      served_plain c.loop-j.invariant.noted.left few place p.0 served,
    )

pub loop-j-preserved : goal.loop-j-preserved
loop-j-preserved c =
    let p = c.requires in
    let table = c.args.table in
    let h = c.loop-j-test.true in
    let few = counted table p.0 _ h in
    let same = task_is table p.0 _ h in
    let v = c.loop-j.invariant in
    elim c.if-task-server.branch [
      | then-task-server w ↦
          let own = rw same at w.if-task-server.true in
          let served = rw same at w.share-counts.ensures.0 in
          let left = rw same at w.share-counts.ensures.1 in
          let judged = rw same at w.judge.ensures in
          rw (w.work-is, w.left-is, w.notes-is) (record {
            same = search rules;
            free = v.free;
            sum = v.sum;
            noted = answering_own v.noted p.0 p.2 few own served left _ judged _ w.covers.ensures;
          })
      | else-task-server w ↦
          let other = rw same at w.if-task-server.false in
          rw (w.work-is, w.left-is, w.notes-is) (record { same = v.same; free = v.free; sum = v.sum; noted = answering_other v.noted p.0 p.2 few other })
    ]

pub returns-clause-noted : goal.returns-clause-noted
returns-clause-noted c = answering_ends c.loop-j.invariant.noted (omega (arith, c.loop-j-test.false, length-take-le c.args.table.tasks_n c.args.table.tasks c.requires.0.tasks))
