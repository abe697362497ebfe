use Rattle.std.proofs.Common.{arith, rules}
use Rattle.std.proofs.lemmas.List.{length-take-le}
use Rattle.table.proofs.Obeyed.{span_some, span_most, server_period}
use Rattle.serving.proofs.ServerTicks.{empty_curve}
use Rattle.answering.proofs.FreeCurves.{counted, server_is, freed_starts, freed_curve, freed_held, freed_next}
use Rattle.answering.proofs.Answering.{answered_starts, answered_next, answered_all}
use Rattle.answering.proofs.answer_all.Goals as goal

pub put-n-requires : goal.put-n-requires
put-n-requires c = (empty_curve _ c.args.work.now.roomy.of_free, span_some c.args.table c.requires, span_most c.args.table c.requires)

pub loop-i-init : goal.loop-i-init
loop-i-init c =
    let ok = c.requires in
    record {
      same = search rules;
      noted = answered_starts c.args.table ok c.args.tick (freed_starts c.args.table ok c.put-n.ensures) c.no_notes-notes.ensures;
    }

pub answer_server-requires : goal.answer_server-requires
answer_server-requires c =
    let ok = c.requires in
    let table = c.args.table in
    let h = c.loop-i-test.true in
    let curve = freed_curve table ok _ _ _ _ c.loop-i.invariant.noted.freed (omega (arith, c.args.work.now.roomy.of_free, c.put-n.ensures.same)) in
    rw (server_is table ok _ h, c.free_curve.ensures) (server_period table ok _ (counted table ok _ h), span_most table ok, curve.curve.plain)

pub hold_in_work-counts-requires : goal.hold_in_work-counts-requires
hold_in_work-counts-requires c =
    let ok = c.requires in
    let table = c.args.table in
    let curve = freed_curve table ok _ _ _ _ c.loop-i.invariant.noted.freed (omega (arith, c.args.work.now.roomy.of_free, c.put-n.ensures.same)) in
    (ok, counted table ok _ c.loop-i-test.true, curve)

pub loop-i-preserved : goal.loop-i-preserved
loop-i-preserved c =
    let ok = c.requires in
    let table = c.args.table in
    let h = c.loop-i-test.true in
    let few = counted table ok _ h in
    let v = c.loop-i.invariant.noted in
    let counts = c.hold_in_work-counts.ensures in
    let held = freed_held table ok _ _ _ _ v.freed counts.held in
    let next = freed_next table ok _ _ _ _ v.freed few counts.left in
    let answer = rw (server_is table ok _ h, c.free_curve.ensures) at c.answer_server.ensures in
    let covers = rw c.held_curve.ensures at c.covers.ensures in
    record {
      same = search rules;
      noted = rw c.answer_tasks.ensures.free (answered_next table ok v few _ answer held.front _ covers next c.answer_tasks.ensures.noted);
    }

pub returns-clause-noted : goal.returns-clause-noted
returns-clause-noted c =
    let ok = c.requires in
    answered_all c.args.table ok c.loop-i.invariant.noted
    (omega (arith, c.loop-i-test.false, length-take-le c.args.table.servers_n c.args.table.servers ok.servers))
