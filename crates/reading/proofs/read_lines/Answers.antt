use Rattle.std.proofs.Common.{eqb, length, ap, ◌∙◌, rules, tests}
use Rattle.std.proofs.lemmas.List.{length_push}
use Rattle.std.proofs.lemmas.Result.{err_from_is_err_and}
use Rattle.std.proofs.lemmas.Iterator.Splits.{YieldsList-from_slice_split}
use Rattle.std.proofs.lemmas.Iterator.Consumers.{YieldsList-at, YieldsList-turn, YieldsList-end}
use Rattle.fields.proofs.Library.{parts_are}
use Rattle.reading.proofs.Rows.{line_room, underway_refused, underway_more, underway_end}
use Rattle.reading.proofs.read_lines.Goals as goal

pub returns-in_err-said : goal.returns-in_err-said
returns-in_err-said c =
    let p = err_from_is_err_and c.from_residual.result c.from_residual.ensures.1 in
    let t = rw (parts_are 10 c.args.lines.now) at
    (YieldsList-turn
    (YieldsList-at c.into_iter-line-iterator.ensures.into_iter_gives
    (YieldsList-from_slice_split _ (λ b. eqb b 10) c.args.lines.now c.split-line-items.ensures.rest c.split-line-items.ensures.done c.split-line-items.ensures.closure (λ x b q k. search (rules, tests))))
    c.loop-line.yielded _ c.loop-line.yielded_by _ _ c.in-Some.line c.in-Some.is c.next.ensures.steps) in
    rw (p.1, p.2) (underway_refused c.loop-line.invariant t c.line_behind.ensures c.in_err-said.was)

pub add_line-requires : goal.add_line-requires
add_line-requires c =
    let t = rw (parts_are 10 c.args.lines.now) at
    (YieldsList-turn
    (YieldsList-at c.into_iter-line-iterator.ensures.into_iter_gives
    (YieldsList-from_slice_split _ (λ b. eqb b 10) c.args.lines.now c.split-line-items.ensures.rest c.split-line-items.ensures.done c.split-line-items.ensures.closure (λ x b q k. search (rules, tests))))
    c.loop-line.yielded _ c.loop-line.yielded_by _ _ c.in-Some.line c.in-Some.is c.next.ensures.steps) in
    line_room c.loop-line.invariant t c.line_behind.ensures c.in_ok-said.was

pub loop-line-preserved : goal.loop-line-preserved
loop-line-preserved c =
    let t = rw (parts_are 10 c.args.lines.now) at
    (YieldsList-turn
    (YieldsList-at c.into_iter-line-iterator.ensures.into_iter_gives
    (YieldsList-from_slice_split _ (λ b. eqb b 10) c.args.lines.now c.split-line-items.ensures.rest c.split-line-items.ensures.done c.split-line-items.ensures.closure (λ x b q k. search (rules, tests))))
    c.loop-line.yielded _ c.loop-line.yielded_by _ _ c.in-Some.line c.in-Some.is c.next.ensures.steps) in
    rw (length_push c.loop-line.yielded c.in-Some.line, c.add_line.ensures) (underway_more c.loop-line.invariant t c.line_behind.ensures c.in_ok-said.was)

pub returns : goal.returns
returns c =
    let t = YieldsList-end
    (YieldsList-at c.into_iter-line-iterator.ensures.into_iter_gives
    (YieldsList-from_slice_split _ (λ b. eqb b 10) c.args.lines.now c.split-line-items.ensures.rest c.split-line-items.ensures.done c.split-line-items.ensures.closure (λ x b q k. search (rules, tests))))
    c.loop-line.yielded _ c.loop-line.yielded_by _ _ c.in-None.is c.next.ensures.steps in
    rw c.ended.ensures (underway_end c.loop-line.invariant (t.1 ∙ ap length (parts_are 10 c.args.lines.now)))
