-- The periods so far are the first of all periods.
use Rattle.std.proofs.Common.{rules, ◌∙◌}
use Rattle.std.proofs.lemmas.Iterator.{YieldsList-from_slice, YieldsList-from_map}
use Rattle.std.proofs.lemmas.Iterator.Consumers.{YieldsList-from_chain, YieldsList-from_filter_map, YieldsList-at}
use Rattle.table.specs.Rules.{servers_of, tasks_of}
use Rattle.table.specs.Span.{server_periods, task_periods, period_of}
use Rattle.table.proofs.Entries.{stored_take, length_mapped}
use Rattle.table.proofs.Spans.{joins_none, joins_both, span_stops, span_ends}
use Rattle.table.proofs.multiples.common_span.Goals as goal

pub returns-in_err-span : goal.returns-in_err-span
returns-in_err-span c =
    c.from_residual.ensures ∙ span_stops _ _ c.loop-period.invariant.joined c.loop-period.yielded_by c.next.ensures.steps c.in-Some.is c.in_err-span.ensures c.loop-period.invariant.road

pub loop-period-init : goal.loop-period-init
unfolding server_periods task_periods
loop-period-init c =
    let t = c.args.table in
    record {
      next = search rules;
      ends = search rules;
      road =
          YieldsList-at c.into_iter-period-iterator.ensures.into_iter_gives (YieldsList-from_chain
          (YieldsList-at c.chain-period-items.ensures.first (YieldsList-from_map _ (λ s. s.period)
          (YieldsList-at c.map-of_servers.ensures.source (YieldsList-from_slice (servers_of t) (c.iter.ensures.rest ∙ stored_take t.servers_n t.servers c.min.ensures (search (rules, length_mapped)))))
          c.map-of_servers.ensures.closure (λ x r q k. search rules)))
          (YieldsList-at c.chain-period-items.ensures.second (YieldsList-from_filter_map _ (λ k. period_of k.release)
          (YieldsList-at c.filter_map-of_tasks.ensures.source (YieldsList-from_slice (tasks_of t) (c.iter-2.ensures.rest ∙ stored_take t.tasks_n t.tasks c.min-2.ensures (search (rules, length_mapped)))))
          c.filter_map-of_tasks.ensures.closure (λ x r q k. search rules)))
          c.chain-period-items.ensures.first_done c.chain-period-items.ensures.second_done);
      joined = joins_none _ (search rules);
    }

pub loop-period-preserved : goal.loop-period-preserved
loop-period-preserved c = record { next = search rules; ends = search rules; road = c.loop-period.invariant.road; joined = joins_both c.loop-period.invariant.joined c.in_ok-span.ensures }

pub returns : goal.returns
returns c = span_ends _ _ c.loop-period.invariant.joined c.loop-period.yielded_by c.next.ensures.steps c.in-None.is c.loop-period.invariant.road
