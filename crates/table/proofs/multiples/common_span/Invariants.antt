-- The loop walks over all periods, and the span is the multiple of those so far.
use Rattle.std.proofs.Common.{Some}
use Rattle.std.proofs.lemmas.Iterator.{YieldsList}
use Rattle.table.specs.Rules.{servers_of, tasks_of}
use Rattle.table.specs.Span.{periods_of}
use Rattle.table.specs.Multiples.{JoinsAll}
use Rattle.table.proofs.multiples.common_span.Given as goal

abbrev pub invariant-loop-period : goal.invariant-loop-period
invariant-loop-period l =
    record {
      next : (goal.iterator-loop-period).can_next l.period-iterator;
      ends : (goal.iterator-loop-period).is_finite l.period-iterator;
      road : YieldsList (goal.iterator-loop-period).next_gives (λ p. p) l.initial.period-iterator (periods_of (servers_of l.fn.table) (tasks_of l.fn.table));
      joined : JoinsAll (Some 1) l.yielded (Some l.span);
    }
