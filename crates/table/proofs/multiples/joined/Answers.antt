-- A period outside the range.
use Rattle.std.proofs.Common.{sym, ◌∙◌}
use Rattle.table.proofs.Spans.{joins_outside}
use Rattle.table.proofs.multiples.joined.Goals as goal

pub returns-then-not-in_ticks : goal.returns-then-not-in_ticks
returns-then-not-in_ticks c = joins_outside _ _ (sym c.in_ticks.ensures ∙ c.if-not-in_ticks.true)
