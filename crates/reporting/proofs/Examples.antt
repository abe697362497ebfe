-- The reports of tables A, B and C and of a refused text: the text is read (`reading`), and the rest computed.
use Prim.Native.Nat.{ℕ}
use mathlib.Core.Path.{◌≡◌, refl, ap, ◌∙◌}
use mathlib.Core.List.{List}
use Rattle.windows.specs.Windows.{inside, cover, end_of, window, join, runs, upto, waiting, done, fit_in, fit, first_given}
use Rattle.windows.specs.Servers.{before, held}
use Rattle.table.specs.Places.{first_of}
use Rattle.schedule.specs.Curves.{below, releases_from, with_releases, demand_of, summed_below, held_in, free_of, left_below, running_of}
use Rattle.answers.specs.Answers.{judged, verdict_of, entries}
use Rattle.putting.specs.Decimal.{digits}
use Rattle.printing.specs.Report.{span_line, short_field, server_line, response_fields, task_line, listed, refused_line, report_of}
use Rattle.std.specs.Prelude.{Result, Ok, Err}
use Rattle.refusals.specs.Refusals.{refused_at}
use Rattle.refusals.specs.declared.Refusal.{Refusal}
use Rattle.refusals.specs.declared.Ground.{Ground}
use Rattle.refusals.specs.declared.Ground.TheVariants.{LeadingZero}
use Rattle.table.specs.declared.Table.{Table}
use Rattle.reading.specs.Reading.{refusal, accepted, reading_of}
use Rattle.reading.specs.Examples.{text_a, text_b, text_c, text_zero, read_a, read_b, read_c}
use Rattle.reading.proofs.Examples as read
use Rattle.scheduling.specs.Analysing.{analysed}
use Rattle.opening.specs.Opening.{answer_by}
use Rattle.reporting.specs.Reporting.{report_for}
use Rattle.reporting.specs.Examples.{printed_a, printed_b, printed_c, printed_zero, Checked}

-- the report of a text whose table is known
from_table : (text : List ℕ) (table : Table) → reading_of text ≡ accepted table → report_for text ≡ report_of (Ok (analysed table))
from_table text table e = ap (λ (r : Result Table Refusal). report_of (answer_by Err (λ t. Ok (analysed t)) r)) e

-- the report of a text that is refused
from_refusal : (text : List ℕ) (x : Ground) (k place : ℕ) → reading_of text ≡ refusal x k place → report_for text ≡ report_of (Err (refused_at x k place))
from_refusal text x k place e = ap (λ (r : Result Table Refusal). report_of (answer_by Err (λ t. Ok (analysed t)) r)) e

record Printed : Type 0 where
  a : report_of (Ok (analysed read_a)) ≡ printed_a
  b : report_of (Ok (analysed read_b)) ≡ printed_b
  c : report_of (Ok (analysed read_c)) ≡ printed_c
  zero : report_of (Err (refused_at LeadingZero 2 4)) ≡ printed_zero

printed : Printed
unfolding inside cover end_of window join runs upto waiting done fit_in fit first_given before held first_of below releases_from with_releases demand_of summed_below held_in free_of left_below running_of judged verdict_of entries digits span_line short_field server_line response_fields task_line listed refused_line report_of
printed = record { a = refl; b = refl; c = refl; zero = refl }

pub checked : Checked
checked = record {
  table_a = from_table text_a read_a (read.checked).a ∙ printed.a;
  table_b = from_table text_b read_b (read.checked).b ∙ printed.b;
  table_c = from_table text_c read_c (read.checked).c ∙ printed.c;
  zero = from_refusal text_zero LeadingZero 2 4 (read.checked).zero ∙ printed.zero;
}
