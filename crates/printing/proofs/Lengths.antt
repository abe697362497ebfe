-- How many bytes a report has at most, line by line, where its numbers are within their bounds. Assumes nothing.
use Prim.Native.Nat.{ℕ, zero, suc, ◌+◌, ◌*◌, ◌≤◌, ◌<◌}
use mathlib.Core.List.{List}
use native.Mathlib.Omega.{arith}
use lib.ListN.{length, get_or, length-append}
use Rattle.refusals.specs.Refusals.{last_number, last_place}
use Rattle.refusals.specs.declared.Refusal.{Refusal}
use Rattle.answers.specs.Answers.{no_server_answer, no_task_answer}
use Rattle.answers.specs.declared.Analysis.{Analysis}
use Rattle.answers.specs.declared.Response.{Response}
use Rattle.answers.specs.declared.Response.TheVariants as response
use Rattle.answers.specs.declared.ServerAnswer.{ServerAnswer}
use Rattle.std.specs.Prelude.{Option, Some, None, Ok, Err}
use Rattle.answers.proofs.Within.{ResponseWithin, ShortWithin, ServerWithin, RefusalWithin, Within}
use Rattle.putting.proofs.Lengths.{field_two, field_four, field_five, signed_five}
use Rattle.printing.specs.Report.{refused_line, span_line, short_field, server_line, response_fields, task_line, listed, server_lines, task_lines, report_of}

-- ---- lines

-- refused 18 4097 6
refused_line_most : (r : Refusal) → r.number ≤ last_number → r.line ≤ 4097 → r.place ≤ last_place → length (refused_line r) ≤ 19
unfolding refused_line
refused_line_most r n l p =
    simp length-append
    (omega (arith, field_two r.number (omega arith), field_four r.line (omega arith), field_two r.place (omega arith)))

-- span 16000
span_line_most : (H : ℕ) → H ≤ 16000 → length (span_line H) ≤ 11
unfolding span_line
span_line_most H h = simp length-append (omega (arith, field_five H (omega arith)))

short_field_most : (s : Option ℕ) → ShortWithin s → length (short_field s) ≤ 6
unfolding short_field
short_field_most (Some k) h = field_five k (omega arith)
short_field_most None h = omega arith

-- server 16 16000 15999
server_line_most : (number : ℕ) (answer : ServerAnswer) → number ≤ 99 → ServerWithin answer → length (server_line number answer) ≤ 22
unfolding server_line
server_line_most number answer n w =
    simp length-append
    (omega (arith, field_two number n, field_five answer.full (omega (arith, w.full)), short_field_most answer.short w.short))

-- worst 16000 15999 -15999
response_most : (x : Response) → ResponseWithin x → length (response_fields x) ≤ 25
unfolding response_fields
response_most (response.Worst w) h =
    simp length-append (
    omega (
      arith,
      field_five w.response (omega (arith, h.response)),
      field_five w.release (omega (arith, h.release)),
      signed_five w.margin (omega (arith, h.margin)),
    )
    )
response_most (response.Unfinished r) h = simp length-append (omega (arith, field_five r (omega arith)))
response_most response.None h = omega arith

-- task 64 worst 16000 15999 -15999
task_line_most : (number : ℕ) (answer : Response) → number ≤ 99 → ResponseWithin answer → length (task_line number answer) ≤ 33
unfolding task_line
task_line_most number answer n w = simp length-append (omega (arith, field_two number n, response_most answer w))

-- lines of at most so many bytes each
listed_most : {A : Type 0} (line : ℕ → A → List ℕ) (none : A) (answers : List A) (most k i : ℕ)
    → ((u : ℕ) → u < i + k → length (line (suc u) (get_or answers u none)) ≤ most) → length (listed line none answers k i) ≤ k * most
unfolding listed
listed_most line none answers most zero i h = omega arith
listed_most line none answers most (suc k) i h =
    simp length-append (omega (arith, h i (omega arith), listed_most line none answers most k (suc i) (λ u l. h u (omega arith))))

-- ---- the report

module _ (a : Analysis) (w : Within a) (s : a.servers_n ≤ 16) (t : a.tasks_n ≤ 64) where
  server_lines_most : length (server_lines a.servers a.servers_n 0) ≤ a.servers_n * 22
  server_lines_most =
      listed_most server_line no_server_answer a.servers 22 a.servers_n 0
      (λ u l. server_line_most (suc u) (get_or a.servers u no_server_answer) (omega arith) (w.of_server u (omega arith)))

  task_lines_most : length (task_lines a.tasks a.tasks_n 0) ≤ a.tasks_n * 33
  task_lines_most =
      listed_most task_line no_task_answer a.tasks 33 a.tasks_n 0
      (λ u l. task_line_most (suc u) (get_or a.tasks u no_task_answer) (omega arith) (w.of_task u (omega arith)))

  -- 11, 16 times 22 and 64 times 33
  pub report_most : length (report_of (Ok a)) ≤ 2475
  unfolding report_of
  report_most = simp length-append (omega (arith, span_line_most a.span w.span, server_lines_most, task_lines_most))

pub refused_report_most : (r : Refusal) → RefusalWithin r → length (report_of (Err r)) ≤ 2475
unfolding report_of
refused_report_most r w = omega (arith, refused_line_most r w.number w.line w.place)
