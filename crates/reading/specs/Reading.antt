-- Document 01, 'The table text' and 'Numbers given on refusal': from a text to a table, or to what is wrong with it.
use Rattle.std.specs.Prelude.{ℕ, ◌+◌, ◌-◌, List, [], ◌∷◌, Bool, ◌&&◌, Option, Some, None, Result, Ok, Err, length, get_or, set, replicate, ltb, leb, eqb}
use Rattle.basics.specs.Choice.{pick}
use Rattle.table.specs.Rules.{no_server, no_task, servers_of, tasks_of}
use Rattle.table.specs.Span.{periods_of, span_of}
use Rattle.table.specs.declared.Server.{Server}
use Rattle.table.specs.declared.Task.{Task}
use Rattle.table.specs.declared.Table.{Table}
use Rattle.fields.specs.Fields.{lines_of}
use Rattle.lines.specs.Lines.{line_of}
use Rattle.refusals.specs.Refusals.{refused_at}
use Rattle.refusals.specs.declared.Refusal.{Refusal}
use Rattle.refusals.specs.declared.Ground.{Ground}
use Rattle.refusals.specs.declared.Ground.TheVariants as what
use Rattle.lines.specs.declared.Line.{Line}
use Rattle.lines.specs.declared.Line.TheVariants.{SpanIs, ServerIs, TaskIs}
use Rattle.lines.specs.declared.Wrong.{Wrong}

-- the table before its first line; a span of 0 is not known yet
abbrev pub no_table : Table
no_table = record { span = 0; servers_n = 0; tasks_n = 0; servers = replicate 16 no_server; tasks = replicate 64 no_task }

abbrev pub refusal : Ground → ℕ → ℕ → Result Table Refusal
refusal g line place = Err (refused_at g line place)

abbrev pub accepted : Table → Result Table Refusal
accepted t = Ok t

-- the table with one line more
abbrev pub with_span : Table → ℕ → Table
with_span t h = record { span = h; servers_n = t.servers_n; tasks_n = t.tasks_n; servers = t.servers; tasks = t.tasks }

abbrev pub with_server : Table → Server → Table
with_server t s =
    record { span = t.span; servers_n = t.servers_n + 1; tasks_n = t.tasks_n; servers = set t.servers t.servers_n s; tasks = t.tasks }

abbrev pub with_task : Table → Task → Table
with_task t k =
    record { span = t.span; servers_n = t.servers_n; tasks_n = t.tasks_n + 1; servers = t.servers; tasks = set t.tasks t.tasks_n k }

abbrev pub with_line : Table → Line → Table
with_line t (SpanIs h) = with_span t h
with_line t (ServerIs s) = with_server t s
with_line t (TaskIs k) = with_task t k

-- "`-` in `span` means the least common multiple"; 8: it "is above 16,000"
abbrev pub resolved : Table → Option ℕ → Result Table Refusal
resolved t (Some h) = accepted (with_span t h)
resolved t None = refusal what.MultipleOver 0 0

-- "then 3 for what is missing, on the line after the last; then 8"
abbrev pub ended_of : Table → ℕ → Result Table Refusal
ended_of t line =
    pick (ltb 0 t.servers_n && ltb 0 t.tasks_n)
    (pick (eqb t.span 0) (resolved t (span_of (periods_of (servers_of t) (tasks_of t)))) (accepted t))
    (refusal what.Missing line 0)

-- "line by line": a table, and the lines that are still to come, of which the first is line n
abbrev pub after_line : Result Line Wrong → Table → ℕ → (Table → Result Table Refusal) → Result Table Refusal
after_line (Ok line) t n next = next (with_line t line)
after_line (Err wrong) t n next = refusal wrong.ground n wrong.place

unfoldable pub read_lines : List (List ℕ) → Table → ℕ → Result Table Refusal
read_lines [] t n = ended_of t n
read_lines (l ∷ ls) t n = after_line (line_of n t.servers_n t.tasks_n l) t n (λ u. read_lines ls u (n + 1))

-- "1, 2; then line by line"
abbrev pub ends_with_feed : List ℕ → Bool
ends_with_feed text = ltb 0 (length text) && eqb (get_or text (length text - 1) 0) 10

abbrev pub reading_of : List ℕ → Result Table Refusal
reading_of text =
    pick (leb (length text) 4096) (pick (ends_with_feed text) (read_lines (lines_of text) no_table 1) (refusal what.NotEnded 0 0)) (refusal what.TextTooLong 0 0)
