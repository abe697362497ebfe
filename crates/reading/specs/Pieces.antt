-- What the laws say of a line; `told` and `HasRoom` are cited by the contracts of private functions, and by no public one.
use Rattle.std.specs.Prelude.{ℕ, ◌<◌, ⊤, Result, Ok, Err}
use Rattle.table.specs.declared.Table.{Table}
use Rattle.refusals.specs.Refusals.{refused_at}
use Rattle.refusals.specs.declared.Refusal.{Refusal}
use Rattle.lines.specs.declared.Line.{Line}
use Rattle.lines.specs.declared.Line.TheVariants.{SpanIs, ServerIs, TaskIs}
use Rattle.lines.specs.declared.Wrong.{Wrong}
use Rattle.reading.specs.Reading.{with_line}

-- a table with what a line says; a wrong line says nothing
abbrev pub with_said : Table → Result Line Wrong → Table
with_said t (Ok line) = with_line t line
with_said t (Err wrong) = t

-- what line n says, or the refusal of the text
abbrev pub told : ℕ → Result Line Wrong → Result Line Refusal
told n (Ok line) = Ok line
told n (Err wrong) = Err (refused_at wrong.ground n wrong.place)

-- a table has a place for what a line says
abbrev pub HasRoom : Table → Line → Type 0
HasRoom t (SpanIs h) = ⊤
HasRoom t (ServerIs s) = t.servers_n < 16
HasRoom t (TaskIs k) = t.tasks_n < 64
