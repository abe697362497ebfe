-- What becomes of a text whose table is written back.
use Rattle.std.specs.Prelude.{ℕ, List, Result, Ok, Err}
use Rattle.refusals.specs.declared.Refusal.{Refusal}
use Rattle.table.specs.declared.Table.{Table}
use Rattle.reading.specs.Reading.{reading_of}
use Rattle.printing.specs.Report.{refused_line}
use Rattle.writing.specs.Text.{text_of}

-- by what reading answered: the text of the table, or the line of the refusal
abbrev pub rewritten_by : Result Table Refusal → List ℕ
rewritten_by (Ok table) = text_of table
rewritten_by (Err refusal) = refused_line refusal

abbrev pub rewritten_of : List ℕ → List ℕ
rewritten_of text = rewritten_by (reading_of text)
