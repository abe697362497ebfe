-- What becomes of three texts: read (`reading`) and written (`writing`) they are already; the refusal's line is computed.
use Prim.Native.Nat.{ℕ}
use mathlib.Core.Path.{◌≡◌, refl, ap, ◌∙◌}
use mathlib.Core.List.{List}
use Rattle.table.specs.declared.Table.{Table}
use Rattle.reading.specs.Reading.{accepted, reading_of}
use Rattle.reading.specs.Examples.{text_a, text_b, read_a, read_b}
use Rattle.reading.proofs.Examples as read
use Rattle.putting.specs.Decimal.{digits}
use Rattle.printing.specs.Report.{refused_line}
use Rattle.writing.specs.Text.{text_of}
use Rattle.writing.proofs.Examples as written
use Rattle.rewriting.specs.Rewriting.{rewritten_by, rewritten_of}
use Rattle.rewriting.specs.Examples.{Checked}

-- the text of a text whose table is known
from_table : (text : List ℕ) (table : Table) → reading_of text ≡ accepted table → rewritten_of text ≡ text_of table
from_table text table e = ap rewritten_by e

pub checked : Checked
unfolding digits refused_line
checked = record {
  a = from_table text_a read_a (read.checked).a ∙ (written.checked).a;
  b = from_table text_b read_b (read.checked).b ∙ (written.checked).b;
  empty = refl;
}
