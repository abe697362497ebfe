-- Document 02, E1: what the writer answers and what it leaves in the lent buffer.
use Rattle.std.specs.Prelude.{ℕ, List, Result, Err}
use Rattle.basics.specs.Choice.{pick}
use Rattle.table.specs.Rules.{obeys}
use Rattle.table.specs.declared.Table.{Table}
use Rattle.refusals.specs.Outcomes.{Leaves}
use Rattle.refusals.specs.Refusals.{refused_for}
use Rattle.refusals.specs.declared.Ground.TheVariants.{RulesBroken}
use Rattle.refusals.specs.declared.Refusal.{Refusal}
use Rattle.putting.specs.Rooms.{in_room}
use Rattle.writing.specs.Text.{text_of}

-- "Refusals: 13 if the table breaks the rules, then 11 if the text doesn't fit"
abbrev pub write_outcome : Table → List ℕ → Result ℕ Refusal
write_outcome table out = pick (obeys table) (in_room (text_of table) out) (Err (refused_for RulesBroken))

-- of a table and a buffer, the answer and the buffer afterwards: "The bytes behind the last line stay as they were"
abbrev pub Writes : Table → List ℕ → Result ℕ Refusal → List ℕ → Type 0
Writes table out r after = Leaves (write_outcome table out) (text_of table) out r after
