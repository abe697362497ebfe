-- Document 01, 'Numbers given on refusal': the tests of a call on a text, a tick and six work buffers, in their order.
use Rattle.std.specs.Prelude.{ℕ, List, [], ◌∷◌, Bool, Result, Ok, Err, length, leb}
use Rattle.basics.specs.Choice.{pick}
use Rattle.refusals.specs.Refusals.{refused_for}
use Rattle.refusals.specs.declared.Ground.TheVariants.{WorkRoom, OutOfStep}
use Rattle.refusals.specs.declared.Refusal.{Refusal}
use Rattle.std.specs.List.{list_all}
use Rattle.table.specs.declared.Table.{Table}
use Rattle.reading.specs.Reading.{refusal, reading_of}

-- 9: "one of the six lent work buffers holds fewer than 16,000 numbers"; of each, how many numbers it holds
abbrev pub enough : List ℕ → Bool
enough rooms = list_all (leb 16000) rooms

abbrev pub roomy : List ℕ → List ℕ → List ℕ → List ℕ → List ℕ → List ℕ → Bool
roomy a b c d e f = enough (length a ∷ length b ∷ length c ∷ length d ∷ length e ∷ length f ∷ [])

-- "9 (only where work buffers are lent), 1, 2; then line by line ..; then 8"
abbrev pub read_with : List ℕ → Bool → Result Table Refusal
read_with text room = pick room (reading_of text) (refusal WorkRoom 0 0)

-- what a call answers of a text that was read: its refusal, or what it says of the table
abbrev pub answer_by : {A : Type 0} → (Refusal → A) → (Table → A) → Result Table Refusal → A
answer_by refused of (Ok table) = of table
answer_by refused of (Err refusal) = refused refusal

abbrev pub answer_of : {A : Type 0} → (Refusal → A) → (Table → A) → List ℕ → Bool → A
answer_of refused of text room = answer_by refused of (read_with text room)

-- a text that was read, with a tick of its table's span; 13: "tick asked is H or more, tested last"
abbrev pub at_tick : ℕ → Result Table Refusal → Result Table Refusal
at_tick tick (Ok table) = pick (leb table.span tick) (Err (refused_for OutOfStep)) (Ok table)
at_tick tick (Err refusal) = Err refusal

-- the table, or the refusal
abbrev pub opened_of : List ℕ → ℕ → Bool → Result Table Refusal
opened_of text tick room = at_tick tick (read_with text room)
