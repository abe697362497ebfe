-- Document 02, E2: "5, 6 and 14 to 18 give line and field's place, the line's first word being 1; other refusals give place 0." For each of these numbers
-- what a text has that is refused by it, with this line and place.
use Rattle.std.specs.Prelude.{ℕ, ◌≤◌, ◌≡◌, List, Bool, true, false, ◌||◌, Option, Err, eqb}
use Rattle.refusals.specs.Refusals.{last_place}
use Rattle.refusals.specs.declared.Ground.{Ground}
use Rattle.refusals.specs.declared.Ground.TheVariants.{Empty, Dash, NoDigit, LeadingZero, TooManyDigits, UnknownKind}
use Rattle.table.specs.Rules.{between}
use Rattle.table.specs.declared.Table.{Table}
use Rattle.fields.specs.Fields.{lines_of, field_at, word_of}
use Rattle.fields.specs.declared.Word.{Word}
use Rattle.reading.specs.Reading.{no_table, reading_of}
use Rattle.grounds.specs.Grounds.{May, entry_at, range_there, Counted, InLine, GoodBefore, RangesBefore, AllGood}
use Rattle.grounds.specs.Words.{BadAs}
use Rattle.grounds.specs.Texts.{Reached, Whole}

-- ---- which numbers have a place

-- a field that is no number, `-` that is not allowed, an unknown kind
abbrev pub of_field : ℕ → Bool
of_field number = eqb number 5 || between 14 18 number

-- "5, 6 and 14 to 18"
abbrev pub gives_place : ℕ → Bool
gives_place number = eqb number 6 || of_field number

-- a place behind the first word, or 0
abbrev pub PlaceOf : Bool → ℕ → Type 0
PlaceOf true place = (2 ≤ place) × (place ≤ last_place)
PlaceOf false place = place ≡ 0

-- ---- what stands there

-- a text is refused by a number, with a line and a place
abbrev pub RefusedBy : List ℕ → ℕ → ℕ → ℕ → Type 0
RefusedBy text number k place = reading_of text ≡ Err (record { number = number; line = k; place = place })

-- line k, behind the table that the lines above it make, by its first word
module _ (k : ℕ) (above : Table) (line : List ℕ) where
  abbrev pub the_word : Option Word
  the_word = word_of (field_at line 1)

  -- what may stand at a place
  abbrev pub may_stand : ℕ → May
  may_stand place = (entry_at the_word place).may

  abbrev pub GoodLeft : ℕ → Type 0
  GoodLeft = GoodBefore the_word k above.servers_n above.tasks_n line

  abbrev pub GoodAll : Type 0
  GoodAll = AllGood the_word k above.servers_n above.tasks_n line

  abbrev pub RangesLeft : ℕ → Type 0
  RangesLeft = RangesBefore the_word k above.servers_n above.tasks_n line

  abbrev pub in_its_range : ℕ → Bool
  in_its_range = range_there the_word k above.servers_n above.tasks_n line

  -- a text that passes 1 and 2 has it, no line above it has a ground, and of its own tests 3, 7 and 4 are passed; the place is that of a field
  pub record AtField (text : List ℕ) (place : ℕ) : Type 0 where
    pub whole : Whole text
    pub reached : Reached (lines_of text) no_table 1 k above line
    pub counted : Counted the_word k above.servers_n above.tasks_n line
    pub there : InLine the_word k above.servers_n above.tasks_n line place

-- every field to the left of the place is good, and what stands there is bad in this way
pub record BadThere (text : List ℕ) (x : Ground) (k place : ℕ) : Type 0 where
  pub above : Table
  pub line : List ℕ
  pub at : AtField k above line text place
  pub left : GoodLeft k above line place
  pub stands : BadAs (may_stand k above line place) (field_at line place) x

-- every field of the line is good, every number to the left of the place is in its range, and the one that stands there is not
pub record OutThere (text : List ℕ) (k place : ℕ) : Type 0 where
  pub above : Table
  pub line : List ℕ
  pub at : AtField k above line text place
  pub good : GoodAll k above line
  pub left : RangesLeft k above line place
  pub stands : in_its_range k above line place ≡ false

-- ---- each number, both ways

pub record JustIf (A B : Type 0) : Type 0 where
  pub to : A → B
  pub from : B → A

pub record FieldLaws (text : List ℕ) (k place : ℕ) : Type 0 where
  -- 5 "is to mean an empty field only"
  pub five : JustIf (RefusedBy text 5 k place) (BadThere text Empty k place)
  -- 6 "number outside its range"
  pub six : JustIf (RefusedBy text 6 k place) (OutThere text k place)
  -- "14 for `-` where it isn't allowed"
  pub fourteen : JustIf (RefusedBy text 14 k place) (BadThere text Dash k place)
  -- "15 for a byte that is no digit"
  pub fifteen : JustIf (RefusedBy text 15 k place) (BadThere text NoDigit k place)
  -- "16 for a leading zero"
  pub sixteen : JustIf (RefusedBy text 16 k place) (BadThere text LeadingZero k place)
  -- "17 for more than five digits"
  pub seventeen : JustIf (RefusedBy text 17 k place) (BadThere text TooManyDigits k place)
  -- "18 for an unknown server kind"
  pub eighteen : JustIf (RefusedBy text 18 k place) (BadThere text UnknownKind k place)
