-- Document 01, 'The table text' and 'Numbers given on refusal': the grounds on which one line is refused, each told by itself and for every
-- word by one table of its fields. Nothing here says how a line is read: Fields.antt of `fields` says what a field, a word and a number are.
use Rattle.std.specs.Prelude.{ℕ, suc, ◌-◌, ◌≤◌, ◌<◌, ◌≡◌, List, [], ◌∷◌, Bool, true, false, ◌&&◌, Option, Some, None, Result, Ok, Err, length, get_or, ltb, leb, eqb}
use Rattle.basics.specs.Choice.{pick}
use Rattle.table.specs.Rules.{between, in_ticks}
use Rattle.table.specs.declared.Kind.{Kind}
use Rattle.fields.specs.Fields.{fields_of, field_at, same_bytes, dash, word_of, field_number}
use Rattle.lines.specs.Lines.{kind_of}
use Rattle.refusals.specs.declared.Ground.{Ground}
use Rattle.refusals.specs.declared.Ground.TheVariants.{Misplaced, TooMany, FieldCount, OutOfRange}
use Rattle.fields.specs.declared.Word.{Word}
use Rattle.fields.specs.declared.Word.TheVariants as word

-- ---- the table of fields

-- what may stand in a field: "Nowhere else is `-` allowed"
pub data May : Type 0 where
  a_number : May
  a_number_or_dash : May
  a_kind : May

-- "Ranges: H, work, C, T, period, deadline 1 to 16,000; C not above T; instant and offset 0 to 16,000; server 1 to the number of servers"
pub data Range : Type 0 where
  ticks : Range
  ticks_to_period : Range
  from_zero : Range
  a_server : Range
  unranged : Range

pub record Entry : Type 0 where
  pub may : May
  pub range : Range

abbrev pub entry : May → Range → Entry
entry m r = record { may = m; range = r }

-- "first field | then"
abbrev pub row_of : Option Word → List Entry
-- `span`: "ticks H, or `-`"
row_of (Some word.Span) = entry a_number_or_dash ticks ∷ []
-- `server`: "`deferrable` or `periodic`, capacity C, period T"
row_of (Some word.Server) = entry a_kind unranged ∷ entry a_number ticks_to_period ∷ entry a_number ticks ∷ []
-- `once`: "server, work, instant, deadline"
row_of (Some word.Once) = entry a_number a_server ∷ entry a_number ticks ∷ entry a_number from_zero ∷ entry a_number ticks ∷ []
-- `every`: "server, work, offset, period, deadline or `-`"
row_of (Some word.Every) = entry a_number a_server ∷ entry a_number ticks ∷ entry a_number from_zero ∷ entry a_number ticks ∷ entry a_number_or_dash ticks ∷ []
row_of None = []

-- the entry of a place, the first word's being 1
abbrev pub entry_at : Option Word → ℕ → Entry
entry_at w place = get_or (row_of w) (place - 2) (entry a_number unranged)

-- how many fields a line has, its word and what comes then
abbrev pub count_of : Option Word → ℕ
count_of w = suc (length (row_of w))

-- ---- a field, read as what may stand there

pub data Field : Type 0 where
  is_number : ℕ → Field
  is_dash : Field
  is_kind : Field
  is_bad : Ground → Field

abbrev pub of_number : Result ℕ Ground → Field
of_number (Ok v) = is_number v
of_number (Err x) = is_bad x

abbrev pub of_kind : Result Kind Ground → Field
of_kind (Ok k) = is_kind
of_kind (Err x) = is_bad x

abbrev pub read_as : May → List ℕ → Field
read_as a_number f = of_number (field_number f)
read_as a_number_or_dash f = pick (same_bytes f dash) is_dash (of_number (field_number f))
read_as a_kind f = of_kind (kind_of f)

-- it is a number, an allowed `-` or a known kind
abbrev pub is_good : Field → Bool
is_good (is_number v) = true
is_good is_dash = true
is_good is_kind = true
is_good (is_bad x) = false

-- ---- ranges

-- a server's period, the number at place 4
abbrev pub value_of : Result ℕ Ground → ℕ
value_of (Ok v) = v
value_of (Err x) = 0

abbrev pub period_at : List ℕ → ℕ
period_at line = value_of (field_number (field_at line 4))

-- the range of a number in a line behind so many servers
abbrev pub within : Range → ℕ → List ℕ → ℕ → Bool
within ticks servers line v = in_ticks v
within ticks_to_period servers line v = in_ticks v && leb v (period_at line)
within from_zero servers line v = leb v 16000
within a_server servers line v = between 1 servers v
within unranged servers line v = true

-- only a number has a range
abbrev pub in_range : Range → ℕ → List ℕ → Field → Bool
in_range r servers line (is_number v) = within r servers line v
in_range r servers line is_dash = true
in_range r servers line is_kind = true
in_range r servers line (is_bad x) = true

-- ---- words in their place

-- 3: "First `span`, then servers, then tasks"; "a task line before any server line"
abbrev pub in_place : Option Word → ℕ → ℕ → ℕ → Bool
in_place (Some word.Span) n servers tasks = eqb n 1
in_place (Some word.Server) n servers tasks = ltb 1 n && eqb tasks 0
in_place (Some word.Once) n servers tasks = ltb 0 servers
in_place (Some word.Every) n servers tasks = ltb 0 servers
in_place None n servers tasks = false

-- 7: it is no "17th server or 65th task"
abbrev pub has_room : Option Word → ℕ → ℕ → Bool
has_room (Some word.Span) servers tasks = true
has_room (Some word.Server) servers tasks = ltb servers 16
has_room (Some word.Once) servers tasks = ltb tasks 64
has_room (Some word.Every) servers tasks = ltb tasks 64
has_room None servers tasks = true

-- ---- the grounds of line n, whose first field is the word w, behind so many servers and tasks

module _ (w : Option Word) (n servers tasks : ℕ) (line : List ℕ) where
  -- the field at a place, and whether it is in its range
  abbrev pub field_there : ℕ → Field
  field_there place = read_as (entry_at w place).may (field_at line place)

  abbrev pub range_there : ℕ → Bool
  range_there place = in_range (entry_at w place).range servers line (field_there place)

  -- 3, 7 and 4 are passed
  pub record Counted : Type 0 where
    pub placed : in_place w n servers tasks ≡ true
    pub room : has_room w servers tasks ≡ true
    pub count : length (fields_of line) ≡ count_of w

  -- a place behind the first word, up to the last
  pub record InLine (place : ℕ) : Type 0 where
    pub behind : 2 ≤ place
    pub upto : place ≤ count_of w

  -- every field to the left of a place is good
  abbrev pub GoodBefore : ℕ → Type 0
  GoodBefore place = (p : ℕ) → 2 ≤ p → p < place → is_good (field_there p) ≡ true

  -- every number to the left of a place is in its range
  abbrev pub RangesBefore : ℕ → Type 0
  RangesBefore place = (p : ℕ) → 2 ≤ p → p < place → range_there p ≡ true

  -- all fields are good; all numbers are in their ranges
  abbrev pub AllGood : Type 0
  AllGood = GoodBefore (suc (count_of w))

  abbrev pub AllRanges : Type 0
  AllRanges = RangesBefore (suc (count_of w))

  -- "line by line 3, 7, 4, 5, 6, within 5 and within 6 from the left"; what was 5 is 5 and 14 to 18 (document 02, E2)
  pub data GroundOf : Ground → ℕ → Type 0 where
    -- 3: "first field unknown or in the wrong place"
    misplaced : in_place w n servers tasks ≡ false → GroundOf Misplaced 0
    -- 7: "a 17th server or 65th task"
    too_many : in_place w n servers tasks ≡ true → has_room w servers tasks ≡ false → GroundOf TooMany 0
    -- 4: "wrong count of fields"
    field_count : in_place w n servers tasks ≡ true → has_room w servers tasks ≡ true → (length (fields_of line) ≡ count_of w → ⊥) → GroundOf FieldCount 0
    -- 5 and 14 to 18: a field is no number, or `-` not allowed, or the server kind unknown, the first such field; which it is, Words.antt says
    bad_field : {x : Ground} {place : ℕ} → Counted → InLine place → GoodBefore place → field_there place ≡ is_bad x → GroundOf x place
    -- 6: "number outside its range", the first such number, "once all fields of the line have passed": "all before any 6"
    out_of_range : {place : ℕ} → Counted → AllGood → InLine place → RangesBefore place → range_there place ≡ false → GroundOf OutOfRange place

  -- all tests are passed: no ground
  pub record Right : Type 0 where
    pub counted : Counted
    pub fields : AllGood
    pub ranges : AllRanges

abbrev pub LineGround : ℕ → ℕ → ℕ → List ℕ → Ground → ℕ → Type 0
LineGround n servers tasks line what place = GroundOf (word_of (field_at line 1)) n servers tasks line what place

abbrev pub NoGround : ℕ → ℕ → ℕ → List ℕ → Type 0
NoGround n servers tasks line = (x : Ground) (place : ℕ) → LineGround n servers tasks line x place → ⊥
