-- Document 01, 'Numbers given on refusal': "Each ground is tested by order: .. 1, 2; then line by line 3, 7, 4, 5, 6, within 5 and within 6 from the left;
-- then 3 for what is missing, on the line after the last; then 8." The grounds of a whole text, each with its line and place; each contains that those
-- before it do not hold.
use Rattle.std.specs.Prelude.{ℕ, ◌+◌, ◌≤◌, ◌<◌, ◌≡◌, List, [], ◌∷◌, Bool, true, false, ◌&&◌, None, Result, length, ltb}
use Rattle.table.specs.Rules.{servers_of, tasks_of}
use Rattle.table.specs.Span.{periods_of, span_of}
use Rattle.table.specs.declared.Table.{Table}
use Rattle.fields.specs.Fields.{lines_of}
use Rattle.lines.specs.Lines.{line_of}
use Rattle.lines.specs.declared.Line.{Line}
use Rattle.lines.specs.declared.Wrong.{Wrong}
use Rattle.reading.specs.Reading.{no_table, ends_with_feed}
use Rattle.reading.specs.Pieces.{with_said}
use Rattle.refusals.specs.declared.Ground.{Ground}
use Rattle.refusals.specs.declared.Ground.TheVariants.{TextTooLong, NotEnded, Missing, MultipleOver}
use Rattle.grounds.specs.Grounds.{LineGround, NoGround}

-- what line n says behind a table, and its grounds there
abbrev pub said : Table → ℕ → List ℕ → Result Line Wrong
said t n l = line_of n t.servers_n t.tasks_n l

abbrev pub GroundBehind : Table → ℕ → List ℕ → Ground → ℕ → Type 0
GroundBehind t n l x place = LineGround n t.servers_n t.tasks_n l x place

abbrev pub RightBehind : Table → ℕ → List ℕ → Type 0
RightBehind t n l = NoGround n t.servers_n t.tasks_n l

-- of lines behind a table, the first of them line n: no line above line k has a ground, they make the table u, and l is line k
pub data Reached : List (List ℕ) → Table → ℕ → ℕ → Table → List ℕ → Type 0 where
  here : {l : List ℕ} {ls : List (List ℕ)} {t : Table} {n : ℕ} → Reached (l ∷ ls) t n n t l
  later : {l m : List ℕ} {ls : List (List ℕ)} {t u : Table} {n k : ℕ}
      → RightBehind t n l → Reached ls (with_said t (said t n l)) (n + 1) k u m → Reached (l ∷ ls) t n k u m

-- line k is the first that has a ground
pub record FirstGround (ls : List (List ℕ)) (t : Table) (n : ℕ) (x : Ground) (k place : ℕ) : Type 0 where
  pub above : Table
  pub line : List ℕ
  pub reached : Reached ls t n k above line
  pub ground : GroundBehind above k line x place

-- none of them has a ground; what they say makes the table u, and m is the number of the line after the last
pub data AllRight : List (List ℕ) → Table → ℕ → Table → ℕ → Type 0 where
  end : {t : Table} {n : ℕ} → AllRight [] t n t n
  next : {l : List ℕ} {ls : List (List ℕ)} {t u : Table} {n m : ℕ}
      → RightBehind t n l → AllRight ls (with_said t (said t n l)) (n + 1) u m → AllRight (l ∷ ls) t n u m

-- there is a server, and there is a task
abbrev pub both : Table → Bool
both t = ltb 0 t.servers_n && ltb 0 t.tasks_n

-- a text that passes 1 and 2
pub record Whole (text : List ℕ) : Type 0 where
  pub short : length text ≤ 4096
  pub ended : ends_with_feed text ≡ true

pub data TextGround (text : List ℕ) : Ground → ℕ → ℕ → Type 0 where
  -- 1: "text over 4,096 bytes"
  long : 4096 < length text → TextGround text TextTooLong 0 0
  -- 2: "text empty or last byte not a line feed"
  unended : length text ≤ 4096 → ends_with_feed text ≡ false → TextGround text NotEnded 0 0
  -- 3 to 7 and 14 to 18: the first line that has a ground
  in_line : {x : Ground} {k place : ℕ} → Whole text → FirstGround (lines_of text) no_table 1 x k place → TextGround text x k place
  -- 3: "no server; no task", on the line after the last
  missing : {u : Table} {m : ℕ} → Whole text → AllRight (lines_of text) no_table 1 u m → both u ≡ false → TextGround text Missing m 0
  -- 8: "`span` is `-` and the multiple is above 16,000"
  over : {u : Table} {m : ℕ} → Whole text → AllRight (lines_of text) no_table 1 u m → both u ≡ true → u.span ≡ 0
      → span_of (periods_of (servers_of u) (tasks_of u)) ≡ None → TextGround text MultipleOver 0 0
