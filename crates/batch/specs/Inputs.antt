-- Standard input as the programs hold it, part by part at the front of an array.
use Rattle.std.specs.Prelude.{ℕ, ◌-◌, ◌≤◌, ◌<◌, ◌≡◌, ◌≢◌, ◌⊎◌, List, true, false, length, take, drop, get_or}
use Rattle.batch.specs.declared.inputs.Input.{Input}

-- the first n bytes of a text end with a line feed, or there are none
abbrev pub EndsLine : List ℕ → ℕ → Type 0
EndsLine text n = 0 < n → get_or text (n - 1) 0 ≡ 10

-- the first n bytes of a text are all its whole lines
pub record WholeLines (text : List ℕ) (n : ℕ) : Type 0 where
  pub ends : EndsLine text n
  pub behind : (j : ℕ) → n ≤ j → j < length text → get_or text j 0 ≢ 10

-- what stood from place `lines` to place `held` stands at the front, and so many bytes that is
pub record Moved (old new : List ℕ) (lines held kept : ℕ) : Type 0 where
  pub room : kept ≤ length old
  pub count : held ≤ length old → kept ≡ held - lines
  pub front : take kept new ≡ take kept (drop lines old)

-- more was read behind the first `kept` bytes, which are as they were
pub record Filled (old new : List ℕ) (kept held : ℕ) : Type 0 where
  pub more : kept ≤ held
  pub room : held ≤ length old
  pub front : take kept new ≡ take kept old

-- the last line is ended; what was held is as it was
pub record Ended (old new : List ℕ) (held all : ℕ) : Type 0 where
  pub more : held ≤ all
  pub room : all ≤ length old
  pub front : take held new ≡ take held old
  pub ends : EndsLine new all

-- what is held of a full room: all, or of a line that is too long only a question mark
pub record Cut (old new : List ℕ) (lines held : ℕ) : Type 0 where
  pub more : lines ≤ length old → lines ≤ held
  pub room : held ≤ length old
  pub whole : 0 < lines → (held ≡ length old) × (new ≡ old)
  pub long : lines ≡ 0 → (held ≡ 1) × (get_or new 0 0 ≡ 63)

-- what is held after the next part of the input is read
pub record NextPart (was next : Input) : Type 0 where
  pub lines : next.lines ≤ next.held
  pub held : next.held ≤ length was.room
  -- the lines are whole, and they are all the whole lines that are held
  pub ends : EndsLine next.room next.lines
  pub behind : (j : ℕ) → next.lines ≤ j → j < next.held → get_or next.room j 0 ≢ 10
  -- at the input's end all is lines
  pub last : next.ended ≡ true → next.lines ≡ next.held
  -- what was held behind the lines before is still held, at the front, where a line ends and at the input's end
  pub rest : was.held ≤ length was.room → (0 < next.lines) ⊎ (next.ended ≡ true)
      → (was.held - was.lines ≤ next.held) × (take (was.held - was.lines) next.room ≡ take (was.held - was.lines) (drop was.lines was.room))
  -- where no line ends in a full room, a question mark is all that is held of it
  pub long : next.ended ≡ false → next.lines ≡ 0 → (next.held ≡ 1) × (get_or next.room 0 0 ≡ 63)
