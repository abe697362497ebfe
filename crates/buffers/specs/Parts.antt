-- Work buffers, and what the private functions do to them.
use Rattle.std.specs.Prelude.{ℕ, ◌+◌, ◌≤◌, ◌≡◌, List, true, length, take}
use Rattle.windows.specs.Windows.{inside, cover, is_plain}

-- a plain curve, of which nothing lies at H or later
pub record PlainBelow (H : ℕ) (curve : List ℕ) : Type 0 where
  pub plain : is_plain curve ≡ true
  pub over : (t : ℕ) → H ≤ t → cover curve t ≡ 0

-- the first n numbers of a buffer with room for 16,000 are a plain curve, of which nothing lies at H or later
pub record Curve (buffer : List ℕ) (n H : ℕ) : Type 0 where
  pub room : 16000 ≤ length buffer
  pub count : n ≤ length buffer
  pub curve : PlainBelow H (take n buffer)

-- a buffer that was `old`: its first n numbers are a plain curve that covers the ticks of f
pub record Drawn (old new : List ℕ) (n : ℕ) (f : ℕ → ℕ) : Type 0 where
  pub same : length new ≡ length old
  pub count : n ≤ length new
  pub plain : is_plain (take n new) ≡ true
  pub covers : (t : ℕ) → cover (take n new) t ≡ f t

-- a buffer that was `old`: its first n numbers are a curve
pub record Wrote (old new : List ℕ) (n : ℕ) (curve : List ℕ) : Type 0 where
  pub same : length new ≡ length old
  pub count : n ≤ length new
  pub front : take n new ≡ curve

-- a curve with one window more
abbrev pub with_window : List ℕ → ℕ → ℕ → ℕ → ℕ
with_window curve s e t = cover curve t + inside s e t
