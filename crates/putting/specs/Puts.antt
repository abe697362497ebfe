-- Bytes put one behind the other into a buffer: what the inner functions do.
use Rattle.std.specs.Prelude.{ℕ, ◌+◌, ◌≤◌, ◌≡◌, List, ◌++◌, length, take, drop}

-- bytes put behind the first n of a buffer that was `old`: r counts them all, and if they fit they are there and nothing else is changed
pub record Put (old new : List ℕ) (n : ℕ) (bytes : List ℕ) (r : ℕ) : Type 0 where
  pub count : r ≡ n + length bytes
  pub same : length new ≡ length old
  pub fits : r ≤ length old → new ≡ take n old ++ (bytes ++ drop r old)
