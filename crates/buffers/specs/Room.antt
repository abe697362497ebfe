-- How long the work buffers are.
use Rattle.std.specs.Prelude.{ℕ, ◌≤◌, List, length}

-- each has room for 16,000 numbers
pub record Roomy (free sum part held running spare : List ℕ) : Type 0 where
  pub of_free : 16000 ≤ length free
  pub of_sum : 16000 ≤ length sum
  pub of_part : 16000 ≤ length part
  pub of_held : 16000 ≤ length held
  pub of_running : 16000 ≤ length running
  pub of_spare : 16000 ≤ length spare
