-- Document 01, 'The table text': "worked out with Euclid's rule on each pair".
use Rattle.std.specs.Prelude.{ℕ, ◌<◌}
use Rattle.std.specs.Int.{◌∣◌}

-- g divides both, and every common divisor divides it
pub record IsGcd (a b g : ℕ) : Type 0 where
  pub left : g ∣ a
  pub right : g ∣ b
  pub greatest : (d : ℕ) → d ∣ a → d ∣ b → d ∣ g

-- both divide m, and m divides every common multiple
pub record IsLcm (a b m : ℕ) : Type 0 where
  pub some : 0 < m
  pub left : a ∣ m
  pub right : b ∣ m
  pub least : (n : ℕ) → a ∣ n → b ∣ n → m ∣ n
