-- What the walk over all periods keeps: cited by the contracts of the functions that make it.
use Rattle.std.specs.Prelude.{ℕ, ◌≤◌, ◌<◌, List, [], ◌∷◌, ◌++◌, Option, Some, None}
use Rattle.std.specs.Int.{◌∣◌}

-- every period divides n
abbrev pub Divide : List ℕ → ℕ → Type 0
Divide [] n = Unit {0}
Divide (p ∷ l) n = (p ∣ n) × Divide l n

-- the multiple of what has been passed, where `ahead` of `whole` is still to come: it and what is ahead divide just what the whole does
pub record Leads (whole ahead : List ℕ) (m : ℕ) : Type 0 where
  pub some : 0 < m
  pub small : m ≤ 16000
  pub into : (n : ℕ) → Divide whole n → (m ∣ n) × Divide ahead n
  pub back : (n : ℕ) → m ∣ n → Divide ahead n → Divide whole n

abbrev pub Spans : List ℕ → List ℕ → Option ℕ → Type 0
Spans whole ahead (Some m) = Leads whole ahead m
Spans whole ahead None = (n : ℕ) → 0 < n → n ≤ 16000 → Divide whole n → ⊥

-- a span of 1 to 16,000 ticks
abbrev pub InSpan : Option ℕ → Type 0
InSpan (Some m) = (0 < m) × (m ≤ 16000)
InSpan None = Unit {0}

-- the span with some periods more
pub record JoinsAll (span : Option ℕ) (periods : List ℕ) (r : Option ℕ) : Type 0 where
  pub bounded : InSpan r
  pub leads : (whole ahead : List ℕ) → Spans whole (periods ++ ahead) span → Spans whole ahead r
