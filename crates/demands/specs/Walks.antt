-- How the walks along releases go: what the functions that write demands make of what they are given.
use Rattle.std.specs.Prelude.{ℕ, ◌+◌, ◌≤◌, ◌<◌, List, [], ◌∷◌, ◌≡◌, true}
use Rattle.table.specs.Rules.{release_obeys}
use Rattle.table.specs.declared.Release.{Release}
use Rattle.table.specs.declared.Release.TheVariants.{Once, Every}
use Rattle.table.specs.declared.Task.{Task}

pub record TaskObeyed (task : Task) : Type 0 where
  pub some : 1 ≤ task.work
  pub most : task.work ≤ 16000
  pub release : release_obeys task.release ≡ true

abbrev pub first_release : Release → ℕ
first_release (Once instant) = instant
first_release (Every offset period) = offset

abbrev pub next_release : Release → ℕ → ℕ
next_release (Once instant) last = 16000
next_release (Every offset period) last = last + period

-- every window starts before H
unfoldable pub StartsBelow : ℕ → List ℕ → Type 0
StartsBelow H [] = Unit {0}
StartsBelow H (s ∷ []) = ⊥
StartsBelow H (s ∷ (e ∷ r)) = (s < H) × StartsBelow H r
