-- How far a walk along a curve has come, so that the next one can go on there: cited by the contracts of private functions only.
use Rattle.std.specs.Prelude.{ℕ, ◌+◌, ◌-◌, ◌*◌, ◌≤◌, ◌<◌, ◌≡◌, List, length, take, get_or, ltb, Option, Some, None}
use Rattle.basics.specs.Choice.{pick}
use Rattle.windows.specs.Windows.{size}
use Rattle.judging.specs.declared.passing.Passed.{Passed}

-- so many windows are passed, and what is given is their length
pub record Passes (curve : List ℕ) (p : Passed) : Type 0 where
  pub count : 2 * p.windows ≤ length curve
  pub given : p.given ≡ size (take (2 * p.windows) curve)

-- an amount above what is given is reached in the first window that is not passed, if there is one
abbrev pub reached_at : List ℕ → Passed → ℕ → Option ℕ
reached_at curve p amount =
    pick (ltb (2 * p.windows) (length curve)) (Some (get_or curve (2 * p.windows) 0 + (amount - p.given))) None

-- the last window that is passed ends at the instant t or before
abbrev pub EndsBy : List ℕ → ℕ → ℕ → Type 0
EndsBy curve windows t = 0 < windows → get_or curve (2 * windows - 1) 0 ≤ t

-- and the first that is not ends after it
abbrev pub EndsAfter : List ℕ → ℕ → ℕ → Type 0
EndsAfter curve windows t = 2 * windows < length curve → t < get_or curve (2 * windows + 1) 0
