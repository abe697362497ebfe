-- Document 01, 'Numbers given on refusal': the six work buffers after a call.
use Rattle.std.specs.Prelude.{ℕ, ◌≡◌, List, Bool, length, replicate}
use Rattle.basics.specs.Choice.{pick}

-- "After an accepted analysis every number of the work buffers, however long they are, is 0"; a refusal "changes nothing lent"
abbrev pub afterwards : Bool → List ℕ → List ℕ
afterwards accepted buffer = pick accepted (replicate (length buffer) 0) buffer

-- the six afterwards
pub record Buffers (accepted : Bool) (a b c d e f a' b' c' d' e' f' : List ℕ) : Type 0 where
  pub first : a' ≡ afterwards accepted a
  pub second : b' ≡ afterwards accepted b
  pub third : c' ≡ afterwards accepted c
  pub fourth : d' ≡ afterwards accepted d
  pub fifth : e' ≡ afterwards accepted e
  pub sixth : f' ≡ afterwards accepted f
