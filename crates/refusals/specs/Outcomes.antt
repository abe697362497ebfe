-- Document 01, 'Numbers given on refusal': what a call answers, and a lent buffer afterwards. An answer is `Ok`, a refusal is `Err`.
use Rattle.std.specs.Prelude.{ℕ, ◌≡◌, List, ◌++◌, length, drop, Result, Ok, Err}
use Rattle.refusals.specs.declared.Refusal.{Refusal}

-- "each result in a lent buffer starts at its front, and the rest is unchanged"
abbrev pub front : List ℕ → List ℕ → List ℕ
front result old = result ++ drop (length result) old

-- a refusal "changes nothing lent"
abbrev pub lent : {A : Type 0} → Result A Refusal → List ℕ → List ℕ → List ℕ
lent (Ok n) result old = front result old
lent (Err refusal) result old = old

-- ---- a call that writes one result to a lent buffer: what it answers, by its outcome, and the buffer afterwards
pub record Leaves (outcome : Result ℕ Refusal) (result old : List ℕ) (r : Result ℕ Refusal) (after : List ℕ) : Type 0 where
  pub answer_is : r ≡ outcome
  pub buffer : after ≡ lent outcome result old
