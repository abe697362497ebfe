-- Lists of answers: how long they are, and what stands at a place. Assumes nothing.
use Prim.Native.Nat.{ℕ, zero, suc, ◌+◌, ◌<◌}
use mathlib.Core.Path.{◌≡◌, refl, ap, ap₂, ◌∙◌}
use mathlib.Core.List.{List, [], ◌∷◌}
use mathlib.Core.Bool.{true}
use native.Mathlib.Omega.{arith}
use lib.ListN.{length, get_or}
use lib.Dec.{ltb}
use borrow.Author.Tests.{lt-ltb}
use Rattle.basics.specs.Choice.{pick}
use Rattle.answers.specs.Answers.{entries}

module _ {A : Type 0} (f : ℕ → A) (empty : A) (count : ℕ) where
  pub entries_length : (k i : ℕ) → length (entries f empty count k i) ≡ k
  unfolding entries
  entries_length zero i = refl
  entries_length (suc k) i = ap suc (entries_length k (suc i))

  entries_at : (k i u : ℕ) → u < k → get_or (entries f empty count k i) u empty ≡ pick (ltb (i + u) count) (f (i + u)) empty
  unfolding entries
  entries_at zero i u h = absurd (omega arith)
  entries_at (suc k) i zero h = let e : i + 0 ≡ i = omega arith in rw e refl
  entries_at (suc k) i (suc u) h = let e : i + suc u ≡ suc i + u = omega arith in rw e (entries_at k (suc i) u (omega arith))

  -- a place below the count has its own
  pub entry_is : (k u : ℕ) → u < k → u < count → get_or (entries f empty count k 0) u empty ≡ f u
  entry_is k u h l =
      let e : 0 + u ≡ u = omega arith in
      let below : ltb u count ≡ true = lt-ltb u count l in
      entries_at k 0 u h ∙ rw (e, below) refl

  -- a list that has the entries is theirs
  pub entries_are : (l : List A) (i : ℕ) → ((u : ℕ) → get_or l u empty ≡ pick (ltb (i + u) count) (f (i + u)) empty) → l ≡ entries f empty count (length l) i
  unfolding entries
  entries_are [] i e = refl
  entries_are (a ∷ l) i e =
      let z : i + 0 ≡ i = omega arith in
      let s : (u : ℕ) → i + suc u ≡ suc i + u = λ u. omega arith in
      ap₂ ◌∷◌ (rw z at (e 0)) (entries_are l (suc i) (λ u. rw (s u) at (e (suc u))))

-- inside a list the entry does not depend on what is read beyond it
pub inside_any : {A : Type 0} (l : List A) (i : ℕ) (d e : A) → i < length l → get_or l i d ≡ get_or l i e
inside_any [] i d e h = absurd (omega arith)
inside_any (x ∷ l) zero d e h = refl
inside_any (x ∷ l) (suc i) d e h = inside_any l i d e (omega arith)
