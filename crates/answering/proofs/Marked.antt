-- The first place that is marked, once all places are. Assumes nothing.
use Prim.Native.Nat.{ℕ, zero, suc, ◌+◌, ◌≤◌, ◌<◌}
use mathlib.Core.Path.{◌≡◌, refl, ap, ◌∙◌}
use mathlib.Core.List.{List}
use mathlib.Core.Bool.{Bool, false}
use native.Mathlib.Omega.{arith}
use lib.ListN.{length, get_or, take, replicate}
use lib.Seq.{length-take-le, get_or-take}
use lib.Dec.{ltb}
use borrow.Author.Tests.{lt-ltb}
use Rattle.basics.specs.Choice.{pick}
use Rattle.table.specs.Places.{first_of}
use Rattle.noting.specs.Noted.{Noted}

-- tests that agree find the same place
same_first : (p q : ℕ → Bool) (k i : ℕ) → ((u : ℕ) → u < i + k → p u ≡ q u) → first_of p k i ≡ first_of q k i
unfolding first_of
same_first p q zero i e = refl
same_first p q (suc k) i e = rw (e i (omega arith), same_first p q k (suc i) (λ u h. e u (omega arith)))

-- where no place passes, none is found
none_found : (k i : ℕ) → first_of (λ i. false) k i ≡ 0
unfolding first_of
none_found zero i = refl
none_found (suc k) i = none_found k (suc i)

abbrev pub marked : List Bool → ℕ → Bool
marked marks i = get_or marks i false

-- what is marked passes the test
pub marked_first : (f : ℕ → Bool) (n : ℕ) (l : List Bool) → Noted f false (λ i. ltb i n) l → first_of (λ i. get_or l i false) n 0 ≡ first_of f n 0
marked_first f n l w =
    same_first (λ i. get_or l i false) f n 0 (λ u h. w.each u ∙ ap (λ b. pick b (f u) false) (lt-ltb u n (omega arith)))

-- a front that is searched alone
pub front_marked : (n : ℕ) (l : List Bool) → n ≤ length l → first_of (marked (take n l)) (length (take n l)) 0 ≡ first_of (marked l) n 0
front_marked n l h =
    ap (λ (k : ℕ). first_of (marked (take n l)) k 0) (length-take-le n l h)
    ∙ same_first (marked (take n l)) (marked l) n 0 (λ u k. get_or-take n l u false (omega arith))

-- where nothing is marked, no place is found
pub unmarked_first : (m n : ℕ) (l : List Bool) → l ≡ replicate m false → first_of (λ i. get_or l i false) n 0 ≡ 0
unfolding first_of
unmarked_first m n l e = same_first (λ i. get_or l i false) (λ i. false) n 0 (λ u h. rw e (none_there m u)) ∙ none_found n 0
  where
    none_there : (m u : ℕ) → get_or (replicate m false) u false ≡ false
    none_there zero u = refl
    none_there (suc m) zero = refl
    none_there (suc m) (suc u) = none_there m u
