-- The marks of the places below one, and what they tell of the first place that passes a test. Assumes nothing.
use Prim.Native.Nat.{ℕ, zero, suc, ◌-◌, ◌≤◌, ◌<◌}
use mathlib.Core.Path.{◌≡◌, refl, ap}
use mathlib.Core.Bool.{Bool, false}
use native.Mathlib.Omega.{arith}
use native.Mathlib.Decide.{dec_lt, ℕ_discrete}
use borrow.Author.Tests.{eq-eqb, ne_eqb}
use Rattle.table.specs.Places.{first_of}
use Rattle.table.proofs.Places.{first_is, first_not}
use Rattle.machine.proofs.WholeRun.{mark, mark_most}

-- the mark is 1 at the number's own place
pub mark_own : (n i : ℕ) → n ≡ suc i → mark n i ≡ 1
mark_own n i e = rw (eq-eqb n (suc i) e)

-- it is 0 at every other place
pub mark_other : (n i : ℕ) → ¬ (n ≡ suc i) → mark n i ≡ 0
mark_other n i h = rw (ne_eqb n (suc i) h)

-- it is never more than 1
pub mark_one : (n i : ℕ) → mark n i ≤ 1
mark_one n i = mark_most n i 1 (λ e. omega arith)

-- 1 where none of the places below i is the number's own, and 0 elsewhere
unfoldable pub unmarked : ℕ → ℕ → ℕ
unmarked n zero = 1
unmarked n (suc i) = unmarked n i - mark n i

-- this is never more than 1
pub unmarked_one : (n i : ℕ) → unmarked n i ≤ 1
unfolding unmarked
unmarked_one n zero = omega arith
unmarked_one n (suc i) = omega (arith, unmarked_one n i)

-- this is 1 up to the number's own place
pub unmarked_before : (n i : ℕ) → i < n → unmarked n i ≡ 1
unfolding unmarked
unmarked_before n zero h = refl
unmarked_before n (suc i) h = omega (arith, unmarked_before n i (omega arith), mark_other n i (λ e. omega arith))

-- this is 0 behind it
pub unmarked_behind : (m i : ℕ) → m < i → unmarked (suc m) i ≡ 0
unfolding unmarked
unmarked_behind m zero h = absurd (omega arith)
unmarked_behind m (suc i) h = go (unmarked_behind m i) (ℕ_discrete m i)
  where
    go : (m < i → unmarked (suc m) i ≡ 0) → Dec (m ≡ i) → unmarked (suc m) i - mark (suc m) i ≡ 0
    go ih (yes e) = omega (arith, unmarked_one (suc m) i, mark_own (suc m) i (ap suc e))
    go ih (no k) = omega (arith, ih (omega arith))

-- so where this is 1, the number's own place is not below
unmarked_not_behind : (m i : ℕ) → unmarked (suc m) i ≡ 1 → i ≤ m
unmarked_not_behind m i e = go (dec_lt m i)
  where
    go : Dec (m < i) → i ≤ m
    go (yes h) = absurd (omega (arith, e, unmarked_behind m i h))
    go (no h) = omega arith

-- a marked place has no mark below it
pub mark_first : (n i : ℕ) → mark n i ≤ unmarked n i
mark_first n i = mark_most n i (unmarked n i) (λ e. omega (arith, unmarked_before n i (omega arith)))

-- a place with no mark on it and none below it has not passed, if the number is the first place's that passes
pub passed_over : (p : ℕ → Bool) (k n i : ℕ) → first_of p k 0 ≡ n → i < k → unmarked n i ≡ 1 → mark n i ≡ 0 → p i ≡ false
passed_over p k zero i e h u m = first_not p k 0 e i (omega arith) (omega arith)
passed_over p k (suc n) i e h u m = go (ℕ_discrete n i)
  where
    go : Dec (n ≡ i) → p i ≡ false
    go (yes q) = absurd (omega (arith, m, mark_own (suc n) i (ap suc q)))
    go (no q) = (first_is p k 0 n e).before i (omega arith) (omega (arith, unmarked_not_behind n i u))
