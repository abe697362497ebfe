-- The walk along the full periods of a server, from the first on, to one that is short. Assumes nothing.
use Prim.Native.Nat.{ℕ, ◌+◌, ◌-◌, ◌*◌, ◌≤◌, ◌<◌}
use mathlib.Core.Path.{◌≡◌, sym, ap₂}
use mathlib.Core.List.{List}
use mathlib.Core.Bool.{true, false}
use native.Mathlib.Omega.{arith}
use native.Mathlib.Nat.{mul-le-mul_right}
use native.Mathlib.Numerals.{add-one}
use lib.Dec.{ltb}
use borrow.Author.Tests.{lt-ltb, le-ltb}
use Rattle.windows.specs.Windows.{cover, upto}
use Rattle.windows.proofs.Counts.{upto_rises}
use Rattle.table.proofs.Places.{Walk, walk_starts, walk_goes_on, walk_finds, walk_ends}
use Rattle.answers.specs.Answers.{ticks_in, short_on, short_of}
use Rattle.std.specs.Prelude.{Some, None}
use Rattle.judging.specs.declared.passing.Passed.{Passed}
use Rattle.judging.specs.Passes.{Passes, EndsBy}
use Rattle.judging.proofs.PassedWindows.{passes_none}

-- it has come to period k: `below` ticks of the free curve lie before it, and no period before it is short. The windows passed end where it
-- starts or before
pub record Looking (free : List ℕ) (C T full : ℕ) (passed : Passed) (below k : ℕ) : Type 0 where
  pub walk : Walk (λ n. ltb (ticks_in free T n) C) full k
  pub count : below ≡ upto (cover free) (k * T)
  pub passes : Passes free passed
  pub ends : EndsBy free passed.windows (k * T)

pub looking_starts : (free : List ℕ) (C T full : ℕ) {passed : Passed} → (passed.windows ≡ 0) × (passed.given ≡ 0) → Looking free C T full passed 0 0
unfolding upto
looking_starts free C T full e =
    let none : 0 * T ≡ 0 = omega arith in
    record { walk = walk_starts _ full; count = rw none; passes = passes_none free e; ends = λ h. absurd (omega arith) }

-- a full period ends where all end or before
pub period_inside : (T full k : ℕ) → k < full → (k + 1) * T ≤ full * T
period_inside T full k h = mul-le-mul_right T (omega arith)

-- it ends where it starts or later
period_rises : (T k : ℕ) → k * T ≤ (k + 1) * T
period_rises T k = mul-le-mul_right T (omega arith)

module _ {free : List ℕ} {C T full : ℕ} {passed : Passed} {below k : ℕ} (v : Looking free C T full passed below k) where
  pub ends_later : EndsBy free passed.windows ((k + 1) * T)
  ends_later m = omega (arith, v.ends m, period_rises T k)

  module _ {given : ℕ} (e : given ≡ upto (cover free) ((k + 1) * T)) where
    pub count_rises : below ≤ given
    count_rises = omega (arith, e, v.count, upto_rises (cover free) (k * T) ((k + 1) * T) (period_rises T k))

    -- how many ticks the period has
    ticks_are : ticks_in free T k ≡ given - below
    ticks_are = rw (← add-one k) (ap₂ ◌-◌ (sym e) (sym v.count))

    pub looking_finds : k < full → given - below < C → Some k ≡ short_of (short_on free C T full)
    looking_finds h l =
        let short : ltb (ticks_in free T k) C ≡ true = rw ticks_are (lt-ltb (given - below) C l) in
        rw (walk_finds v.walk h short, add-one k)

    pub looking_next : {later : Passed} → k < full → C ≤ given - below → Passes free later → EndsBy free later.windows ((k + 1) * T)
        → Looking free C T full later given (k + 1)
    looking_next h l p b =
        let enough : ltb (ticks_in free T k) C ≡ false = rw ticks_are (le-ltb (given - below) C l) in
        record { walk = walk_goes_on v.walk h enough; count = e; passes = p; ends = b }

  pub looking_ends : full ≤ k → None ≡ short_of (short_on free C T full)
  looking_ends h = rw (walk_ends v.walk h)
