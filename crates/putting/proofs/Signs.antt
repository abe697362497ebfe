-- The sign of a margin and its size. Assumes nothing.
use Prim.Native.Nat.{ℕ}
use mathlib.Core.Path.{◌≡◌, refl}
use mathlib.Core.Bool.{true}
use mathlib.Core.List.{◌∷◌}
use native.Mathlib.Omega.{arith}
use lib.IntN.{ℤ, pos, negsuc, nat_abs}
use lib.Signed.{lt_z}
use mir.Syntax.{w32}
use mir.Val.{SFits, to_z, of_z}
use mir.Facts.{to_z-of_z}
use borrow.Author.Tests.{ltb-true}
use Rattle.putting.specs.Decimal.{decimal, signed}

-- below zero a minus sign stands in front of the size
below_signed : (z : ℤ) → lt_z z (pos 0) ≡ true → 9 ∷ (45 ∷ decimal (nat_abs z)) ≡ signed z
below_signed (pos n) e = absurd (omega (arith, ltb-true n 0 e))
below_signed (negsuc n) e = refl

-- a margin is what is read of its bits
pub signed_below : (z : ℤ) {ticks : ℕ} → SFits w32 z → lt_z (to_z w32 (of_z w32 z)) (pos 0) ≡ true → ticks ≡ nat_abs (to_z w32 (of_z w32 z))
    → 9 ∷ (45 ∷ decimal ticks) ≡ signed z
signed_below z f h e = let read = to_z-of_z f in rw (e, read) (below_signed z (rw read at h))
