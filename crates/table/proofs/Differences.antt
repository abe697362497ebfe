-- The difference of two numbers, below zero where the second is larger. Assumes nothing.
use mathlib.Core.Bool.{Bool, true, false, cond}
use Prim.Native.Nat.{ℕ, zero, suc, ◌-◌, ◌≤◌}
use native.Mathlib.Omega.{arith}
use lib.Dec.{ltb}
use lib.IntN.{ℤ, pos, negsuc, nat_abs, ◌-ℤ◌}
use mir.Syntax.{w32}
use mir.Val.{SFits}

cond_size : (b : Bool) (x y : ℤ) {h : ℕ} → nat_abs x ≤ h → nat_abs y ≤ h → nat_abs (cond b x y) ≤ h
cond_size true x y p q = p
cond_size false x y p q = q

-- it is no larger than both
pub difference_size : (d r : ℕ) {h : ℕ} → d ≤ h → r ≤ h → nat_abs (pos d -ℤ pos r) ≤ h
difference_size d zero p q = omega arith
difference_size d (suc n) {h} p q = cond_size (ltb d (suc n)) (negsuc (suc n - suc d)) (pos (d - suc n)) {h = h} (omega arith) (omega arith)

-- what is no larger than 1,000,000 fits
pub size_fits : (z : ℤ) → nat_abs z ≤ 1000000 → SFits w32 z
size_fits (pos n) h = record { sfits = omega arith }
size_fits (negsuc n) h = record { sfits = omega arith }

pub difference_fits : (d r : ℕ) → d ≤ 1000000 → r ≤ 1000000 → SFits w32 (pos d -ℤ pos r)
difference_fits d r p q = size_fits (pos d -ℤ pos r) (difference_size d r {h = 1000000} p q)
