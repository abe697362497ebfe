-- How many bytes a field has, by how large its number is. Assumes nothing.
use Prim.Native.Nat.{ℕ, suc, ◌≤◌}
use native.Mathlib.Omega.{arith}
use lib.ListN.{length}
use lib.IntN.{ℤ, pos, negsuc, nat_abs}
use Rattle.putting.specs.Decimal.{field, signed}
use Rattle.putting.proofs.Decimals.{decimal_below}

-- a tab and two digits
pub field_two : (n : ℕ) → n ≤ 99 → length (field n) ≤ 3
field_two n h = omega (arith, decimal_below 1 n (omega arith))

-- a tab and four digits
pub field_four : (n : ℕ) → n ≤ 9999 → length (field n) ≤ 5
field_four n h = omega (arith, decimal_below 3 n (omega arith))

-- a tab and five digits
pub field_five : (n : ℕ) → n ≤ 99999 → length (field n) ≤ 6
field_five n h = omega (arith, decimal_below 4 n (omega arith))

-- a tab, a minus sign and five digits
pub signed_five : (z : ℤ) → nat_abs z ≤ 99999 → length (signed z) ≤ 7
signed_five (pos n) h = omega (arith, field_five n h)
signed_five (negsuc n) h = omega (arith, field_five (suc n) h)
