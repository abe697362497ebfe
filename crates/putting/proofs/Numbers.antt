-- A number put by its digits. Assumes nothing.
use Prim.Native.Nat.{ℕ, ◌+◌, ◌/◌, ◌%◌, ◌≤◌, ◌<◌}
use mathlib.Core.Path.{◌≡◌, ap}
use mathlib.Core.List.{[], ◌∷◌}
use native.Mathlib.Omega.{arith}
use lib.ListN.{length}
use mir.Syntax.{w32}
use mir.Val.{Fits}
use Rattle.putting.specs.declared.Page.{Page}
use Rattle.putting.specs.Decimal.{decimal}
use Rattle.putting.specs.Pages.{Adds}
use Rattle.putting.proofs.Decimals.{decimal_small, decimal_more, decimal_some, decimal_tenth, decimal_length}
use Rattle.putting.proofs.Pages.{adds_more}

module _ (value : ℕ) {p q : Page} where
  -- one digit
  pub number_small : value < 10 → Adds p q ((48 + value % 10) ∷ []) → Adds p q (decimal value)
  number_small h v = let is : value % 10 ≡ value = omega arith in rw (decimal_small value h) (rw is at v)

  -- the last digit behind those of the tenth
  pub number_more : {m : Page} → 10 ≤ value → Adds p m (decimal (value / 10)) → Adds m q ((48 + value % 10) ∷ []) → Adds p q (decimal value)
  number_more h v w = rw (decimal_more value h) (adds_more v w)

-- the digits of a `u32` are ten at the most
pub number_most : (value : ℕ) {p q : Page} → Fits w32 value → Adds p q (decimal value) → q.count ≤ p.count + 10
number_most value f v = omega (arith, v.puts.count, decimal_length value f)

-- behind those of the tenth is room for the last one
pub number_room : (value : ℕ) {p q : Page} → 10 ≤ value → Fits w32 value → Adds p q (decimal (value / 10)) → q.count + 1 ≤ p.count + 10
number_room value h f v = omega (arith, v.puts.count, decimal_length value f, decimal_tenth value h)

-- ---- how many digits

-- the digits of the number and one for each that was taken off, of which one was counted first
pub record Measured (value n w : ℕ) : Type 0 where
  pub left : w + length (decimal n) ≡ length (decimal value) + 1

-- none is taken off
pub measured_none : (value : ℕ) → Measured value value 1
measured_none value = record { left = omega arith }

-- one more
pub measured_next : (value n w : ℕ) → 10 ≤ n → Measured value n w → Measured value (n / 10) (w + 1)
measured_next value n w h m = record { left = omega (arith, m.left, decimal_tenth n h) }

-- the last one is left
pub measured_all : (value n w : ℕ) → n < 10 → Measured value n w → w ≡ length (decimal value)
measured_all value n w h m = omega (arith, m.left, ap length (decimal_small n h))

-- while more than one is left, fewer than ten were counted
pub measured_few : (value n w : ℕ) → 10 ≤ n → Fits w32 value → Measured value n w → w < 10
measured_few value n w h f m = omega (arith, m.left, decimal_length value f, decimal_tenth n h, decimal_some (n / 10))
