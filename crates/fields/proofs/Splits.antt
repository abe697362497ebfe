-- The pieces between separators. Assumes nothing.
use Prim.Native.Nat.{ℕ, ◌<◌}
use mathlib.Core.Path.{◌≡◌, refl, ap}
use mathlib.Core.List.{List, [], ◌∷◌}
use native.Mathlib.Omega.{arith}
use lib.ListN.{length}
use lib.Dec.{eqb}
use Rattle.std.proofs.lemmas.List.Splits.{length-slice_split}
use Rattle.fields.specs.Fields.{in_first, split}
use Rattle.fields.proofs.Library.{parts_are}

module _ (sep : ℕ) where
  -- there is a piece
  pub pieces_some : (l : List ℕ) → 0 < length (split sep l)
  pieces_some l = omega (arith, length-slice_split (λ b. eqb b sep) l, ap length (parts_are sep l))

-- a byte in front of the first piece makes no piece more
pub in_first_lem : (b : ℕ) (fs : List (List ℕ)) → 0 < length fs → length (in_first b fs) ≡ length fs
in_first_lem b [] h = absurd (omega arith)
in_first_lem b (f ∷ fs) h = refl
