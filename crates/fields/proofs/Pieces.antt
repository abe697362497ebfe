-- The pieces of a text, computed in one walk: `split` names its rest twice, and so computes it twice. For examples. Assumes nothing.
use Prim.Native.Nat.{ℕ}
use mathlib.Core.Path.{◌≡◌, refl, ap, ◌∙◌}
use mathlib.Core.List.{List, [], ◌∷◌}
use mathlib.Core.Bool.{Bool, true, false}
use lib.Dec.{eqb}
use Rattle.basics.specs.Choice.{pick}
use Rattle.fields.specs.Fields.{in_first, split}

abbrev pub piece : Bool → ℕ → List (List ℕ) → List (List ℕ)
piece true b fs = [] ∷ fs
piece false b fs = in_first b fs

abbrev pub pieces : ℕ → List ℕ → List (List ℕ)
pieces sep [] = [] ∷ []
pieces sep (b ∷ r) = piece (eqb b sep) b (pieces sep r)

piece_is : (t : Bool) (b : ℕ) (fs : List (List ℕ)) → pick t ([] ∷ fs) (in_first b fs) ≡ piece t b fs
piece_is true b fs = refl
piece_is false b fs = refl

pub split_is : (sep : ℕ) (l : List ℕ) → split sep l ≡ pieces sep l
unfolding split
split_is sep [] = refl
split_is sep (b ∷ r) = piece_is (eqb b sep) b (split sep r) ∙ ap (piece (eqb b sep) b) (split_is sep r)
