-- A text has no more lines than bytes. Assumes nothing.
use Prim.Native.Nat.{ℕ, suc, ◌-◌, ◌≤◌}
use mathlib.Core.List.{List, [], ◌∷◌}
use mathlib.Core.Bool.{Bool, true, false}
use native.Mathlib.Omega.{arith}
use lib.ListN.{length}
use lib.Dec.{eqb}
use Rattle.basics.specs.Choice.{pick}
use Rattle.fields.specs.Fields.{in_first, split, all_but_last, lines_of}

-- each byte parts off at most one piece
pieces_most : (sep : ℕ) (l : List ℕ) → length (split sep l) ≤ suc (length l)
unfolding split
pieces_most sep [] = omega arith
pieces_most sep (b ∷ r) = go (eqb b sep) (split sep r) (pieces_most sep r)
  where
    go : (x : Bool) (fs : List (List ℕ)) → length fs ≤ suc (length r) → length (pick x ([] ∷ fs) (in_first b fs)) ≤ suc (suc (length r))
    go true fs h = omega arith
    go false [] h = omega arith
    go false (f ∷ fs) h = omega arith

-- the last piece is no line
but_last_most : (fs : List (List ℕ)) → length (all_but_last fs) ≤ length fs - 1
unfolding all_but_last
but_last_most [] = omega arith
but_last_most (f ∷ []) = omega arith
but_last_most (f ∷ (g ∷ fs)) = omega (arith, but_last_most (g ∷ fs))

pub lines_most : (text : List ℕ) → length (lines_of text) ≤ length text
lines_most text = omega (arith, but_last_most (split 10 text), pieces_most 10 text)
