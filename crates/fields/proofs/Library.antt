-- The words of specs/ that the library has too. Assumes nothing.
use Rattle.std.proofs.Common.{get_or, Option, Some, None, unwrap_or, ◌≡◌, ℕ, Bool, true, false, ◌&&◌, cond, eqb, List, [], ◌∷◌, refl, ap, ◌∙◌}
use Rattle.std.specs.List.{list_all, slice_get, slice_split, onto_first}
use Rattle.std.specs.Option.{option_map}
use Rattle.std.specs.Cmp.Lexicographic.{pointwise}
use Rattle.std.proofs.lemmas.Option.{unwrap_or-slice_get}
use Rattle.basics.specs.Choice.{pick}
use Rattle.table.specs.Rules.{all}
use Rattle.fields.specs.Fields.{in_first, split, same_bytes}

-- `==` of two slices
pub same_is : (l m : List ℕ) → pointwise eqb l m ≡ same_bytes l m
unfolding same_bytes
same_is [] [] = refl
same_is [] (b ∷ m) = refl
same_is (a ∷ l) [] = refl
same_is (a ∷ l) (b ∷ m) = ap (λ x. eqb a b && x) (same_is l m)

pub all_is : {A : Type 0} (f : A → Bool) (l : List A) → list_all f l ≡ all f l
unfolding all
all_is f [] = refl
all_is f (a ∷ l) = ap (λ x. f a && x) (all_is f l)

pick_is : {A : Type 0} (t : Bool) (x y : A) → pick t x y ≡ cond t x y
pick_is true x y = refl
pick_is false x y = refl

in_first_is : (b : ℕ) (fs : List (List ℕ)) → onto_first b fs ≡ in_first b fs
in_first_is b [] = refl
in_first_is b (f ∷ fs) = refl

-- `split`
pub parts_are : (sep : ℕ) (l : List ℕ) → slice_split (λ b. eqb b sep) l ≡ split sep l
unfolding split
parts_are sep [] = refl
parts_are sep (b ∷ r) = rw (parts_are sep r, in_first_is b (split sep r), pick_is (eqb b sep) ([] ∷ split sep r) (in_first b (split sep r)))

-- `nth`, or another where there is none
pub nth_or : {A B : Type 0} (f : A → B) (o : Option A) (y : A) (xs : List B) (i : ℕ) → option_map f o ≡ slice_get xs i → f (unwrap_or o y) ≡ get_or xs i (f y)
nth_or f None y xs i e = ap (λ x. unwrap_or x (f y)) e ∙ unwrap_or-slice_get xs i (f y)
nth_or f (Some x) y xs i e = ap (λ x. unwrap_or x (f y)) e ∙ unwrap_or-slice_get xs i (f y)
