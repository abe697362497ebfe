-- The entries of a table within its count, one at a time. Assumes nothing.
use Prim.Native.Nat.{ℕ, suc, ◌+◌, ◌≤◌, ◌<◌, min}
use mathlib.Core.Path.{◌≡◌, refl, sym, ap, ◌∙◌}
use mathlib.Core.List.{List, [], ◌∷◌, ◌++◌, map}
use mathlib.Core.Bool.{Bool, true, ◌&&◌}
use native.Mathlib.Numerals.{add-one}
use native.Mathlib.Omega.{arith}
use native.Mathlib.Decide.{dec_lt}
use lib.ListN.{length, get_or, take, drop, drop_of_length-le, length-map}
use lib.Seq.{drop-cons, get_or-take, length-take-le, take_all}
use Rattle.basics.proofs.Tests.{and_left, and_right}
use Rattle.std.specs.List.{list_all}
use Rattle.table.specs.Rules.{all}

module _ {A : Type 0} (xs : List A) (n : ℕ) (h : n ≤ length xs) where
  pub entry_next : (d : A) (i : ℕ) → i < n → drop i (take n xs) ≡ get_or xs i d ∷ drop (i + 1) (take n xs)
  entry_next d i k =
      let l : i < length (take n xs) = omega (arith, length-take-le n xs h) in
      rw add-one (drop-cons (take n xs) i d l ∙ ap (λ (x : A). x ∷ drop (suc i) (take n xs)) (get_or-take n xs i d k))

  pub entry_end : (i : ℕ) → n ≤ i → drop i (take n xs) ≡ []
  entry_end i k = drop_of_length-le (take n xs) {i = i} (omega (arith, length-take-le n xs h))

  module _ (f : A → Bool) where
    pub all_next : (d : A) (i : ℕ) → i < n → all f (drop i (take n xs)) ≡ (f (get_or xs i d) && all f (drop (i + 1) (take n xs)))
    unfolding all
    all_next d i k = ap (all f) (entry_next d i k)

    -- what all entries pass, each does
    pub all_at : (d : A) (i : ℕ) → i < n → all f (drop i (take n xs)) ≡ true → (f (get_or xs i d) ≡ true) × (all f (drop (i + 1) (take n xs)) ≡ true)
    all_at d i k e =
        let a = f (get_or xs i d) in
        let b = all f (drop (i + 1) (take n xs)) in
        let w : (a && b) ≡ true = sym (all_next d i k) ∙ e in
        (and_left a b w, and_right a b w)

-- the library's test of all entries
pub all_is : {A : Type 0} (f : A → Bool) (xs : List A) → all f xs ≡ list_all f xs
unfolding all
all_is f [] = refl
all_is f (x ∷ xs) = ap (λ b. f x && b) (all_is f xs)

-- two lists whose entries all pass
pub all_append : {A : Type 0} (f : A → Bool) (l m : List A) → all f l ≡ true → all f m ≡ true → all f (l ++ m) ≡ true
unfolding all
all_append f [] m h k = k
all_append f (a ∷ l) m h k = rw (and_left (f a) (all f l) h) (all_append f l m (and_right (f a) (all f l) h) k)

-- what owning a struct with a field that is an array of structs tells of the field's length
pub length_mapped : {A B : Type 0} (f : A → B) (xs : List A) (n : ℕ) → length (map f xs) ≡ n → length xs ≡ n
length_mapped f xs n e = sym (length-map xs f) ∙ e

-- ---- the entries that are stored are the entries within the count

pub stored_take : {A : Type 0} {n room : ℕ} (count : ℕ) (xs : List A) → n ≡ min count room → length xs ≡ room → take n xs ≡ take count xs
stored_take {n = n} {room = room} count xs s e = go (dec_lt count room)
  where
    go : Dec (count < room) → take n xs ≡ take count xs
    go (yes h) = let k : n ≡ count = omega arith in rw k
    go (no h) = take_all n xs (omega arith) ∙ sym (take_all count xs (omega arith))
