-- One number of each of the first entries of a list, written place by place to the front of an array: the places behind them stay. Assumes nothing.
use Prim.Native.Nat.{ℕ, zero, suc, ◌+◌, ◌≤◌, ◌<◌}
use mathlib.Core.Path.{◌≡◌, refl, ap, ◌∙◌}
use mathlib.Core.List.{List, [], ◌∷◌}
use native.Mathlib.Numerals.{add-one}
use native.Mathlib.Omega.{arith}
use lib.ListN.{length, get_or, take, set, length-set}
use lib.Seq.{take_all, length-take-le}
use Rattle.handing.specs.Handing.{in_front}

module _ {A B : Type 0} (f : A → B) where
  -- the numbers of the places below i are written, and no others
  pub record ListedTo (l : List A) (i : ℕ) (old m : List B) : Type 0 where
    pub long : length m ≡ length old
    pub written : m ≡ in_front f i l old

  pub listed_none : (l : List A) (old : List B) → ListedTo l 0 old old
  listed_none l old = record { long = refl; written = refl }

  -- the number of one place more, behind those that are written
  front_next : (l : List A) (i : ℕ) (old : List B) (d : A) → i < length l → i < length old → set (in_front f i l old) i (f (get_or l i d)) ≡ in_front f (suc i) l old
  front_next [] i old d h k = absurd (omega arith)
  front_next (a ∷ l) i [] d h k = absurd (omega arith)
  front_next (a ∷ l) zero (b ∷ old) d h k = refl
  front_next (a ∷ l) (suc i) (b ∷ old) d h k = ap (λ (m : List B). f a ∷ m) (front_next l i old d (omega arith) (omega arith))

  -- one place more
  pub listed_next : (l : List A) (i : ℕ) (old m : List B) (d : A) (b : B) → i < length l → i < length old → b ≡ f (get_or l i d) → ListedTo l i old m
      → ListedTo l (i + 1) old (set m i b)
  listed_next l i old m d b h k p w =
      record { long = length-set m i b ∙ w.long; written = rw (w.written, p, add-one) (front_next l i old d h k) }

  -- the first n are written
  pub listed_all : (l : List A) (i n : ℕ) (old m : List B) → i ≡ n → n ≤ length l → ListedTo (take n l) i old m → m ≡ in_front f n l old
  listed_all l i n old m all h w =
      let whole : take n (take n l) ≡ take n l = take_all n (take n l) (omega (arith, length-take-le n l h)) in
      rw whole at (rw all at w.written)
