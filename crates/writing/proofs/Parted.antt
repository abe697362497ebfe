-- What is joined with tabs and ended by line feeds is parted again into what was joined, where no word or number has such a byte. Assumes nothing.
use Prim.Native.Nat.{ℕ, ◌≤◌, ◌<◌}
use mathlib.Core.Path.{◌≡◌, refl, ap, ◌∙◌}
use mathlib.Core.List.{List, [], ◌∷◌, ◌++◌}
use mathlib.Core.Bool.{Bool, true, false, false≢true}
use native.Mathlib.Omega.{arith}
use lib.Dec.{ltb, leb, eqb}
use borrow.Author.Tests.{leb-true, ltb-true, lt-ltb, eq-eqb, ne_eqb}
use Rattle.basics.specs.Choice.{pick}
use Rattle.basics.proofs.Tests.{and_left, and_right}
use Rattle.table.specs.Rules.{all}
use Rattle.fields.specs.Fields.{in_first, split, all_but_last, lines_of, fields_of, is_digit}
use Rattle.putting.specs.Decimal.{decimal}
use Rattle.writing.specs.Text.{joined, ended}
use Rattle.putting.proofs.Decimals.{decimal_digits}

-- ---- pieces without a separator

unfoldable pub without : ℕ → List ℕ → Bool
without sep [] = true
without sep (b ∷ r) = pick (eqb b sep) false (without sep r)

-- neither a tab nor a line feed: all bytes above both
abbrev pub clear : List ℕ → Bool
clear f = all (ltb 10) f

without_here : (sep b : ℕ) (r : List ℕ) → eqb b sep ≡ false → without sep r ≡ true → without sep (b ∷ r) ≡ true
unfolding without
without_here sep b r h k = rw h k

without_append : (sep : ℕ) (f r : List ℕ) → without sep f ≡ true → without sep r ≡ true → without sep (f ++ r) ≡ true
unfolding without
without_append sep [] r h k = k
without_append sep (b ∷ f) r h k = go (eqb b sep) h (λ e. without_append sep f r e k)
  where
    go : (x : Bool) → pick x false (without sep f) ≡ true → (without sep f ≡ true → without sep (f ++ r) ≡ true) → pick x false (without sep (f ++ r)) ≡ true
    go true h ih = h
    go false h ih = ih h

pub clear_without : (sep : ℕ) (f : List ℕ) → sep ≤ 10 → clear f ≡ true → without sep f ≡ true
unfolding all without
clear_without sep [] h k = refl
clear_without sep (b ∷ f) h k =
    let low : 10 < b = ltb-true 10 b (and_left (ltb 10 b) (clear f) k) in
    rw (ne_eqb b sep (λ e. omega (arith, e, low, h))) (clear_without sep f h (and_right (ltb 10 b) (clear f) k))

-- digits are such bytes
digits_clear : (f : List ℕ) → all is_digit f ≡ true → clear f ≡ true
unfolding all
digits_clear [] h = refl
digits_clear (b ∷ f) h =
    let d : is_digit b ≡ true = and_left (is_digit b) (all is_digit f) h in
    let low : 48 ≤ b = leb-true 48 b (and_left (leb 48 b) (leb b 57) d) in
    rw (lt-ltb 10 b (omega (arith, low))) (digits_clear f (and_right (is_digit b) (all is_digit f) h))

pub decimal_clear : (n : ℕ) → clear (decimal n) ≡ true
decimal_clear n = digits_clear (decimal n) (decimal_digits n)

-- ---- one piece in front of a separator, and one alone

split_ends : (sep : ℕ) (f r : List ℕ) → without sep f ≡ true → split sep (f ++ (sep ∷ r)) ≡ f ∷ split sep r
unfolding split without
split_ends sep [] r h = rw (eq-eqb sep sep refl)
split_ends sep (b ∷ f) r h = go (eqb b sep) h (split_ends sep f r)
  where
    m : List (List ℕ)
    m = split sep (f ++ (sep ∷ r))

    go : (x : Bool) → pick x false (without sep f) ≡ true → (without sep f ≡ true → m ≡ f ∷ split sep r) → pick x ([] ∷ m) (in_first b m) ≡ (b ∷ f) ∷ split sep r
    go true h ih = absurd (false≢true h)
    go false h ih = ap (in_first b) (ih h)

split_alone : (sep : ℕ) (f : List ℕ) → without sep f ≡ true → split sep f ≡ f ∷ []
unfolding split without
split_alone sep [] h = refl
split_alone sep (b ∷ f) h = go (eqb b sep) h (split_alone sep f)
  where
    go : (x : Bool) → pick x false (without sep f) ≡ true → (without sep f ≡ true → split sep f ≡ f ∷ []) → pick x ([] ∷ split sep f) (in_first b (split sep f)) ≡ (b ∷ f) ∷ []
    go true h ih = absurd (false≢true h)
    go false h ih = ap (in_first b) (ih h)

-- ---- the fields of a written line are those that were written

pub fields_back : (f : List ℕ) (fs : List (List ℕ)) → all clear (f ∷ fs) ≡ true → fields_of (joined (f ∷ fs)) ≡ f ∷ fs
unfolding all joined
fields_back f [] h = split_alone 9 f (clear_without 9 f (omega arith) (and_left (clear f) true h))
fields_back f (g ∷ fs) h =
    split_ends 9 f (joined (g ∷ fs)) (clear_without 9 f (omega arith) (and_left (clear f) (all clear (g ∷ fs)) h))
    ∙ ap (λ (l : List (List ℕ)). f ∷ l) (fields_back g fs (and_right (clear f) (all clear (g ∷ fs)) h))

-- and it has no line feed
pub line_without : (fs : List (List ℕ)) → all clear fs ≡ true → without 10 (joined fs) ≡ true
unfolding all joined without
line_without [] h = refl
line_without (f ∷ []) h = clear_without 10 f (omega arith) (and_left (clear f) true h)
line_without (f ∷ (g ∷ fs)) h =
    without_append 10 f (9 ∷ joined (g ∷ fs)) (clear_without 10 f (omega arith) (and_left (clear f) (all clear (g ∷ fs)) h))
    (without_here 10 9 (joined (g ∷ fs)) refl (line_without (g ∷ fs) (and_right (clear f) (all clear (g ∷ fs)) h)))

-- ---- the lines of a written text are those that were written

ended_split : (ls : List (List ℕ)) → all (without 10) ls ≡ true → split 10 (ended ls) ≡ ls ++ ([] ∷ [])
unfolding all ended split
ended_split [] h = refl
ended_split (l ∷ ls) h =
    split_ends 10 l (ended ls) (and_left (without 10 l) (all (without 10) ls) h)
    ∙ ap (λ (m : List (List ℕ)). l ∷ m) (ended_split ls (and_right (without 10 l) (all (without 10) ls) h))

but_last : (ls : List (List ℕ)) (l : List ℕ) → all_but_last (ls ++ (l ∷ [])) ≡ ls
unfolding all_but_last
but_last [] l = refl
but_last (f ∷ []) l = refl
but_last (f ∷ (g ∷ fs)) l = ap (λ (m : List (List ℕ)). f ∷ m) (but_last (g ∷ fs) l)

pub lines_back : (ls : List (List ℕ)) → all (without 10) ls ≡ true → lines_of (ended ls) ≡ ls
lines_back ls h = ap all_but_last (ended_split ls h) ∙ but_last ls []
