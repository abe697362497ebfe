-- Digits one at a time, and the number that they make. Assumes nothing.
use Prim.Native.Nat.{ℕ, ◌+◌, ◌-◌, ◌*◌, ◌≤◌, ◌<◌}
use mathlib.Core.Path.{◌≡◌, refl}
use mathlib.Core.List.{List}
use mathlib.Core.Bool.{true}
use native.Mathlib.Numerals.{add-one}
use lib.ListN.{length, get_or, drop, drop_of_length-le}
use lib.Seq.{drop-cons}
use lib.Dec.{leb}
use borrow.Author.Tests.{leb-true}
use Rattle.std.proofs.lemmas.List.Recursion.{and_at}
use Rattle.basics.proofs.Tests.{and_left, and_right}
use Rattle.table.specs.Rules.{all}
use Rattle.fields.specs.Fields.{is_digit, digits_from}

-- a digit, where all bytes are
pub digit_at : (l : List ℕ) (i : ℕ) → all is_digit l ≡ true → i < length l → (48 ≤ get_or l i 0) × (get_or l i 0 ≤ 57)
unfolding all
digit_at l i e h =
    let d = and_at (all is_digit) is_digit refl (λ _ _. refl) l i 0 h e in
    let b = get_or l i 0 in
    (leb-true 48 b (and_left (leb 48 b) (leb b 57) d), leb-true b 57 (and_right (leb 48 b) (leb b 57) d))

pub digits_turn : (l : List ℕ) (i n : ℕ) → i < length l → digits_from n (drop i l) ≡ digits_from (10 * n + (get_or l i 0 - 48)) (drop (i + 1) l)
unfolding digits_from
digits_turn l i n h = rw (add-one, drop-cons l i 0 h)

pub digits_end : (l : List ℕ) (i n : ℕ) → length l ≤ i → digits_from n (drop i l) ≡ n
unfolding digits_from
digits_end l i n h = rw (drop_of_length-le l h)
