-- A text that ends with a line feed: its lines are the pieces of what stands before that line feed. Assumes nothing.
use Prim.Native.Nat.{ℕ, ◌+◌, ◌-◌, ◌≤◌, ◌<◌}
use mathlib.Core.Path.{◌≡◌, refl, sym, ap, ◌∙◌}
use mathlib.Core.List.{List, [], ◌∷◌, ◌++◌}
use mathlib.Core.Bool.{Bool, true, false}
use native.Mathlib.Omega.{arith}
use lib.ListN.{length, length-append}
use lib.Seq.{get_or-append_seam}
use lib.Dec.{eqb}
use borrow.Author.Tests.{lt-ltb}
use Rattle.basics.specs.Choice.{pick}
use Rattle.fields.specs.Fields.{in_first, split, all_but_last, lines_of}
use Rattle.fields.proofs.Splits.{pieces_some}
use Rattle.reading.specs.Reading.{no_table, read_lines, ends_with_feed, reading_of}
use Rattle.reading.proofs.Accepted.{by_lines}

split_feed : (l : List ℕ) → split 10 (l ++ 10 ∷ []) ≡ split 10 l ++ [] ∷ []
unfolding split
split_feed [] = refl
split_feed (b ∷ r) = go (eqb b 10) (split 10 r) (pieces_some 10 r) (split_feed r)
  where
    go : (x : Bool) (fs : List (List ℕ)) → 0 < length fs → split 10 (r ++ 10 ∷ []) ≡ fs ++ [] ∷ []
        → pick x ([] ∷ split 10 (r ++ 10 ∷ [])) (in_first b (split 10 (r ++ 10 ∷ []))) ≡ pick x ([] ∷ fs) (in_first b fs) ++ [] ∷ []
    go true fs h e = rw e
    go false [] h e = absurd (omega arith)
    go false (f ∷ fs) h e = rw e

but_last : (fs : List (List ℕ)) (f : List ℕ) → all_but_last (fs ++ f ∷ []) ≡ fs
unfolding all_but_last
but_last [] f = refl
but_last (g ∷ []) f = refl
but_last (g ∷ (h ∷ fs)) f = ap (λ l. g ∷ l) (but_last (h ∷ fs) f)

pub feed_lines : (l : List ℕ) → lines_of (l ++ 10 ∷ []) ≡ split 10 l
feed_lines l = ap all_but_last (split_feed l) ∙ but_last (split 10 l) []

pub feed_last : (l : List ℕ) → ends_with_feed (l ++ 10 ∷ []) ≡ true
feed_last l =
    let e : length (l ++ 10 ∷ []) ≡ length l + 1 = length-append l (10 ∷ []) in
    let m : length l + 1 - 1 ≡ length l = omega arith in
    rw (e, m, get_or-append_seam l 10 [] 0, lt-ltb 0 (length l + 1) (omega arith))

-- so the text is read as those pieces, one after the other
pub feed_read : (text l : List ℕ) {b : ℕ} → text ≡ l ++ b ∷ [] → b ≡ 10 → length text ≤ 4096 → read_lines (split 10 l) no_table 1 ≡ reading_of text
feed_read text l p q h =
    let e : text ≡ l ++ 10 ∷ [] = p ∙ ap (λ x. l ++ x ∷ []) q in
    sym (by_lines text h (ap ends_with_feed e ∙ feed_last l) ∙ ap (λ ls. read_lines ls no_table 1) (ap lines_of e ∙ feed_lines l))
