-- Rows one behind the other: the numbers of each, and how they are written to the front of an array. Assumes nothing.
use Prim.Native.Nat.{ℕ, zero, suc, ◌+◌, ◌*◌, ◌≤◌, ◌<◌}
use mathlib.Core.Path.{◌≡◌, refl, sym, ap, ◌∙◌}
use mathlib.Core.List.{List, [], ◌∷◌, ◌++◌, append_assoc, append-nil}
use native.Mathlib.Numerals.{add-one}
use native.Mathlib.Nat.{mul-zero, mul-suc, mul-le-mul_left}
use native.Mathlib.Omega.{arith}
use lib.ListN.{length, get_or, take, drop, take-append-drop, length-append, length-drop, get_or-append}
use borrow.Rule.Slice.PartMut.{put_mid}
use Rattle.std.proofs.lemmas.Slice.{take-put_mid, drop-put_mid}
use lib.Seq.{sets, sets-eq, length-sets, take-suc, take-append_seam, drop-append-add, drop-drop, get_or-append-add, length-take-le}
use Rattle.refusals.specs.Outcomes.{front}
use Rattle.entries.specs.Entries.{rows}

-- ---- a run of numbers

-- a copy to a part of a list
pub placed : (row copied old : List ℕ) (at k : ℕ) → at + length row ≤ length old → copied ≡ row → k ≡ length row → put_mid at k old copied ≡ sets old at row
placed row copied old at k h e w =
    let n : ℕ = at + length row in
    let front : take n (put_mid at k old row) ≡ take at old ++ row = take-put_mid at k old row n refl (omega arith) in
    let back : drop n (put_mid at k old row) ≡ drop n old = drop-put_mid at k old row n (omega arith) (omega arith) (sym w) in
    rw (e, ← take-append-drop n (put_mid at k old row), front, back) (sym (sets-eq row old at h))

-- behind what stands at the front
front_more : (x v old : List ℕ) (n : ℕ) → length x ≡ n → n + length v ≤ length old → sets (front x old) n v ≡ front (x ++ v) old
front_more x v old n e h =
    let long : length x + length v ≤ length (front x old) = rw (length-append, length-drop) (omega arith) in
    rw (sym e)
    (sets-eq v (front x old) (length x) long
    ∙ rw (take-append_seam, drop-append-add, drop-drop, length-append, append_assoc))

-- ---- rows

module _ {A : Type 0} (f : A → List ℕ) where
  rows_append : (l m : List A) → rows f (l ++ m) ≡ rows f l ++ rows f m
  unfolding rows
  rows_append [] m = refl
  rows_append (a ∷ l) m = rw (append_assoc, rows_append l m)

  module _ (w : ℕ) (wide : (a : A) → length (f a) ≡ w) where
    rows_length : (l : List A) → length (rows f l) ≡ w * length l
    unfolding rows
    rows_length [] = sym (mul-zero w)
    rows_length (a ∷ l) = rw (length-append, wide a, rows_length l, mul-suc) (omega arith)

    -- a number of an entry's row, whatever stands behind the rows
    pub rows_at : (l : List A) (rest : List ℕ) (d : A) (i k : ℕ) → i < length l → k < w → get_or (rows f l ++ rest) (w * i + k) 0 ≡ get_or (f (get_or l i d)) k 0
    unfolding rows
    rows_at [] rest d i k h q = absurd (omega arith)
    rows_at (a ∷ l) rest d zero k h q =
        let e : w * 0 + k ≡ k = rw mul-zero (omega arith) in
        rw (append_assoc, e) (get_or-append (f a) (rows f l ++ rest) 0 k (omega (arith, wide a)))
    rows_at (a ∷ l) rest d (suc i) k h q =
        let e : w * suc i + k ≡ length (f a) + (w * i + k) = rw (mul-suc, wide a) (omega arith) in
        rw (append_assoc, e, get_or-append-add) (rows_at l rest d i k (omega arith) q)

    -- ---- a walk that writes them

    -- the rows of the entries below i are written, and nothing else
    pub record RowsTo (l : List A) (i : ℕ) (old out : List ℕ) : Type 0 where
      pub long : length out ≡ length old
      pub written : out ≡ front (rows f (take i l)) old

    pub rows_none : (l : List A) (old : List ℕ) → RowsTo l 0 old old
    unfolding rows
    rows_none l old = record { long = refl; written = refl }

    row_next : (l : List A) (i : ℕ) (d : A) → i < length l → rows f (take (suc i) l) ≡ rows f (take i l) ++ f (get_or l i d)
    unfolding rows
    row_next l i d h = rw (take-suc l i d, rows_append, append-nil)

    pub rows_next : (l : List A) (i : ℕ) (old out : List ℕ) (d : A) (row : List ℕ) → i < length l → w * i + w ≤ length old → row ≡ f (get_or l i d)
        → RowsTo l i old out → RowsTo l (i + 1) old (sets out (w * i) row)
    rows_next l i old out d row h fits e t =
        let x = rows f (take i l) in
        let at : length x ≡ w * i = rows_length (take i l) ∙ ap (λ n. w * n) (length-take-le i l (omega arith)) in
        let room : w * i + length row ≤ length old = rw (e, wide (get_or l i d)) fits in
        let more = front_more x row old (w * i) at room in
        let next : front (x ++ row) old ≡ front (rows f (take (i + 1) l)) old = rw (add-one, row_next l i d h, e) in
        record { long = length-sets out (w * i) row ∙ t.long; written = rw t.written (more ∙ next) }

    pub rows_all : (l : List A) (i n : ℕ) (old out : List ℕ) → i ≤ n → n ≤ i → RowsTo l i old out → out ≡ front (rows f (take n l)) old
    rows_all l i n old out h k t = let all : i ≡ n = omega arith in rw all at t.written

-- where all rows have room, each has
pub row_fits : (w i n room : ℕ) → i < n → w * n ≤ room → w * i + w ≤ room
row_fits w i n room h k =
    let e : w * suc i ≡ w * i + w = mul-suc w i in
    let m : w * suc i ≤ w * n = mul-le-mul_left w h in
    omega arith
