-- A result counted against the room lent, and written to the front of a lent buffer, a window at a time. Assumes nothing.
use Prim.Native.Nat.{ℕ, suc, ◌+◌, ◌-◌, ◌≤◌, ◌<◌}
use mathlib.Core.Path.{◌≡◌, refl, sym, ap, ap₂, ◌∙◌}
use mathlib.Core.List.{List, [], ◌∷◌, ◌++◌, append_assoc, append-nil}
use mathlib.Core.Bool.{true, false}
use native.Mathlib.Omega.{arith}
use native.Mathlib.Numerals.{add-one, add-two}
use lib.ListN.{length, take, drop, set, length-set, take-append-drop}
use lib.Dec.{leb}
use lib.Seq.{take-suc-set, drop-set-lt, drop-drop}
use borrow.Author.Tests.{le-leb, lt-leb}
use Rattle.refusals.specs.Outcomes.{front}

-- ---- counting: of the room, free is left, and of whole, ahead is to come

pub record Counted (whole ahead : List ℕ) (room free : ℕ) : Type 0 where
  pub sum : free + length whole ≡ room + length ahead

pub counted_none : (whole : List ℕ) (room : ℕ) → Counted whole whole room room
counted_none whole room = record { sum = refl }

pub counted_pair : {whole ahead more : List ℕ} {room free a b : ℕ} → Counted whole ahead room free → ahead ≡ a ∷ (b ∷ more) → 2 ≤ free
    → Counted whole more room (free - 2)
counted_pair w e h = record { sum = omega (arith, w.sum, ap length e) }

pub counted_over : {whole ahead more : List ℕ} {room free a b : ℕ} → Counted whole ahead room free → ahead ≡ a ∷ (b ∷ more) → free < 2
    → leb (length whole) room ≡ false
counted_over {whole} {ahead} {more} {room} w e h = lt-leb (length whole) room (omega (arith, w.sum, ap length e))

pub counted_all : {whole ahead : List ℕ} {room free : ℕ} → Counted whole ahead room free → ahead ≡ [] → leb (length whole) room ≡ true
counted_all {whole} {ahead} {room} w e = le-leb (length whole) room (omega (arith, w.sum, ap length e))

-- ---- writing: n numbers of whole stand at the front of out, ahead is to come, and behind it out is as it was at first

pub record Written (whole ahead first out : List ℕ) (n : ℕ) : Type 0 where
  pub room : length whole ≤ length first
  pub same : length out ≡ length first
  pub sum : n + length ahead ≡ length whole
  pub done : take n out ++ ahead ≡ whole
  pub kept : drop n out ≡ drop n first

pub written_none : (whole first : List ℕ) → length whole ≤ length first → Written whole whole first first 0
written_none whole first h = record { room = h; same = refl; sum = omega arith; done = refl; kept = refl }

-- there is room for the next window
pub written_room : {whole ahead first out more : List ℕ} {n a b : ℕ} → Written whole ahead first out n → ahead ≡ a ∷ (b ∷ more) → n + 1 < length out
written_room w e = omega (arith, w.sum, w.room, w.same, ap length e)

pub written_pair : {whole ahead first out more : List ℕ} {n a b : ℕ} → Written whole ahead first out n → ahead ≡ a ∷ (b ∷ more)
    → Written whole more first (set (set out n a) (n + 1) b) (n + 2)
written_pair {whole} {ahead} {first} {out} {more} {n} {a} {b} w e =
    let r : n + 1 < length out = written_room w e in
    let p : n < length out = omega arith in
    let q : suc n < length (set out n a) = simp length-set (omega arith) in
    record {
      room = w.room;
      same = simp length-set w.same;
      sum = omega (arith, w.sum, ap length e);
      done = simp (add-one, add-two, take-suc-set, append_assoc) (rw e at w.done);
      kept =
          drop-set-lt (n + 2) (set out n a) (n + 1) b (omega arith)
          ∙ drop-set-lt (n + 2) out n a (omega arith)
          ∙ sym (drop-drop 2 n out)
          ∙ ap (λ (l : List ℕ). drop 2 l) w.kept
          ∙ drop-drop 2 n first;
    }

pub written_all : {whole ahead first out : List ℕ} {n : ℕ} → Written whole ahead first out n → ahead ≡ [] → (n ≡ length whole) × (out ≡ front whole first)
written_all {whole} {ahead} {first} {out} {n} w z =
    let e : n ≡ length whole = omega (arith, w.sum, ap length z) in
    (e, sym (take-append-drop n out) ∙ ap₂ ◌++◌ (sym (append-nil (take n out)) ∙ (rw z at w.done)) (w.kept ∙ ap (λ (k : ℕ). drop k first) e))
