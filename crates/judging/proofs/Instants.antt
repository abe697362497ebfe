-- A walk along a plain curve: what the windows that are passed give, and how many ticks of the curve lie below an instant. Assumes nothing.
use Prim.Native.Nat.{ℕ, zero, suc, ◌+◌, ◌-◌, ◌*◌, ◌≤◌, ◌<◌}
use mathlib.Core.Path.{◌≡◌, refl, sym, ap}
use mathlib.Core.List.{List, [], ◌∷◌}
use mathlib.Core.Bool.{true}
use native.Mathlib.Omega.{arith}
use native.Mathlib.Numerals.{add-one}
use lib.ListN.{length, take, drop, get_or, drop_of_length-le}
use lib.Seq.{drop-cons}
use Rattle.windows.specs.Windows.{size, cover, upto, is_plain}
use Rattle.windows.proofs.Ticks.{Apart, plain_apart}
use Rattle.windows.proofs.Counts.{count_cover, count_early}
use Rattle.judging.specs.declared.passing.Passed.{Passed}
use Rattle.judging.specs.Passes.{Passes, EndsBy, EndsAfter}
use Rattle.windows.proofs.WindowsAt.{Even, apart_window}
use Rattle.judging.proofs.PassedWindows.{even_twice}

-- ---- what the windows give that are passed

-- the windows before one give no more ticks than there are before it
size_before : (l : List ℕ) (lo i : ℕ) → Apart lo l → Even i → i < length l → lo + size (take i l) ≤ get_or l i 0
unfolding size
size_before [] lo i p ev k = absurd (omega arith)
size_before (s ∷ []) lo i p ev k = absurd p
size_before (s ∷ (e ∷ r)) lo zero p ev k = omega (arith, p.0)
size_before (s ∷ (e ∷ r)) lo (suc zero) p ev k = absurd ev
size_before (s ∷ (e ∷ r)) lo (suc (suc i)) p ev k = omega (arith, p.0, p.1, size_before r (suc e) i p.2 ev (omega arith))

pub given_before : {l : List ℕ} {p : Passed} → is_plain l ≡ true → Passes l p → 2 * p.windows < length l → p.given ≤ get_or l (2 * p.windows) 0
given_before {l} {p} plain passes h =
    omega (arith, passes.given, size_before l 0 (2 * p.windows) (plain_apart 0 l plain) (even_twice p.windows) h)

-- ---- those that end at an instant or before

pub ends_more : (l : List ℕ) (w t : ℕ) → get_or l (2 * w + 1) 0 ≤ t → EndsBy l (w + 1) t
ends_more l w t h _ = let last : 2 * (w + 1) - 1 ≡ 2 * w + 1 = omega arith in rw last h

-- ---- the ticks below an instant

-- the windows before index i end at t or before, and the one there, if there is one, after it
record Between (l : List ℕ) (i t : ℕ) : Type 0 where
  before : (k : ℕ) → i ≡ suc k → get_or l k 0 ≤ t
  after : i < length l → t < get_or l (suc i) 0

-- then the first one ends at t or before, if index i is behind it
first_ends : (lo s e : ℕ) (r : List ℕ) (i t : ℕ) → Apart lo (s ∷ (e ∷ r)) → Even i → i ≤ length r → Between (s ∷ (e ∷ r)) (suc (suc i)) t → e ≤ t
first_ends lo s e r zero t p ev k b = b.before 1 refl
first_ends lo s e r (suc zero) t p ev k b = absurd ev
first_ends lo s e r (suc (suc j)) t p ev k b =
    let last = apart_window r (suc e) j p.2 ev (omega arith) in
    omega (arith, b.before (suc (suc (suc j))) refl, last.low, rw (add-one j) at last.rises)

-- how many ticks there are from the start of a curve's first window to t, and 0 if it has none
abbrev since : List ℕ → ℕ → ℕ
since [] t = 0
since (s ∷ r) t = t - s

-- below t lie the ticks of the windows before index i, and those from the start of the one there on
count_between : (l : List ℕ) (lo i t : ℕ) → Apart lo l → Even i → i ≤ length l → Between l i t → upto (cover l) t ≡ size (take i l) + since (drop i l) t
unfolding size
count_between [] lo zero t p ev k b = omega (arith, count_early [] t t tt (omega arith))
count_between [] lo (suc i) t p ev k b = absurd (omega arith)
count_between (s ∷ []) lo i t p ev k b = absurd p
count_between (s ∷ (e ∷ r)) lo zero t p ev k b =
    let early : t < e = b.after (omega arith) in
    omega (arith, count_cover s e r t p.1, count_early r (suc e) t p.2 (omega arith))
count_between (s ∷ (e ∷ r)) lo (suc zero) t p ev k b = absurd ev
count_between (s ∷ (e ∷ r)) lo (suc (suc i)) t p ev k b =
    let rest : Between r i t = record { before = λ n q. b.before (suc (suc n)) (omega arith); after = λ q. b.after (omega arith) } in
    let ends = first_ends lo s e r i t p ev (omega arith) b in
    omega (arith, p.1, ends, count_cover s e r t p.1, count_between r (suc e) i t p.2 ev (omega arith) rest)

-- those that end at t or before are passed, and no other
module _ {l : List ℕ} {p : Passed} {t : ℕ} (plain : is_plain l ≡ true) (passes : Passes l p)
    (by : EndsBy l p.windows t) (after : EndsAfter l p.windows t) where
  between : Between l (2 * p.windows) t
  between = record {
    before = λ k e. let last : 2 * p.windows - 1 ≡ k = omega arith in rw last at (by (omega arith));
    after = λ h. rw (add-one (2 * p.windows)) at (after h);
  }

  counted : p.given + since (drop (2 * p.windows) l) t ≡ upto (cover l) t
  counted =
      rw passes.given
      (sym (count_between l 0 (2 * p.windows) t (plain_apart 0 l plain) (even_twice p.windows) passes.count between))

  -- no window is left
  pub counted_all : length l ≤ 2 * p.windows → p.given ≡ upto (cover l) t
  counted_all h = omega (arith, counted, ap (λ (r : List ℕ). since r t) (drop_of_length-le l {i = 2 * p.windows} h))

  -- one is left, which ends after t
  pub counted_part : 2 * p.windows < length l → p.given + (t - get_or l (2 * p.windows) 0) ≡ upto (cover l) t
  counted_part h = omega (arith, counted, ap (λ (r : List ℕ). since r t) (drop-cons l (2 * p.windows) 0 h))
