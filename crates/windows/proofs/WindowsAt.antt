-- The window at an index of a plain curve: the ticks that it covers, and the gap behind it. Assumes nothing.
use Prim.Native.Nat.{ℕ, zero, suc, ◌+◌, ◌-◌, ◌≤◌, ◌<◌}
use mathlib.Core.Path.{◌≡◌, refl}
use mathlib.Core.List.{List, [], ◌∷◌}
use mathlib.Core.Bool.{true}
use native.Mathlib.Omega.{arith}
use native.Mathlib.Decide.{dec_lt}
use lib.ListN.{length, get_or}
use Rattle.windows.specs.Windows.{cover, is_plain}
use Rattle.windows.proofs.Ticks.{Apart, inside_yes, inside_early, inside_late, cover_before, plain_apart}

-- where a window starts, the index is even
abbrev pub Even : ℕ → Type 0
Even zero = Unit {0}
Even (suc zero) = ⊥
Even (suc (suc n)) = Even n

pub record WindowAt (lo : ℕ) (l : List ℕ) (i : ℕ) : Type 0 where
  pub pair : i + 1 < length l
  pub low : lo ≤ get_or l i 0
  pub rises : get_or l i 0 < get_or l (i + 1) 0
  pub inner : (t : ℕ) → get_or l i 0 ≤ t → t < get_or l (i + 1) 0 → cover l t ≡ 1
  pub gap : (t : ℕ) → get_or l (i + 1) 0 ≤ t → (i + 2 < length l → t < get_or l (i + 2) 0) → cover l t ≡ 0
  pub next : i + 2 < length l → get_or l (i + 1) 0 < get_or l (i + 2) 0

-- ---- before the first window

pub first_low : (l : List ℕ) (lo : ℕ) → Apart lo l → 0 < length l → lo ≤ get_or l 0 0
first_low [] lo p k = absurd (omega arith)
first_low (s ∷ []) lo p k = absurd p
first_low (s ∷ (e ∷ r)) lo p k = p.0

pub first_gap : (l : List ℕ) (lo t : ℕ) → Apart lo l → (0 < length l → t < get_or l 0 0) → cover l t ≡ 0
unfolding cover
first_gap [] lo t p k = refl
first_gap (s ∷ []) lo t p k = absurd p
first_gap (s ∷ (e ∷ r)) lo t p k =
    let early : t < s = k (omega arith) in
    omega (arith, inside_early s e t early, cover_before r (suc e) t p.2 (omega (arith, p.1)))

-- ---- the first window, and one behind it

window_first : (s e : ℕ) (r : List ℕ) (lo : ℕ) → Apart lo (s ∷ (e ∷ r)) → WindowAt lo (s ∷ (e ∷ r)) 0
unfolding cover
window_first s e r lo p = record {
  pair = omega arith;
  low = p.0;
  rises = p.1;
  inner = λ t h k. omega (arith, inside_yes s e t h k, cover_before r (suc e) t p.2 (omega arith));
  gap = λ t h k. omega (arith, inside_late s e t h, first_gap r (suc e) t p.2 (λ m. k (omega arith)));
  next = λ m. first_low r (suc e) p.2 (omega arith);
}

past_two : (s e : ℕ) (r : List ℕ) (i n : ℕ) → get_or (s ∷ (e ∷ r)) (suc (suc i) + n) 0 ≡ get_or r (i + n) 0
past_two s e r i n = let k : suc (suc i) + n ≡ suc (suc (i + n)) = omega arith in rw k refl

window_more : (s e : ℕ) (r : List ℕ) (lo i : ℕ) → Apart lo (s ∷ (e ∷ r)) → WindowAt (suc e) r i → WindowAt lo (s ∷ (e ∷ r)) (suc (suc i))
unfolding cover
window_more s e r lo i p w =
    let one = past_two s e r i 1 in
    let two = past_two s e r i 2 in
    record {
      pair = omega (arith, w.pair);
      low = omega (arith, w.low, p.0, p.1);
      rises = omega (arith, w.rises, one);
      inner = λ t h k. omega (arith, inside_late s e t (omega (arith, w.low)), w.inner t h (omega (arith, one)));
      gap = λ t h k. omega (arith, inside_late s e t (omega (arith, w.low, w.rises, one)), w.gap t (omega (arith, one)) (λ m. omega (arith, k (omega arith), two)));
      next = λ m. omega (arith, w.next (omega arith), one, two);
    }

pub apart_window : (l : List ℕ) (lo i : ℕ) → Apart lo l → Even i → i < length l → WindowAt lo l i
apart_window [] lo i p ev k = absurd (omega arith)
apart_window (s ∷ []) lo i p ev k = absurd p
apart_window (s ∷ (e ∷ r)) lo zero p ev k = window_first s e r lo p
apart_window (s ∷ (e ∷ r)) lo (suc zero) p ev k = absurd ev
apart_window (s ∷ (e ∷ r)) lo (suc (suc i)) p ev k = window_more s e r lo i p (apart_window r (suc e) i p.2 ev (omega arith))

pub window_at : (l : List ℕ) (i : ℕ) → is_plain l ≡ true → Even i → i < length l → WindowAt 0 l i
window_at l i h ev k = apart_window l 0 i (plain_apart 0 l h) ev k

-- a window ends where the curve is over, or before
pub window_below : (l : List ℕ) (i H : ℕ) → WindowAt 0 l i → ((t : ℕ) → H ≤ t → cover l t ≡ 0) → get_or l (i + 1) 0 ≤ H
window_below l i H w over = go (dec_lt H (get_or l (i + 1) 0))
  where
    go : Dec (H < get_or l (i + 1) 0) → get_or l (i + 1) 0 ≤ H
    go (yes k) = absurd (omega (arith, over (get_or l (i + 1) 0 - 1) (omega arith), w.inner (get_or l (i + 1) 0 - 1) (omega (arith, w.rises)) (omega arith)))
    go (no k) = omega arith
