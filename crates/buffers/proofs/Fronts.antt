-- A window put behind a curve that stands apart, and how many windows such a curve has. Assumes nothing.
use Prim.Native.Nat.{ℕ, suc, ◌+◌, ◌-◌, ◌≤◌, ◌<◌}
use mathlib.Core.Path.{◌≡◌, refl, ap}
use mathlib.Core.List.{List, [], ◌∷◌, ◌++◌}
use native.Mathlib.Omega.{arith}
use lib.ListN.{length}
use Rattle.windows.specs.Windows.{inside, cover, end_of}
use Rattle.windows.proofs.Ticks.{inside_split, Apart, end_above, end_rest, end_below, plain_apart}
use Rattle.buffers.specs.Parts.{PlainBelow}

-- ---- how many windows

-- the windows of a curve
unfoldable pub windows_in : List ℕ → ℕ
windows_in [] = 0
windows_in (s ∷ []) = 0
windows_in (s ∷ (e ∷ r)) = suc (windows_in r)

-- a window is two numbers
pub apart_windows : (l : List ℕ) (lo : ℕ) → Apart lo l → length l ≡ windows_in l + windows_in l
unfolding windows_in
apart_windows [] lo p = refl
apart_windows (s ∷ []) lo p = absurd p
apart_windows (s ∷ (e ∷ r)) lo p = omega (arith, apart_windows r (suc e) p.2)

-- a number for each instant up to the end, at most
pub apart_length : (l : List ℕ) (lo : ℕ) → Apart lo l → length l ≤ suc (end_of l) - lo
unfolding end_of
apart_length [] lo p = omega arith
apart_length (s ∷ []) lo p = absurd p
apart_length (s ∷ (e ∷ r)) lo p = omega (arith, apart_length r (suc e) p.2, p.0, p.1, end_above lo s e r p, end_rest lo s e r p)

-- a plain curve inside H ticks
pub count_below : (H : ℕ) (l : List ℕ) → PlainBelow H l → windows_in l + windows_in l ≤ H + 1
count_below H l p =
    let a : Apart 0 l = plain_apart 0 l p.plain in
    omega (arith, apart_windows l 0 a, apart_length l 0 a, end_below l 0 H a p.over)

-- a plain curve inside 16,000 ticks has at most 8,000 windows
pub plain_count : (l : List ℕ) → PlainBelow 16000 l → windows_in l ≤ 8000
plain_count l p = omega (arith, count_below 16000 l p)

-- and so fits a buffer of 16,000 numbers
pub plain_room : (l : List ℕ) → PlainBelow 16000 l → length l ≤ 16000
plain_room l p = omega (arith, plain_count l p, apart_windows l 0 (plain_apart 0 l p.plain))

-- ---- a window behind

-- it stands apart if it starts after the end
pub behind_apart : (l : List ℕ) (lo s e : ℕ) → Apart lo l → lo ≤ s → (0 < length l → end_of l < s) → s < e → Apart lo (l ++ (s ∷ (e ∷ [])))
behind_apart [] lo s e p h k q = (h, q, tt)
behind_apart (a ∷ []) lo s e p h k q = absurd p
behind_apart (a ∷ (b ∷ r)) lo s e p h k q =
    let z : end_of (a ∷ (b ∷ r)) < s = k (omega arith) in
    (p.0, p.1, behind_apart r (suc b) s e p.2 (omega (arith, end_above lo a b r p)) (λ _. omega (arith, end_rest lo a b r p)) q)

-- it adds its ticks
pub behind_cover : (l : List ℕ) (lo s e : ℕ) → Apart lo l → (t : ℕ) → cover (l ++ (s ∷ (e ∷ []))) t ≡ cover l t + inside s e t
unfolding cover
behind_cover [] lo s e p t = omega arith
behind_cover (a ∷ []) lo s e p t = absurd p
behind_cover (a ∷ (b ∷ r)) lo s e p t = omega (arith, behind_cover r (suc b) s e p.2 t)

-- ---- a last window that ends later

-- the last number is the end
pub last_end : (l : List ℕ) (e : ℕ) → end_of (l ++ (e ∷ [])) ≡ e
unfolding end_of
last_end [] e = refl
last_end (a ∷ []) e = refl
last_end (a ∷ (b ∷ r)) e = last_end (b ∷ r) e

-- the windows still stand apart
pub longer_apart : (l : List ℕ) (lo s e : ℕ) → s ≤ e → Apart lo (l ++ (s ∷ [])) → Apart lo (l ++ (e ∷ []))
longer_apart [] lo s e h p = p
longer_apart (a ∷ []) lo s e h p = (p.0, omega (arith, p.1), tt)
longer_apart (a ∷ (b ∷ r)) lo s e h p = (p.0, p.1, longer_apart r (suc b) s e h p.2)

-- the ticks from the old end on are new
pub longer_cover : (l : List ℕ) (lo s e : ℕ) → s ≤ e → Apart lo (l ++ (s ∷ [])) → (t : ℕ)
    → cover (l ++ (e ∷ [])) t ≡ cover (l ++ (s ∷ [])) t + inside s e t
unfolding cover
longer_cover [] lo s e h p t = absurd p
longer_cover (a ∷ []) lo s e h p t = omega (arith, ap (λ (f : ℕ → ℕ). f t) (inside_split a s e (omega (arith, p.1)) h))
longer_cover (a ∷ (b ∷ r)) lo s e h p t = omega (arith, longer_cover r (suc b) s e h p.2 t)
