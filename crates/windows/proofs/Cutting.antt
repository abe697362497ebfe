-- Cutting at the multiples of a period: piece by piece, that the ticks stay, and that no piece has a multiple inside. Assumes nothing.
use Prim.Native.Nat.{ℕ, zero, suc, ◌+◌, ◌-◌, ◌%◌, ◌≤◌, ◌<◌, max}
use mathlib.Core.Path.{◌≡◌, refl, sym, ap, ◌∙◌}
use mathlib.Core.List.{List, [], ◌∷◌}
use mathlib.Core.Bool.{Bool, true, false}
use native.Mathlib.Omega.{arith}
use native.Mathlib.Nat.{mod-lt, mod-eq_of_lt, mod_self, suc-mod, add-suc}
use native.Mathlib.Decide.{ℕ_discrete}
use lib.Dec.{eqb}
use borrow.Author.Tests.{eqb-false, eq-eqb, ne_eqb}
use Rattle.basics.specs.Choice.{pick}
use Rattle.windows.specs.Windows.{inside, cover, end_of, parted, cut_at}
use Rattle.windows.specs.Walks.{cut_from}
use Rattle.windows.proofs.Ticks.{Apart, inside_split, end_above, end_rest}

-- ---- from a on the next multiple of T is at a + (T - a % T)

mod_add : (T a i : ℕ) → a % T + i < T → (a + i) % T ≡ a % T + i
mod_add T a zero h = let e : a + 0 ≡ a = omega arith in rw e (omega arith)
mod_add T a (suc i) h =
    ap (λ n. n % T) (add-suc a i) ∙ suc-mod (a + i) T ∙ ap (λ n. suc n % T) (mod_add T a i (omega arith)) ∙ mod-eq_of_lt (omega arith) ∙ omega arith

-- none lies before it
pub before_multiple : (T a m : ℕ) → a < m → m < a + (T - a % T) → ¬ (m % T ≡ 0)
before_multiple T a m h k z =
    let e : a + (m - a) ≡ m = omega arith in
    let f : m % T ≡ a % T + (m - a) = ap (λ n. n % T) (sym e) ∙ mod_add T a (m - a) (omega arith) in
    omega arith

pub next_multiple : (T a : ℕ) → 0 < T → (a + (T - a % T)) % T ≡ 0
next_multiple T a p =
    let l = mod-lt a p in
    let e : a + (T - a % T) ≡ suc (a + (T - suc (a % T))) = omega arith in
    let f : suc (a % T + (T - suc (a % T))) ≡ T = omega arith in
    ap (λ n. n % T) e ∙ suc-mod (a + (T - suc (a % T))) T ∙ ap (λ n. suc n % T) (mod_add T a (T - suc (a % T)) (omega arith)) ∙ rw f (mod_self T)

-- ---- a window piece by piece

-- instants that are no multiples are passed over
parted_skip : (T a m k j : ℕ) (rest : List ℕ) → j ≤ k → ((u : ℕ) → m ≤ u → u < m + j → ¬ (u % T ≡ 0)) → parted T a m k rest ≡ parted T a (m + j) (k - j) rest
unfolding parted
parted_skip T a m k zero rest h q =
    let e : m + 0 ≡ m = omega arith in
    let f : k - 0 ≡ k = omega arith in
    rw (e, f)
parted_skip T a m zero (suc j) rest h q = absurd (omega arith)
parted_skip T a m (suc k) (suc j) rest h q =
    let e : m + suc j ≡ suc m + j = omega arith in
    let f : suc k - suc j ≡ k - j = omega arith in
    rw (ne_eqb (m % T) 0 (q m (omega arith) (omega arith)), e, f) (parted_skip T a (suc m) k j rest (omega arith) (λ u h₁ h₂. q u (omega arith) (omega arith)))

module _ (T a e : ℕ) (rest : List ℕ) (p : 0 < T) (h : a < e) where
  -- the next multiple lies strictly inside
  pub parted_inside : T - a % T < e - a
      → parted T a (suc a) (e - suc a) rest ≡ a ∷ ((a + (T - a % T)) ∷ parted T (a + (T - a % T)) (suc (a + (T - a % T))) (e - suc (a + (T - a % T))) rest)
  unfolding parted
  parted_inside k =
      let g = T - a % T in
      let l = mod-lt a p in
      let x : suc a + (g - 1) ≡ a + g = omega arith in
      let y : (e - suc a) - (g - 1) ≡ suc (e - suc (a + g)) = omega arith in
      parted_skip T a (suc a) (e - suc a) (g - 1) rest (omega arith) (λ u i j. before_multiple T a u i (omega arith))
      ∙ rw (x, y, eq-eqb ((a + g) % T) 0 (next_multiple T a p))

  -- none does
  pub parted_over : e - a ≤ T - a % T → parted T a (suc a) (e - suc a) rest ≡ a ∷ (e ∷ rest)
  unfolding parted
  parted_over k =
      let x : suc a + (e - suc a) ≡ e = omega arith in
      let y : (e - suc a) - (e - suc a) ≡ 0 = omega arith in
      parted_skip T a (suc a) (e - suc a) (e - suc a) rest (omega arith) (λ u i j. before_multiple T a u i (omega arith)) ∙ rw (x, y)

-- ---- the code's walk

-- at the start of a window it has the whole cut before it
pub cut_start : (T : ℕ) (l : List ℕ) → cut_from T 0 l ≡ cut_at T l
unfolding cut_from cut_at
cut_start T [] = refl
cut_start T (s ∷ []) = refl
cut_start T (s ∷ (e ∷ r)) = let z : max s 0 ≡ s = omega arith in rw z

module _ (T from s e : ℕ) (r : List ℕ) (p : 0 < T) (below : max s from < e) where
  pub cut_inside : T - max s from % T < e - max s from
      → cut_from T from (s ∷ (e ∷ r))
      ≡ max s from ∷ ((max s from + (T - max s from % T)) ∷ cut_from T (max s from + (T - max s from % T)) (s ∷ (e ∷ r)))
  unfolding cut_from
  cut_inside k =
      let a = max s from in
      let z : max s (a + (T - a % T)) ≡ a + (T - a % T) = omega arith in
      rw z (parted_inside T a e (cut_at T r) p below k)

  pub cut_over : e - max s from ≤ T - max s from % T → cut_from T from (s ∷ (e ∷ r)) ≡ max s from ∷ (e ∷ cut_from T 0 r)
  unfolding cut_from
  cut_over k = rw (cut_start T r) (parted_over T (max s from) e (cut_at T r) p below k)

-- ---- nothing else changes: a cut curve covers the ticks of the curve, and no window of it has a multiple strictly inside

parted_cover : (T a m k : ℕ) (rest : List ℕ) (t : ℕ) → a ≤ m → cover (parted T a m k rest) t ≡ inside a (m + k) t + cover rest t
unfolding parted cover
parted_cover T a m zero rest t h = let e : m + 0 ≡ m = omega arith in rw e
parted_cover T a m (suc k) rest t h = go (eqb (m % T) 0) (parted_cover T m (suc m) k rest t (omega arith)) (parted_cover T a (suc m) k rest t (omega arith))
  where
    e : suc m + k ≡ m + suc k
    e = omega arith

    go : (b : Bool) → cover (parted T m (suc m) k rest) t ≡ inside m (suc m + k) t + cover rest t
        → cover (parted T a (suc m) k rest) t ≡ inside a (suc m + k) t + cover rest t
        → cover (pick b (a ∷ (m ∷ parted T m (suc m) k rest)) (parted T a (suc m) k rest)) t ≡ inside a (m + suc k) t + cover rest t
    go true i j =
        let w : inside a (m + suc k) t ≡ inside a m t + inside m (m + suc k) t = ap (λ (f : ℕ → ℕ). f t) (inside_split a m (m + suc k) h (omega arith)) in
        let v = rw e at i in
        omega arith
    go false i j = rw e at j

pub cut_cover : (T lo : ℕ) (l : List ℕ) → Apart lo l → (t : ℕ) → cover (cut_at T l) t ≡ cover l t
unfolding cut_at cover
cut_cover T lo [] p t = refl
cut_cover T lo (s ∷ []) p t = refl
cut_cover T lo (s ∷ (e ∷ r)) p t =
    let x : suc s + (e - suc s) ≡ e = omega arith in
    parted_cover T s (suc s) (e - suc s) (cut_at T r) t (omega arith) ∙ rw x (ap (λ n. inside s e t + n) (cut_cover T (suc e) r p.2 t))

-- no window of l has a multiple of T strictly inside
abbrev pub Uncut : ℕ → List ℕ → Type 0
Uncut T [] = Unit {0}
Uncut T (s ∷ []) = Unit {0}
Uncut T (s ∷ (e ∷ r)) = ((m : ℕ) → s < m → m < e → ¬ (m % T ≡ 0)) × Uncut T r

parted_uncut : (T a m k : ℕ) (rest : List ℕ) → ((u : ℕ) → a < u → u < m → ¬ (u % T ≡ 0)) → Uncut T rest → Uncut T (parted T a m k rest)
unfolding parted
parted_uncut T a m zero rest q o = (q, o)
parted_uncut T a m (suc k) rest q o = go (eqb (m % T) 0) refl (parted_uncut T m (suc m) k rest) (parted_uncut T a (suc m) k rest)
  where
    go : (b : Bool) → eqb (m % T) 0 ≡ b → (((u : ℕ) → m < u → u < suc m → ¬ (u % T ≡ 0)) → Uncut T rest → Uncut T (parted T m (suc m) k rest))
        → (((u : ℕ) → a < u → u < suc m → ¬ (u % T ≡ 0)) → Uncut T rest → Uncut T (parted T a (suc m) k rest))
        → Uncut T (pick b (a ∷ (m ∷ parted T m (suc m) k rest)) (parted T a (suc m) k rest))
    go true e i j = (q, i (λ u h₁ h₂. absurd (omega arith)) o)
    go false e i j = j (λ u h₁ h₂. at_last u h₁ h₂ (ℕ_discrete u m)) o
      where
        at_last : (u : ℕ) → a < u → u < suc m → Dec (u ≡ m) → ¬ (u % T ≡ 0)
        at_last u h₁ h₂ (yes z) = rw z (eqb-false (m % T) 0 e)
        at_last u h₁ h₂ (no z) = q u h₁ (omega arith)

pub cut_uncut : (T : ℕ) (l : List ℕ) → Uncut T (cut_at T l)
unfolding cut_at
cut_uncut T [] = tt
cut_uncut T (s ∷ []) = tt
cut_uncut T (s ∷ (e ∷ r)) = parted_uncut T s (suc s) (e - suc s) (cut_at T r) (λ u h₁ h₂. absurd (omega arith)) (cut_uncut T r)

-- ---- a cut curve ends where the curve does, or before

end_pair : (a b hi : ℕ) (r : List ℕ) → b ≤ hi → end_of r ≤ hi → end_of (a ∷ (b ∷ r)) ≤ hi
unfolding end_of
end_pair a b hi [] h k = h
end_pair a b hi (x ∷ r) h k = k

parted_end : (T a m k hi : ℕ) (rest : List ℕ) → m + k ≤ hi → end_of rest ≤ hi → end_of (parted T a m k rest) ≤ hi
unfolding parted
parted_end T a m zero hi rest h l = end_pair a m hi rest (omega arith) l
parted_end T a m (suc k) hi rest h l = go (eqb (m % T) 0) (parted_end T m (suc m) k hi rest (omega arith) l) (parted_end T a (suc m) k hi rest (omega arith) l)
  where
    go : (b : Bool) → end_of (parted T m (suc m) k rest) ≤ hi → end_of (parted T a (suc m) k rest) ≤ hi
        → end_of (pick b (a ∷ (m ∷ parted T m (suc m) k rest)) (parted T a (suc m) k rest)) ≤ hi
    go true i j = end_pair a m hi (parted T m (suc m) k rest) (omega arith) i
    go false i j = j

pub cut_end : (T lo hi : ℕ) (l : List ℕ) → Apart lo l → end_of l ≤ hi → end_of (cut_at T l) ≤ hi
unfolding cut_at
cut_end T lo hi [] p h = h
cut_end T lo hi (s ∷ []) p h = absurd p
cut_end T lo hi (s ∷ (e ∷ r)) p h =
    parted_end T s (suc s) (e - suc s) hi (cut_at T r) (omega (arith, end_above lo s e r p)) (cut_end T (suc e) hi r p.2 (omega (arith, end_rest lo s e r p)))
