-- How many units the ticks below an instant have. Assumes nothing.
use Prim.Native.Nat.{ℕ, zero, suc, ◌+◌, ◌-◌, ◌≤◌, ◌<◌, min}
use mathlib.Core.Path.{◌≡◌, refl}
use mathlib.Core.List.{List, [], ◌∷◌}
use native.Mathlib.Omega.{arith}
use native.Mathlib.Decide.{dec_le, dec_lt}
use Rattle.windows.specs.Windows.{inside, cover, size, end_of, upto, ◌⊕◌}
use Rattle.windows.proofs.Ticks.{inside_yes, inside_early, inside_late, Apart, cover_before, end_above, end_rest}

pub upto-⊕ : (f g : ℕ → ℕ) (t : ℕ) → upto (f ⊕ g) t ≡ upto f t + upto g t
unfolding upto
upto-⊕ f g zero = omega arith
upto-⊕ f g (suc t) = omega (arith, upto-⊕ f g t)

pub upto_rises : (f : ℕ → ℕ) (t n : ℕ) → t ≤ n → upto f t ≤ upto f n
unfolding upto
upto_rises f t zero h = let e : t ≡ 0 = omega arith in rw e (omega arith)
upto_rises f t (suc n) h = go (upto_rises f t n) (dec_le t n)
  where
    go : (t ≤ n → upto f t ≤ upto f n) → Dec (t ≤ n) → upto f t ≤ upto f n + f n
    go ih (yes k) = omega (arith, ih k)
    go ih (no k) = let e : t ≡ suc n = omega arith in rw e (omega arith)

pub upto_none : (f : ℕ → ℕ) (e : ℕ) → ((u : ℕ) → u < e → f u ≡ 0) → (t : ℕ) → t ≤ e → upto f t ≡ 0
unfolding upto
upto_none f e h zero k = refl
upto_none f e h (suc t) k = omega (arith, upto_none f e h t (omega arith), h t k)

-- where nothing comes from e on, nothing is added
pub upto_over : (f : ℕ → ℕ) (e : ℕ) → ((u : ℕ) → e ≤ u → f u ≡ 0) → (t : ℕ) → e ≤ t → upto f t ≡ upto f e
unfolding upto
upto_over f e h zero k = let z : e ≡ 0 = omega arith in rw z
upto_over f e h (suc t) k = go (upto_over f e h t) (dec_le e t)
  where
    go : (e ≤ t → upto f t ≡ upto f e) → Dec (e ≤ t) → upto f t + f t ≡ upto f e
    go ih (yes p) = omega (arith, ih p, h t p)
    go ih (no p) = let z : e ≡ suc t = omega arith in rw z

-- counts agree where the functions do
pub upto_same : (f g : ℕ → ℕ) (t : ℕ) → ((u : ℕ) → u < t → f u ≡ g u) → upto f t ≡ upto g t
unfolding upto
upto_same f g zero h = refl
upto_same f g (suc t) h = omega (arith, upto_same f g t (λ u k. h u (omega arith)), h t (omega arith))

pub upto_inside : (s e t : ℕ) → upto (inside s e) t ≡ min t e - min t s
unfolding upto
upto_inside s e zero = omega arith
upto_inside s e (suc t) = go (upto_inside s e t) (dec_le s t) (dec_lt t e)
  where
    go : upto (inside s e) t ≡ min t e - min t s → Dec (s ≤ t) → Dec (t < e) → upto (inside s e) t + inside s e t ≡ min (suc t) e - min (suc t) s
    go ih (yes h) (yes k) = omega (arith, inside_yes s e t h k)
    go ih (yes h) (no k) = omega (arith, inside_late s e t (omega arith))
    go ih (no h) d = omega (arith, inside_early s e t (omega arith))

-- the same with no difference in it
pub count_inside : (s e t : ℕ) → s ≤ e → upto (inside s e) t + min t s ≡ min t e
count_inside s e t h = omega (arith, upto_inside s e t)

-- ---- of a curve

pub count_cover : (s e : ℕ) (r : List ℕ) (t : ℕ) → s < e → upto (cover (s ∷ (e ∷ r))) t + min t s ≡ min t e + upto (cover r) t
unfolding cover
count_cover s e r t h = omega (arith, upto-⊕ (inside s e) (cover r) t, count_inside s e t (omega arith))

pub count_early : (l : List ℕ) (lo t : ℕ) → Apart lo l → t ≤ lo → upto (cover l) t ≡ 0
count_early l lo t p h = upto_none (cover l) lo (λ u k. cover_before l lo u p k) t h

cover_none : (u : ℕ) → cover [] u ≡ 0
unfolding cover
cover_none u = refl

-- from its end on a curve has given its whole length
pub count_all : (l : List ℕ) (lo t : ℕ) → Apart lo l → end_of l ≤ t → upto (cover l) t ≡ size l
unfolding size
count_all [] lo t p h = upto_none (cover []) t (λ u k. cover_none u) t (omega arith)
count_all (s ∷ []) lo t p h = absurd p
count_all (s ∷ (e ∷ r)) lo t p h =
    omega (arith, count_cover s e r t p.1, end_above lo s e r p, count_all r (suc e) t p.2 (omega (arith, end_rest lo s e r p)))
