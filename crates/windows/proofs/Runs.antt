-- The windows of a tick function cover just its ticks, and stand apart. Assumes nothing.
use Prim.Native.Nat.{ℕ, zero, suc, ◌+◌, ◌≤◌, ◌<◌}
use mathlib.Core.Path.{◌≡◌, refl, sym, ap, ◌∙◌}
use mathlib.Core.List.{List, [], ◌∷◌}
use mathlib.Core.Bool.{Bool, true, false}
use native.Mathlib.Omega.{arith}
use native.Mathlib.Decide.{dec_lt, ℕ_discrete}
use lib.Dec.{ltb, eqb}
use borrow.Author.Tests.{ltb-true, ltb-false}
use Rattle.basics.specs.Choice.{pick}
use Rattle.windows.specs.Windows.{cover, end_of, join, runs, windows_of}
use Rattle.windows.proofs.Ticks.{inside_yes, inside_late, Apart, apart_lower, cover_before, cover_after, join_apart, join_cover, apart_same}

-- every end is at hi or before
pub join_end : (a b hi : ℕ) (l : List ℕ) → b ≤ hi → end_of l ≤ hi → end_of (join a b l) ≤ hi
unfolding join end_of
join_end a b hi [] h k = h
join_end a b hi (s ∷ []) h k = h
join_end a b hi (s ∷ (e ∷ r)) h k = go (eqb b s)
  where
    go : (x : Bool) → end_of (pick x (a ∷ (e ∷ r)) (a ∷ (b ∷ (s ∷ (e ∷ r))))) ≤ hi
    go true = k
    go false = k

module _ (f : ℕ → ℕ) where
  pub runs_apart : (k t : ℕ) → Apart t (runs f k t)
  unfolding runs
  runs_apart zero t = tt
  runs_apart (suc k) t = go (ltb 0 (f t)) (runs_apart k (suc t))
    where
      go : (b : Bool) → Apart (suc t) (runs f k (suc t)) → Apart t (pick b (join t (suc t) (runs f k (suc t))) (runs f k (suc t)))
      go true p = join_apart t t (suc t) (runs f k (suc t)) (omega arith) (omega arith) p
      go false p = apart_lower (suc t) t (runs f k (suc t)) (omega arith) p

  pub runs_end : (k t : ℕ) → end_of (runs f k t) ≤ t + k
  unfolding runs end_of
  runs_end zero t = omega arith
  runs_end (suc k) t = go (ltb 0 (f t)) (runs_end k (suc t))
    where
      go : (b : Bool) → end_of (runs f k (suc t)) ≤ suc t + k → end_of (pick b (join t (suc t) (runs f k (suc t))) (runs f k (suc t))) ≤ t + suc k
      go true h = join_end t (suc t) (t + suc k) (runs f k (suc t)) (omega arith) (omega arith)
      go false h = omega arith

  -- f has one unit at most at a tick, and none from n on
  module _ (unit : (t : ℕ) → f t ≤ 1) where
    cover_next : (k t u : ℕ) → t < u → cover (runs f (suc k) t) u ≡ cover (runs f k (suc t)) u
    unfolding runs
    cover_next k t u h = go (ltb 0 (f t))
      where
        go : (b : Bool) → cover (pick b (join t (suc t) (runs f k (suc t))) (runs f k (suc t))) u ≡ cover (runs f k (suc t)) u
        go true =
            ap (λ (g : ℕ → ℕ). g u) (join_cover t (suc t) (runs f k (suc t)) (omega arith) (runs_apart k (suc t)))
            ∙ omega (arith, inside_late t (suc t) u h)
        go false = refl

    cover_first : (k t : ℕ) → cover (runs f (suc k) t) t ≡ f t
    unfolding runs
    cover_first k t = go (ltb 0 (f t)) refl
      where
        none : cover (runs f k (suc t)) t ≡ 0
        none = cover_before (runs f k (suc t)) (suc t) t (runs_apart k (suc t)) (omega arith)

        go : (b : Bool) → ltb 0 (f t) ≡ b → cover (pick b (join t (suc t) (runs f k (suc t))) (runs f k (suc t))) t ≡ f t
        go true e =
            ap (λ (g : ℕ → ℕ). g t) (join_cover t (suc t) (runs f k (suc t)) (omega arith) (runs_apart k (suc t)))
            ∙ omega (arith, none, inside_yes t (suc t) t (omega arith) (omega arith), ltb-true 0 (f t) e, unit t)
        go false e = omega (arith, none, ltb-false 0 (f t) e)

    pub runs_cover : (k t u : ℕ) → t ≤ u → u < t + k → cover (runs f k t) u ≡ f u
    runs_cover zero t u h l = absurd (omega arith)
    runs_cover (suc k) t u h l = go (ℕ_discrete t u) (runs_cover k (suc t) u)
      where
        go : Dec (t ≡ u) → (suc t ≤ u → u < suc t + k → cover (runs f k (suc t)) u ≡ f u) → cover (runs f (suc k) t) u ≡ f u
        go (yes e) ih = ap (λ v. cover (runs f (suc k) t) v) (sym e) ∙ cover_first k t ∙ ap f e
        go (no e) ih = cover_next k t u (omega arith) ∙ ih (omega arith) (omega arith)

    -- the windows of the ticks below n cover these ticks and no other
    pub windows_cover : (n : ℕ) → ((t : ℕ) → n ≤ t → f t ≡ 0) → (t : ℕ) → cover (windows_of f n) t ≡ f t
    windows_cover n late t = go (dec_lt t n)
      where
        go : Dec (t < n) → cover (windows_of f n) t ≡ f t
        go (yes h) = runs_cover n 0 t (omega arith) (omega arith)
        go (no h) =
            cover_after (windows_of f n) 0 t (runs_apart n 0) (omega (arith, runs_end n 0))
            ∙ sym (late t (omega arith))

    -- whatever stands apart and covers the ticks of f is this curve
    pub windows_only : (n : ℕ) (l : List ℕ) → ((t : ℕ) → n ≤ t → f t ≡ 0) → Apart 0 l → ((t : ℕ) → cover l t ≡ f t) → l ≡ windows_of f n
    windows_only n l late p h = apart_same l (windows_of f n) 0 p (runs_apart n 0) (λ t. h t ∙ sym (windows_cover n late t))
