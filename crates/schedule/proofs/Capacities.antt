-- What a server holds: only the past decides, smoothing the work first changes nothing, and "the first C free ticks of each period" are
-- what one holds that is never out of work. Assumes nothing.
use Prim.Native.Nat.{ℕ, zero, suc, ◌+◌, ◌-◌, ◌%◌, ◌≤◌, ◌<◌, min}
use mathlib.Core.Path.{◌≡◌, refl, sym, ap, ◌∙◌, fun_ext}
use native.Mathlib.Omega.{arith}
use native.Mathlib.Nat.{zero-mod}
use native.Mathlib.Decide.{ℕ_discrete}
use Rattle.windows.specs.Windows.{done, always, ◌⊕◌}
use Rattle.windows.specs.Servers.{so_far, limited, before, held}
use Rattle.windows.proofs.Queue.{smooth, smoothing_absorbed}
use Rattle.windows.proofs.Capacity.{so_far_first, so_far_next, held_once, held_smoothing}
use Rattle.schedule.specs.Curves.{first_free}
use Rattle.schedule.specs.Ticks.{nothing}

-- ---- smoothing the work first, with no other beside it

with_nothing : (x : ℕ → ℕ) → x ⊕ nothing ≡ x
with_nothing x = fun_ext (λ t. omega arith)

pub done_smooth : (x sup : ℕ → ℕ) → ((t : ℕ) → sup t ≤ 1) → done (smooth x) sup ≡ done x sup
done_smooth x sup unit =
    ap (λ y. done y sup) (sym (with_nothing (smooth x)))
    ∙ smoothing_absorbed x nothing sup unit
    ∙ ap (λ y. done y sup) (with_nothing x)

pub held_smooth : (C T : ℕ) (x free : ℕ → ℕ) → 0 < T → ((t : ℕ) → free t ≤ 1) → held C T (smooth x) free ≡ held C T x free
held_smooth C T x free p unit =
    ap (λ y. held C T y free) (sym (with_nothing (smooth x)))
    ∙ held_smoothing C T x nothing free p unit
    ∙ ap (λ y. held C T y free) (with_nothing x)

-- ---- a held tick is free, and the past decides

module _ (C T : ℕ) (x y f g : ℕ → ℕ) where
  before_past : (t : ℕ) → ((u : ℕ) → u < t → x u ≡ y u) → ((u : ℕ) → u < t → f u ≡ g u) → before C T x f t ≡ before C T y g t
  unfolding before
  before_past zero p q = refl
  before_past (suc t) p q =
      let ih : before C T x f t ≡ before C T y g t = before_past t (λ u h. p u (omega arith)) (λ u h. q u (omega arith)) in
      rw (ih, p t (omega arith), q t (omega arith))

  -- what two held curves look at is the past only
  pub held_past : (t : ℕ) → ((u : ℕ) → u ≤ t → x u ≡ y u) → ((u : ℕ) → u ≤ t → f u ≡ g u) → held C T x f t ≡ held C T y g t
  unfolding held
  held_past t p q =
      let b : before C T x f t ≡ before C T y g t = before_past t (λ u h. p u (omega arith)) (λ u h. q u (omega arith)) in
      rw (b, p t (omega arith), q t (omega arith))

-- ---- a server that is never out of work

-- with work at every tick, all that can be done is done
done_always : (s : ℕ → ℕ) → ((t : ℕ) → s t ≤ 1) → done always s ≡ s
unfolding done
done_always s unit = fun_ext (λ t. omega (arith, unit t))

-- one tick more, of which the first C count
first_more : (C s f : ℕ) → min C s + min f (C - s) ≡ min C (s + f)
first_more C s f = omega arith

-- a server that counts only the ticks it holds stops at the same one
first_same : (C s f : ℕ) → min f (C - s) ≡ min f (C - min C s)
first_same C s f = omega arith

module _ (C T : ℕ) (free : ℕ → ℕ) (p : 0 < T) where
  first_so_far : (t : ℕ) → so_far T (first_free C T free) t ≡ min C (so_far T free t)
  first_so_far zero = so_far_first T (first_free C T free) p 0 (zero-mod T) ∙ omega (arith, so_far_first T free p 0 (zero-mod T))
  first_so_far (suc t) = go (first_so_far t) (ℕ_discrete (suc t % T) 0)
    where
      go : so_far T (first_free C T free) t ≡ min C (so_far T free t) → Dec (suc t % T ≡ 0)
          → so_far T (first_free C T free) (suc t) ≡ min C (so_far T free (suc t))
      go ih (yes e) = so_far_first T (first_free C T free) p (suc t) e ∙ omega (arith, so_far_first T free p (suc t) e)
      go ih (no e) =
          so_far_next T (first_free C T free) p t e
          ∙ ap (λ n. n + first_free C T free t) ih
          ∙ first_more C (so_far T free t) (free t)
          ∙ ap (min C) (sym (so_far_next T free p t e))

  -- "the first C free ticks of each period" are what a server holds that is never out of work
  pub first_free_is_held : ((t : ℕ) → free t ≤ 1) → first_free C T free ≡ held C T always free
  first_free_is_held unit =
      let q = first_free C T free in
      held_once C T always free p q (
      fun_ext (λ t. first_same C (so_far T free t) (free t) ∙ ap (λ n. min (free t) (C - n)) (sym (first_so_far t)))
      ∙ sym (done_always (limited C T free q) (λ t. omega (arith, unit t))))
