-- A supply limited by a capacity in each period: what is held is what a queue does on the free ticks whose period has capacity left,
-- and nothing else is; so smoothing the work first changes nothing here either. Assumes nothing.
use Prim.Native.Nat.{ℕ, zero, suc, ◌+◌, ◌-◌, ◌%◌, ◌≤◌, ◌<◌, min}
use mathlib.Core.Path.{◌≡◌, refl, sym, ap, ap₂, ◌∙◌, fun_ext}
use native.Mathlib.Omega.{arith}
use native.Mathlib.Nat.{mod-lt, mod-eq_of_lt, mod_self, suc-mod, zero-mod}
use native.Mathlib.Decide.{dec_lt, ℕ_discrete}
use borrow.Author.Tests.{eq-eqb, ne_eqb}
use Rattle.windows.specs.Windows.{upto, waiting, done, ◌⊕◌}
use Rattle.windows.specs.Servers.{so_far, limited, before, held}
use Rattle.windows.proofs.Counts.{upto_same, upto_rises}
use Rattle.windows.proofs.Queue.{smooth, smoothing_absorbed, done_past}

-- inside a period the remainder grows by one
pub mod_next : (T t : ℕ) → 0 < T → ¬ (suc t % T ≡ 0) → suc t % T ≡ suc (t % T)
mod_next T t p h = go (dec_lt (suc (t % T)) T)
  where
    go : Dec (suc (t % T) < T) → suc t % T ≡ suc (t % T)
    go (yes k) = suc-mod t T ∙ mod-eq_of_lt k
    go (no k) =
        let e : suc (t % T) ≡ T = omega (arith, mod-lt t p) in
        absurd (h (suc-mod t T ∙ rw e (mod_self T)))

-- ---- the ticks of a period, counted

module _ (T : ℕ) (r : ℕ → ℕ) (p : 0 < T) where
  pub so_far_first : (t : ℕ) → t % T ≡ 0 → so_far T r t ≡ 0
  so_far_first t h = let e : t - t % T ≡ t = omega arith in rw e (omega arith)

  pub so_far_next : (t : ℕ) → ¬ (suc t % T ≡ 0) → so_far T r (suc t) ≡ so_far T r t + r t
  unfolding upto
  so_far_next t h =
      let e : suc t - suc t % T ≡ t - t % T = omega (arith, mod_next T t p h) in
      rw e (omega (arith, upto_rises r (t - t % T) t (omega arith)))

-- counts of a period look only at the past
pub so_far_past : (T : ℕ) (r q : ℕ → ℕ) (t : ℕ) → ((u : ℕ) → u < t → r u ≡ q u) → so_far T r t ≡ so_far T q t
so_far_past T r q t h = ap₂ ◌-◌ (upto_same r q t h) (upto_same r q (t - t % T) (λ u k. h u (omega arith)))

-- ---- the held ticks

module _ (C T : ℕ) (x free : ℕ → ℕ) (p : 0 < T) where
  abbrev r : ℕ → ℕ
  r = held C T x free

  pub spent_is : (t : ℕ) → (before C T x free t).spent ≡ so_far T (held C T x free) t
  unfolding before held
  spent_is zero = sym (so_far_first T (held C T x free) p 0 (zero-mod T))
  spent_is (suc t) = go (spent_is t) (ℕ_discrete (suc t % T) 0)
    where
      go : (before C T x free t).spent ≡ so_far T (held C T x free) t → Dec (suc t % T ≡ 0)
          → (before C T x free (suc t)).spent ≡ so_far T (held C T x free) (suc t)
      go ih (yes e) = rw (eq-eqb (suc t % T) 0 e) (sym (so_far_first T (held C T x free) p (suc t) e))
      go ih (no e) = rw (ne_eqb (suc t % T) 0 e) (ap (λ n. n + held C T x free t) ih ∙ sym (so_far_next T (held C T x free) p t e))

  waits_is : (t : ℕ) → (before C T x free t).waits ≡ waiting x (limited C T free r) t
  unfolding before held waiting
  waits_is zero = refl
  waits_is (suc t) =
      ap₂ (λ s w. (w + x t) - min (min (free t) (C - s)) (w + x t)) (spent_is t) (waits_is t)

  -- the server's queue is a queue on what is free and within the capacity
  pub held_done : held C T x free ≡ done x (limited C T free (held C T x free))
  unfolding held done
  held_done = fun_ext (λ t. ap₂ (λ s w. min (min (free t) (C - s)) (w + x t)) (spent_is t) (waits_is t))

  -- and there is one such queue only
  module _ (q : ℕ → ℕ) (e : q ≡ done x (limited C T free q)) where
    pub held_so_far : (t : ℕ) (u : ℕ) → u < t → q u ≡ held C T x free u
    held_so_far zero u h = absurd (omega arith)
    held_so_far (suc t) u h =
        ap (λ (f : ℕ → ℕ). f u) e
        ∙ done_past x x (limited C T free q) (limited C T free r) u (λ v k. refl)
        (λ v k. ap (λ n. min (free v) (C - n)) (so_far_past T q r v (λ w l. held_so_far t w (omega arith))))
        ∙ sym (ap (λ (f : ℕ → ℕ). f u) held_done)

    pub held_once : q ≡ held C T x free
    held_once = fun_ext (λ t. held_so_far (suc t) t (omega arith))

  pub held_under : (t : ℕ) → held C T x free t ≤ C - so_far T (held C T x free) t
  unfolding held
  held_under t = rw (← spent_is t) (omega arith)

  so_far_within : (t : ℕ) → so_far T (held C T x free) t ≤ C
  so_far_within zero = omega (arith, so_far_first T (held C T x free) p 0 (zero-mod T))
  so_far_within (suc t) = go (so_far_within t) (ℕ_discrete (suc t % T) 0)
    where
      go : so_far T (held C T x free) t ≤ C → Dec (suc t % T ≡ 0) → so_far T (held C T x free) (suc t) ≤ C
      go ih (yes e) = omega (arith, so_far_first T (held C T x free) p (suc t) e)
      go ih (no e) = omega (arith, so_far_next T (held C T x free) p t e, held_under t)

  -- no period has more than C of them, its last tick counted
  pub held_within : (t : ℕ) → so_far T (held C T x free) t + held C T x free t ≤ C
  held_within t = omega (arith, so_far_within t, held_under t)

-- smoothing the work first changes nothing
pub held_smoothing : (C T : ℕ) (x y free : ℕ → ℕ) → 0 < T → ((t : ℕ) → free t ≤ 1) → held C T (smooth x ⊕ y) free ≡ held C T (x ⊕ y) free
held_smoothing C T x y free p unit =
    held_once C T (x ⊕ y) free p (held C T (smooth x ⊕ y) free)
    (held_done C T (smooth x ⊕ y) free p
    ∙ smoothing_absorbed x y (limited C T free (held C T (smooth x ⊕ y) free)) (λ t. omega (arith, unit t)))

-- a held tick is free
pub held_is_free : (C T : ℕ) (x free : ℕ → ℕ) (t : ℕ) → held C T x free t ≤ free t
unfolding held
held_is_free C T x free t = omega arith

-- a capacity of a whole period is no limit: what is held is what the queue does
module _ (C T : ℕ) (x free : ℕ → ℕ) (p : 0 < T) (unit : (t : ℕ) → free t ≤ 1) (h : T ≤ C) where
  so_far_most : (t : ℕ) → so_far T (held C T x free) t ≤ t % T
  so_far_most zero = omega (arith, so_far_first T (held C T x free) p 0 (zero-mod T))
  so_far_most (suc t) = go (so_far_most t) (ℕ_discrete (suc t % T) 0)
    where
      go : so_far T (held C T x free) t ≤ t % T → Dec (suc t % T ≡ 0) → so_far T (held C T x free) (suc t) ≤ suc t % T
      go ih (yes e) = omega (arith, so_far_first T (held C T x free) p (suc t) e)
      go ih (no e) = omega (arith, so_far_next T (held C T x free) p t e, mod_next T t p e, held_is_free C T x free t, unit t)

  pub held_unlimited : held C T x free ≡ done x free
  held_unlimited =
      held_done C T x free p
      ∙ ap (done x) (fun_ext (λ t. omega (arith, so_far_most t, mod-lt t p, unit t)))
