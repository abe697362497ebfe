-- Work that comes at single ticks, and that a task's releases bring what it gains. Assumes nothing.
use Prim.Native.Nat.{ℕ, zero, suc, ◌+◌, ◌-◌, ◌≤◌, ◌<◌}
use mathlib.Core.Path.{◌≡◌, refl, sym, ap, ◌∙◌, fun_ext}
use mathlib.Core.List.{List, [], ◌∷◌}
use mathlib.Core.Bool.{Bool, true, false}
use native.Mathlib.Omega.{arith}
use native.Mathlib.Decide.{dec_le, dec_lt, ℕ_discrete}
use lib.Dec.{eqb}
use borrow.Author.Tests.{eq-eqb, ne_eqb}
use Rattle.basics.specs.Choice.{pick}
use Rattle.windows.specs.Windows.{inside, waiting, done, always, ◌⊕◌}
use Rattle.windows.proofs.Ticks.{inside_yes, inside_early, inside_late}
use Rattle.windows.proofs.Queue.{none, smooth}
use Rattle.table.specs.declared.Release.{Release}
use Rattle.table.specs.Releases.{released_at}
use Rattle.schedule.specs.Curves.{releases_from}

-- ---- work that comes at one tick

-- w units come at tick r, and none elsewhere
abbrev pub impulse : ℕ → ℕ → ℕ → ℕ
impulse r w t = pick (eqb t r) w 0

-- at tick r come w units
impulse_at : (r w t : ℕ) → t ≡ r → impulse r w t ≡ w
impulse_at r w t h = rw (eq-eqb t r h)

-- elsewhere comes nothing
impulse_off : (r w t : ℕ) → ¬ (t ≡ r) → impulse r w t ≡ 0
impulse_off r w t h = rw (ne_eqb t r h)

module _ (r w : ℕ) where
  -- up to tick r nothing waits
  impulse_early : (t : ℕ) → t ≤ r → waiting (impulse r w) always t ≡ 0
  unfolding waiting
  impulse_early zero h = refl
  impulse_early (suc t) h = omega (arith, impulse_early t (omega arith), impulse_off r w t (λ e. omega arith))

  -- at tick r there are all w units
  impulse_first : (t : ℕ) → t ≡ r → waiting (impulse r w) always t + impulse r w t ≡ (r + w) - t
  impulse_first t e = omega (arith, impulse_early t (omega arith), impulse_at r w t e)

  -- from tick r on there is what is left of the w units
  impulse_late : (t : ℕ) → r ≤ t → waiting (impulse r w) always t + impulse r w t ≡ (r + w) - t
  unfolding waiting
  impulse_late zero h = impulse_first zero (omega arith)
  impulse_late (suc t) h = go (dec_le r t) (impulse_late t)
    where
      go : Dec (r ≤ t) → (r ≤ t → waiting (impulse r w) always t + impulse r w t ≡ (r + w) - t)
          → waiting (impulse r w) always (suc t) + impulse r w (suc t) ≡ (r + w) - suc t
      go (yes k) ih = omega (arith, ih k, impulse_off r w (suc t) (λ e. omega arith))
      go (no k) ih = impulse_first (suc t) (omega arith)

  -- each tick does what the window covers
  impulse_tick : (t : ℕ) → Dec (r ≤ t) → Dec (t < r + w) → inside r (r + w) t ≡ smooth (impulse r w) t
  unfolding done
  impulse_tick t (yes h) (yes k) = omega (arith, impulse_late t h, inside_yes r (r + w) t h k)
  impulse_tick t (yes h) (no k) = omega (arith, impulse_late t h, inside_late r (r + w) t (omega arith))
  impulse_tick t (no h) k =
      omega (arith, impulse_early t (omega arith), impulse_off r w t (λ e. omega arith), inside_early r (r + w) t (omega arith))

  -- w units that come at tick r are done in the window of w ticks from r on
  pub impulse_smooth : inside r (r + w) ≡ smooth (impulse r w)
  impulse_smooth = fun_ext (λ t. impulse_tick t (dec_le r t) (dec_lt t (r + w)))

-- ---- the work that releases bring

-- w units come at each of the releases
abbrev pub impulses : ℕ → List ℕ → ℕ → ℕ
impulses w [] = none
impulses w (r ∷ rs) = impulse r w ⊕ impulses w rs

module _ (release : Release) (w : ℕ) where
  -- before tick t they bring nothing
  impulses_early : (k t u : ℕ) → u < t → impulses w (releases_from release k t) u ≡ 0
  unfolding releases_from
  impulses_early zero t u h = refl
  impulses_early (suc k) t u h = go (released_at release t) (impulses_early k (suc t) u (omega arith))
    where
      go : (b : Bool) → impulses w (releases_from release k (suc t)) u ≡ 0
          → impulses w (pick b (t ∷ releases_from release k (suc t)) (releases_from release k (suc t))) u ≡ 0
      go true ih = omega (arith, ih, impulse_off t w u (λ e. omega arith))
      go false ih = ih

  -- at tick t they bring what its own release brings
  impulses_first : (k t u : ℕ) (b : Bool) → u ≡ t
      → impulses w (pick b (t ∷ releases_from release k (suc t)) (releases_from release k (suc t))) u ≡ pick b w 0
  impulses_first k t u true e = omega (arith, impulse_at t w u e, impulses_early k (suc t) u (omega arith))
  impulses_first k t u false e = impulses_early k (suc t) u (omega arith)

  -- elsewhere the release at tick t adds nothing
  impulses_next : (k t u : ℕ) (b : Bool) → ¬ (u ≡ t)
      → impulses w (pick b (t ∷ releases_from release k (suc t)) (releases_from release k (suc t))) u ≡ impulses w (releases_from release k (suc t)) u
  impulses_next k t u true e = omega (arith, impulse_off t w u e)
  impulses_next k t u false e = refl

  -- the releases of the k ticks from t on bring at each of them what is gained there
  pub impulses_gain : (k t u : ℕ) → t ≤ u → u < t + k → impulses w (releases_from release k t) u ≡ pick (released_at release u) w 0
  unfolding releases_from
  impulses_gain zero t u h l = absurd (omega arith)
  impulses_gain (suc k) t u h l = go (ℕ_discrete u t) (impulses_gain k (suc t) u)
    where
      rest : List ℕ
      rest = releases_from release k (suc t)

      go : Dec (u ≡ t) → (suc t ≤ u → u < suc t + k → impulses w rest u ≡ pick (released_at release u) w 0)
          → impulses w (pick (released_at release t) (t ∷ rest) rest) u ≡ pick (released_at release u) w 0
      go (yes e) ih = impulses_first k t u (released_at release t) e ∙ ap (λ v. pick (released_at release v) w 0) (sym e)
      go (no e) ih = impulses_next k t u (released_at release t) e ∙ ih (omega arith) (omega arith)
