-- Curves that lie below an end H: fitting there is a queue's serving, and holding there is a server's queue. Assumes nothing.
use Prim.Native.Nat.{ℕ, ◌+◌, ◌-◌, ◌≤◌, ◌<◌}
use mathlib.Core.Path.{◌≡◌, refl, ap, ◌∙◌}
use mathlib.Core.List.{List}
use native.Mathlib.Omega.{arith}
use Rattle.windows.specs.Windows.{cover, windows_of, done, always, fit}
use Rattle.windows.specs.Servers.{held}
use Rattle.windows.proofs.Ticks.{Apart, cover_one, cover_after}
use Rattle.windows.proofs.Runs.{runs_apart, runs_end, runs_cover}
use Rattle.windows.proofs.Queue.{smooth, done_past}
use Rattle.windows.proofs.Fitting.{Fitted, fitted}
use Rattle.table.specs.declared.Kind.{Kind}
use Rattle.table.specs.declared.Kind.TheVariants.{Deferrable, Periodic}
use Rattle.schedule.specs.Curves.{holding}
use Rattle.schedule.specs.Ticks.{wants}
use Rattle.schedule.proofs.Demands.{Inside}
use Rattle.schedule.proofs.Capacities.{done_smooth, held_smooth, held_past, first_free_is_held}
use Rattle.windows.proofs.Capacity.{held_is_free}

-- ---- curves below an end

-- the windows of the ticks below n lie below n
pub windows_inside : (f : ℕ → ℕ) (n : ℕ) → Inside n (windows_of f n)
windows_inside f n =
    record { apart = runs_apart f n 0; over = λ t h. cover_after (windows_of f n) 0 t (runs_apart f n 0) (omega (arith, runs_end f n 0)) }

pub windows_below : (f : ℕ → ℕ) (n t : ℕ) → ((u : ℕ) → f u ≤ 1) → t < n → cover (windows_of f n) t ≡ f t
windows_below f n t unit h = runs_cover f unit n 0 t (omega arith) (omega arith)

-- what lies in a curve lies below the same end
pub inside_of : (H : ℕ) (a b : List ℕ) → Inside H a → Apart 0 b → ((t : ℕ) → cover b t ≤ cover a t) → Inside H b
inside_of H a b p q h = record { apart = q; over = λ t k. omega (arith, h t, p.over t k) }

-- ---- fitting below an end

module _ (H : ℕ) (d s : List ℕ) (pd : Inside H d) (ps : Inside H s) where
  both : Fitted d s 0 0 (fit d s)
  both = fitted d s 0 0 pd.apart ps.apart

  -- a tick of the supply is served or left
  pub fit_splits : (t : ℕ) → cover s t ≡ cover (fit d s).served t + cover (fit d s).left t
  fit_splits t = ap (λ (g : ℕ → ℕ). g t) both.leaves

  pub served_inside : Inside H (fit d s).served
  served_inside = inside_of H s (fit d s).served ps both.served_apart (λ t. omega (arith, fit_splits t))

  pub rest_inside : Inside H (fit d s).left
  rest_inside = inside_of H s (fit d s).left ps both.left_apart (λ t. omega (arith, fit_splits t))

  -- the demand covers the smoothed work x, the supply covers f
  module _ (x f : ℕ → ℕ) (unit : (t : ℕ) → f t ≤ 1)
      (demand : (t : ℕ) → t < H → cover d t ≡ smooth x t) (supply : (t : ℕ) → t < H → cover s t ≡ f t) where
    pub served_cover : (t : ℕ) → t < H → cover (fit d s).served t ≡ done x f t
    served_cover t h =
        ap (λ (g : ℕ → ℕ). g t) both.serves
        ∙ done_past (cover d) (smooth x) (cover s) f t (λ u k. demand u (omega arith)) (λ u k. supply u (omega arith))
        ∙ ap (λ (g : ℕ → ℕ). g t) (done_smooth x f unit)

    pub rest_cover : (t : ℕ) → t < H → cover (fit d s).left t ≡ f t - done x f t
    rest_cover t h = omega (arith, fit_splits t, served_cover t h, supply t h)

-- ---- what a server holds below an end

-- a tick that it holds is free
pub holding_free : (C T : ℕ) (d l : List ℕ) (kind : Kind) (t : ℕ) → holding kind C T d l t ≤ cover l t
holding_free C T d l Deferrable t = held_is_free C T (cover d) (cover l) t
holding_free C T d l Periodic t = omega arith

-- the demand d covers the smoothed work x, the free curve l covers f
module _ (H C T : ℕ) (d l : List ℕ) (x f : ℕ → ℕ) (p : 0 < T) (apart : Apart 0 l) (unit : (t : ℕ) → f t ≤ 1)
    (demand : (t : ℕ) → t < H → cover d t ≡ smooth x t) (free : (t : ℕ) → t < H → cover l t ≡ f t) where
  pub holding_is : (kind : Kind) (t : ℕ) → t < H → holding kind C T d l t ≡ held C T (wants kind x) f t
  holding_is Deferrable t h =
      held_past C T (cover d) (smooth x) (cover l) f t (λ u k. demand u (omega arith)) (λ u k. free u (omega arith))
      ∙ ap (λ (g : ℕ → ℕ). g t) (held_smooth C T x f p unit)
  holding_is Periodic t h =
      ap (λ (g : ℕ → ℕ). g t) (first_free_is_held C T (cover l) p (λ u. cover_one l 0 u apart))
      ∙ held_past C T always always (cover l) f t (λ u k. refl) (λ u k. free u (omega arith))
