-- A task's demand and a server's summed demand, tick by tick. Assumes nothing.
use Prim.Native.Nat.{ℕ, zero, suc, ◌+◌, ◌≤◌, ◌<◌, min}
use mathlib.Core.Path.{◌≡◌, refl, sym, ap, subst, ◌∙◌, fun_ext}
use mathlib.Core.List.{List, [], ◌∷◌}
use mathlib.Core.Bool.{Bool, true, false}
use native.Mathlib.Omega.{arith}
use native.Mathlib.Decide.{dec_le}
use Rattle.basics.specs.Choice.{pick}
use Rattle.windows.specs.Windows.{inside, cover, add_up, always, ◌⊕◌}
use Rattle.windows.proofs.Ticks.{inside_yes, inside_early, inside_late, Apart, apart_lower, window_apart, window_cover}
use Rattle.windows.proofs.Queue.{none, smooth, smooth_absorbed, smooth_units, done_past}
use Rattle.windows.proofs.Adding.{add_ticks, add_apart}
use Rattle.table.specs.declared.Task.{Task}
use Rattle.table.specs.declared.Table.{Table}
use Rattle.table.specs.Places.{task_at, Obeyed}
use Rattle.table.specs.Releases.{gains}
use Rattle.table.proofs.Obeyed.{task_some}
use Rattle.schedule.specs.Curves.{belongs, below, releases_from, with_releases, demand_of, summed_below}
use Rattle.schedule.specs.Ticks.{works_below}
use Rattle.schedule.proofs.Impulses.{impulse, impulse_smooth, impulses, impulses_gain}

-- ---- what lies below H

-- a window that is cut at H covers the same ticks below H
pub inside_cut : (H s e t : ℕ) → t < H → Dec (e ≤ H) → Dec (s ≤ t) → inside s (min e H) t ≡ inside s e t
inside_cut H s e t h (yes k) l = let q : min e H ≡ e = omega arith in ap (λ n. inside s n t) q
inside_cut H s e t h (no k) (yes l) = omega (arith, inside_yes s (min e H) t l (omega arith), inside_yes s e t l (omega arith))
inside_cut H s e t h (no k) (no l) = omega (arith, inside_early s (min e H) t (omega arith), inside_early s e t (omega arith))

-- what is left stands apart
pub below_apart : (H lo : ℕ) (l : List ℕ) → Apart lo l → Apart lo (below H l)
unfolding below
below_apart H lo [] p = tt
below_apart H lo (s ∷ []) p = tt
below_apart H lo (s ∷ (e ∷ r)) p =
    let q : Apart (suc e) (below H r) = below_apart H (suc e) r p.2 in
    window_apart lo s (min e H) (below H r) p.0
    (apart_lower (suc e) (suc (min e H)) (below H r) (omega arith) q)
    (apart_lower (suc e) lo (below H r) (omega arith) q)

-- below H it covers the same ticks
pub below_cover : (H lo : ℕ) (l : List ℕ) → Apart lo l → (t : ℕ) → t < H → cover (below H l) t ≡ cover l t
unfolding below cover
below_cover H lo [] p t h = refl
below_cover H lo (s ∷ []) p t h = refl
below_cover H lo (s ∷ (e ∷ r)) p t h =
    ap (λ (f : ℕ → ℕ). f t) (window_cover s (min e H) (below H r))
    ∙ omega (arith, inside_cut H s e t h (dec_le e H) (dec_le s t), below_cover H (suc e) r p.2 t h)

-- from H on it covers none
pub below_over : (H lo : ℕ) (l : List ℕ) → Apart lo l → (t : ℕ) → H ≤ t → cover (below H l) t ≡ 0
unfolding below cover
below_over H lo [] p t h = refl
below_over H lo (s ∷ []) p t h = refl
below_over H lo (s ∷ (e ∷ r)) p t h =
    ap (λ (f : ℕ → ℕ). f t) (window_cover s (min e H) (below H r))
    ∙ omega (arith, inside_late s (min e H) t (omega arith), below_over H (suc e) r p.2 t h)

-- a curve that lies below H: apart, and nothing at H or later
pub record Inside (H : ℕ) (l : List ℕ) : Type 0 where
  pub apart : Apart 0 l
  pub over : (t : ℕ) → H ≤ t → cover l t ≡ 0

-- what is kept of a curve apart lies below H
pub below_inside : (H : ℕ) (l : List ℕ) → Apart 0 l → Inside H (below H l)
below_inside H l p = record { apart = below_apart H 0 l p; over = below_over H 0 l p }

-- ---- smoothing both parts first changes nothing

-- the order of the parts does not matter
⊕-swap : (x y : ℕ → ℕ) → x ⊕ y ≡ y ⊕ x
⊕-swap x y = fun_ext (λ t. omega arith)

-- each part smoothed first, their sum smoothed is the same
pub smooth_both : (x y : ℕ → ℕ) → smooth (smooth x ⊕ smooth y) ≡ smooth (x ⊕ y)
smooth_both x y =
    smooth_absorbed x (smooth y) ∙ ap smooth (⊕-swap x (smooth y)) ∙ smooth_absorbed y x ∙ ap smooth (⊕-swap y x)

-- smoothing looks only at the past
pub smooth_past : (x y : ℕ → ℕ) (t : ℕ) → ((u : ℕ) → u ≤ t → x u ≡ y u) → smooth x t ≡ smooth y t
smooth_past x y t h = done_past x y always always t h (λ u k. refl)

-- ---- what is added up and kept below H is the work of both, one unit a tick as soon as any waits

-- a curve below H that covers there the work x, one unit a tick as soon as any waits
record Smooths (H : ℕ) (x : ℕ → ℕ) (l : List ℕ) : Type 0 where
  within : Inside H l
  covers : (t : ℕ) → t < H → cover l t ≡ smooth x t

module _ (H : ℕ) (x y : ℕ → ℕ) (a b : List ℕ) (p : Apart 0 a) (q : Apart 0 b) where
  -- below H, the sum's ticks are those of both works
  added_cover : ((t : ℕ) → t < H → cover a t ≡ smooth x t) → ((t : ℕ) → t < H → cover b t ≡ smooth y t)
      → (t : ℕ) → t < H → cover (below H (add_up a b)) t ≡ smooth (x ⊕ y) t
  added_cover f g t h =
      below_cover H 0 (add_up a b) (add_apart a b p q) t h
      ∙ ap (λ (z : ℕ → ℕ). z t) (add_ticks a b p q)
      ∙ smooth_past (cover a ⊕ cover b) (smooth x ⊕ smooth y) t (λ u k. omega (arith, f u (omega arith), g u (omega arith)))
      ∙ ap (λ (z : ℕ → ℕ). z t) (smooth_both x y)

  -- adding up two curves adds up their works
  added_smooths : ((t : ℕ) → t < H → cover a t ≡ smooth x t) → ((t : ℕ) → t < H → cover b t ≡ smooth y t) → Smooths H (x ⊕ y) (below H (add_up a b))
  added_smooths f g = record { within = below_inside H (add_up a b) (add_apart a b p q); covers = added_cover f g }

-- the empty curve covers no work
none_smooths : (H : ℕ) → Smooths H none []
unfolding cover
none_smooths H = record {
  within = record { apart = tt; over = λ t h. refl };
  covers = λ t h. sym (ap (λ (f : ℕ → ℕ). f t) (smooth_units none (λ u. omega arith)));
}

-- ---- the work that releases bring

-- one window covers the work of one release
window_over : (r w : ℕ) → cover (r ∷ ((r + w) ∷ [])) ≡ smooth (impulse r w)
unfolding cover
window_over r w = fun_ext (λ t. omega arith) ∙ impulse_smooth r w

module _ (H w : ℕ) (some : 1 ≤ w) where
  -- a demand once the release r is added to it
  abbrev with_release : List ℕ → ℕ → List ℕ
  with_release demand r = below H (add_up demand (r ∷ ((r + w) ∷ [])))

  -- one release adds its work
  release_smooths : (x : ℕ → ℕ) (demand : List ℕ) (r : ℕ) → Smooths H x demand → Smooths H (x ⊕ impulse r w) (with_release demand r)
  release_smooths x demand r s =
      added_smooths H x (impulse r w) demand (r ∷ ((r + w) ∷ [])) s.within.apart (omega arith, omega arith, tt) s.covers
      (λ t h. ap (λ (f : ℕ → ℕ). f t) (window_over r w))

  -- releases add their work, one after the other
  releases_smooth : (rs : List ℕ) (x : ℕ → ℕ) (demand : List ℕ) → Smooths H x demand → Smooths H (x ⊕ impulses w rs) (with_releases H w demand rs)
  unfolding with_releases
  releases_smooth [] x demand s =
      let e : x ≡ x ⊕ none = fun_ext (λ t. omega arith) in
      subst (λ (y : ℕ → ℕ). Smooths H y demand) e s
  releases_smooth (r ∷ rs) x demand s =
      let e : (x ⊕ impulse r w) ⊕ impulses w rs ≡ x ⊕ (impulse r w ⊕ impulses w rs) = fun_ext (λ t. omega arith) in
      subst (λ (y : ℕ → ℕ). Smooths H y (with_releases H w (with_release demand r) rs)) e
      (releases_smooth rs (x ⊕ impulse r w) (with_release demand r) (release_smooths x demand r s))

-- ---- a task's demand is its work, one unit a tick as soon as any waits

module _ (H : ℕ) (task : Task) (some : 1 ≤ task.work) where
  -- the demand covers the work of the releases below H
  demand_smooths : Smooths H (none ⊕ impulses task.work (releases_from task.release H 0)) (demand_of H task)
  unfolding demand_of
  demand_smooths = releases_smooth H task.work some (releases_from task.release H 0) none [] (none_smooths H)

  -- it lies below H
  pub demand_inside : Inside H (demand_of H task)
  demand_inside = demand_smooths.within

  -- below H it covers what the task gains
  pub demand_cover : (t : ℕ) → t < H → cover (demand_of H task) t ≡ smooth (gains task) t
  demand_cover t h =
      demand_smooths.covers t h
      ∙ smooth_past (none ⊕ impulses task.work (releases_from task.release H 0)) (gains task) t
      (λ u k. omega (arith, impulses_gain task.release task.work H 0 u (omega arith) (omega arith)))

-- ---- a server's summed demand is its tasks' work, one unit a tick as soon as any waits

module _ (table : Table) (ok : Obeyed table) (i : ℕ) where
  -- by the tasks, from the first on
  summed_smooths : (j : ℕ) → j ≤ table.tasks_n → Smooths table.span (works_below table i j) (summed_below table i j)
  unfolding works_below summed_below
  summed_smooths zero h = none_smooths table.span
  summed_smooths (suc j) h = go (belongs table i j) (summed_smooths j (omega arith))
    where
      H : ℕ
      H = table.span

      before : List ℕ
      before = summed_below table i j

      task : Task
      task = task_at table j

      some : 1 ≤ task.work
      some = task_some table ok j h

      go : (b : Bool) → Smooths H (works_below table i j) before
          → Smooths H (pick b (works_below table i j ⊕ gains task) (works_below table i j)) (pick b (below H (add_up before (demand_of H task))) before)
      go true s = added_smooths H (works_below table i j) (gains task) before (demand_of H task) s.within.apart (demand_inside H task some).apart s.covers (demand_cover H task some)
      go false s = s

  -- it lies below the span
  pub summed_inside : (j : ℕ) → j ≤ table.tasks_n → Inside table.span (summed_below table i j)
  summed_inside j h = (summed_smooths j h).within

  -- below the span it covers the work of the tasks below place j
  pub summed_cover : (j : ℕ) → j ≤ table.tasks_n → (t : ℕ) → t < table.span → cover (summed_below table i j) t ≡ smooth (works_below table i j) t
  summed_cover j h = (summed_smooths j h).covers
