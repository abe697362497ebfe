-- The curves of a table cover, below H, the ticks of its queues. Assumes nothing.
use Prim.Native.Nat.{ℕ, zero, suc, ◌+◌, ◌-◌, ◌≤◌, ◌<◌}
use mathlib.Core.Path.{◌≡◌, ap, ap₂, ◌∙◌}
use mathlib.Core.List.{List, []}
use mathlib.Core.Bool.{Bool, true, false}
use native.Mathlib.Omega.{arith}
use native.Mathlib.Decide.{dec_lt}
use Rattle.basics.specs.Choice.{pick}
use Rattle.windows.specs.Windows.{cover, done, fit}
use Rattle.windows.proofs.Ticks.{Apart, inside_yes, inside_late, cover_one, window_cover, window_apart}
use Rattle.windows.proofs.Queue.{smooth}
use Rattle.table.specs.declared.Table.{Table}
use Rattle.table.specs.Places.{server_at, task_at, Obeyed}
use Rattle.table.specs.Releases.{gains}
use Rattle.table.proofs.Obeyed.{server_period, task_server, task_some}
use Rattle.schedule.specs.Curves.{belongs, demand_of, summed, holding, held_in, free_of, held_of, left_below, running_of}
use Rattle.schedule.specs.Ticks.{works_below, wants, takes, free_ticks, held_ticks, left_ticks, run_ticks}
use Rattle.schedule.proofs.Demands.{Inside, demand_inside, demand_cover, summed_cover}
use Rattle.windows.proofs.Capacity.{held_is_free}
use Rattle.schedule.proofs.BelowEnd.{windows_inside, windows_below, fit_splits, served_inside, rest_inside, served_cover, rest_cover, holding_free, holding_is}

-- ---- the ticks of the queues are one unit at most

module _ (table : Table) where
  pub takes_free : (i : ℕ) (free : ℕ → ℕ) (t : ℕ) → takes table i free t ≤ free t
  unfolding takes
  takes_free i free t =
      let s = server_at table i in
      held_is_free s.capacity s.period (wants s.kind (works_below table i table.tasks_n)) free t

  pub free_unit : (i t : ℕ) → free_ticks table i t ≤ 1
  unfolding free_ticks
  free_unit zero t = omega arith
  free_unit (suc i) t = omega (arith, free_unit i t)

  pub left_unit : (i j t : ℕ) → left_ticks table i j t ≤ 1
  unfolding left_ticks
  left_unit i zero t = omega (arith, takes_free i (free_ticks table i) t, free_unit i t)
  left_unit i (suc j) t = go (belongs table i j) (left_unit i j t)
    where
      l : ℕ → ℕ
      l = left_ticks table i j

      go : (b : Bool) → l t ≤ 1 → pick b (λ u. l u - done (gains (task_at table j)) l u) l t ≤ 1
      go true h = omega arith
      go false h = h

module _ (table : Table) (ok : Obeyed table) where
  abbrev H : ℕ
  H = table.span

  -- ---- what the server at place i holds, if its free curve l stands apart

  module _ (i : ℕ) (l : List ℕ) (apart : Apart 0 l) where
    abbrev hold : ℕ → ℕ
    hold = let s = server_at table i in holding s.kind s.capacity s.period (summed table i) l

    hold_free : (t : ℕ) → hold t ≤ cover l t
    hold_free t = let s = server_at table i in holding_free s.capacity s.period (summed table i) l s.kind t

    hold_cover : (t : ℕ) → t < H → cover (held_in table i l) t ≡ hold t
    unfolding held_in
    hold_cover t h = windows_below hold H t (λ u. omega (arith, hold_free u, cover_one l 0 u apart)) h

    hold_inside : Inside H (held_in table i l)
    unfolding held_in
    hold_inside = windows_inside hold H

    hold_within : (t : ℕ) → cover (held_in table i l) t ≤ cover l t
    hold_within t = go (dec_lt t H)
      where
        go : Dec (t < H) → cover (held_in table i l) t ≤ cover l t
        go (yes h) = omega (arith, hold_cover t h, hold_free t)
        go (no h) = omega (arith, hold_inside.over t (omega arith))

    -- if l covers the free ticks below H
    hold_ticks : i < table.servers_n → ((t : ℕ) → t < H → cover l t ≡ free_ticks table i t)
        → (t : ℕ) → t < H → cover (held_in table i l) t ≡ held_ticks table i t
    unfolding takes
    hold_ticks k free t h =
        let s = server_at table i in
        let n = table.tasks_n in
        hold_cover t h
        ∙ holding_is H s.capacity s.period (summed table i) l (works_below table i n) (free_ticks table i)
        (server_period table ok i k) apart (free_unit table i) (summed_cover table ok i n (omega arith)) free s.kind t h

  -- ---- the free and the held ticks of the server at place i

  pub free_inside : (i : ℕ) → i ≤ table.servers_n → Inside table.span (free_of table i)
  unfolding free_of cover
  free_inside zero k = record {
    apart = window_apart 0 0 H [] (omega arith) tt tt;
    over = λ t h. ap (λ (g : ℕ → ℕ). g t) (window_cover 0 H []) ∙ omega (arith, inside_late 0 H t h);
  }
  free_inside (suc i) k = windows_inside (λ t. cover (free_of table i) t - cover (held_of table i) t) H

  free_apart : (i : ℕ) → i ≤ table.servers_n → Apart 0 (free_of table i)
  free_apart i k = (free_inside i k).apart

  -- what the server at place i leaves of a tick
  free_rest : (i : ℕ) → i < table.servers_n → (t : ℕ) → t < table.span
      → cover (free_of table (suc i)) t ≡ cover (free_of table i) t - cover (held_of table i) t
  unfolding free_of
  free_rest i k t h =
      windows_below (λ u. cover (free_of table i) u - cover (held_of table i) u) H t
      (λ u. omega (arith, cover_one (free_of table i) 0 u (free_apart i (omega arith)))) h

  pub free_cover : (i : ℕ) → i ≤ table.servers_n → (t : ℕ) → t < table.span → cover (free_of table i) t ≡ free_ticks table i t
  unfolding free_of free_ticks cover
  free_cover zero k t h = ap (λ (g : ℕ → ℕ). g t) (window_cover 0 H []) ∙ omega (arith, inside_yes 0 H t (omega arith) h)
  free_cover (suc i) k t h =
      let free : (u : ℕ) → u < H → cover (free_of table i) u ≡ free_ticks table i u = free_cover i (omega arith) in
      free_rest i k t h
      ∙ ap₂ ◌-◌ (free t h) (hold_ticks i (free_of table i) (free_apart i (omega arith)) k free t h)

  pub held_inside : (i : ℕ) → i < table.servers_n → Inside table.span (held_of table i)
  held_inside i k = hold_inside i (free_of table i) (free_apart i (omega arith))

  pub held_cover : (i : ℕ) → i < table.servers_n → (t : ℕ) → t < table.span → cover (held_of table i) t ≡ held_ticks table i t
  held_cover i k = hold_ticks i (free_of table i) (free_apart i (omega arith)) k (free_cover i (omega arith))

  -- held ticks are free ticks, and the ticks that a server leaves are free below it
  pub held_free : (i : ℕ) → i < table.servers_n → (t : ℕ) → cover (held_of table i) t ≤ cover (free_of table i) t
  held_free i k t = hold_within i (free_of table i) (free_apart i (omega arith)) t

  pub free_next : (i : ℕ) → i < table.servers_n → (t : ℕ) → cover (free_of table (suc i)) t + cover (held_of table i) t ≡ cover (free_of table i) t
  free_next i k t = go (dec_lt t H)
    where
      go : Dec (t < H) → cover (free_of table (suc i)) t + cover (held_of table i) t ≡ cover (free_of table i) t
      go (yes h) = omega (arith, free_rest i k t h, held_free i k t)
      go (no h) =
          let late : H ≤ t = omega arith in
          omega (arith, (free_inside (suc i) k).over t late, (held_inside i k).over t late, (free_inside i (omega arith)).over t late)

  -- ---- the demand of the task at place j

  abbrev demand : ℕ → List ℕ
  demand j = demand_of H (task_at table j)

  task_inside : (j : ℕ) → j < table.tasks_n → Inside H (demand j)
  task_inside j h = demand_inside H (task_at table j) (task_some table ok j h)

  task_cover : (j : ℕ) → j < table.tasks_n → (t : ℕ) → t < H → cover (demand j) t ≡ smooth (gains (task_at table j)) t
  task_cover j h = demand_cover H (task_at table j) (task_some table ok j h)

  -- ---- the ticks left to the task at place j, and those in which it runs

  -- a curve l of ticks left on the server at place i: below H they are the ticks of f
  record Left (i : ℕ) (l : List ℕ) (f : ℕ → ℕ) : Type 0 where
    inside : Inside H l
    covers : (t : ℕ) → t < H → cover l t ≡ f t
    within : (t : ℕ) → cover l t ≤ cover (held_of table i) t

  -- after the task at place j has taken its ticks
  left_fitted : (i j : ℕ) → j < table.tasks_n → (l : List ℕ) (f : ℕ → ℕ) → ((t : ℕ) → f t ≤ 1) → Left i l f
      → Left i (fit (demand j) l).left (λ t. f t - done (gains (task_at table j)) f t)
  left_fitted i j h l f unit p = record {
    inside = rest_inside H (demand j) l (task_inside j h) p.inside;
    covers = rest_cover H (demand j) l (task_inside j h) p.inside (gains (task_at table j)) f unit (task_cover j h) p.covers;
    within = λ t. omega (arith, p.within t, fit_splits H (demand j) l (task_inside j h) p.inside t);
  }

  left_laws : (i : ℕ) → i < table.servers_n → (j : ℕ) → j ≤ table.tasks_n → Left i (left_below table i j) (left_ticks table i j)
  unfolding left_below left_ticks
  left_laws i k zero h = record { inside = held_inside i k; covers = held_cover i k; within = λ t. omega arith }
  left_laws i k (suc j) h = go (belongs table i j) (left_laws i k j (omega arith))
    where
      l : List ℕ
      l = left_below table i j

      f : ℕ → ℕ
      f = left_ticks table i j

      go : (b : Bool) → Left i l f → Left i (pick b (fit (demand j) l).left l) (pick b (λ t. f t - done (gains (task_at table j)) f t) f)
      go true p = left_fitted i j h l f (left_unit table i j) p
      go false p = p

  pub left_inside : (i : ℕ) → i < table.servers_n → (j : ℕ) → j ≤ table.tasks_n → Inside table.span (left_below table i j)
  left_inside i k j h = (left_laws i k j h).inside

  pub left_cover : (i : ℕ) → i < table.servers_n → (j : ℕ) → j ≤ table.tasks_n → (t : ℕ) → t < table.span → cover (left_below table i j) t ≡ left_ticks table i j t
  left_cover i k j h = (left_laws i k j h).covers

  -- the place of the task's server
  abbrev place : ℕ → ℕ
  place j = (task_at table j).server - 1

  task_place : (j : ℕ) → j < table.tasks_n → place j < table.servers_n
  task_place j h = omega (arith, (task_server table ok j h).0, (task_server table ok j h).1)

  -- what is left to the task there
  abbrev supply : ℕ → List ℕ
  supply j = left_below table (place j) j

  supply_laws : (j : ℕ) → j < table.tasks_n → Left (place j) (supply j) (left_ticks table (place j) j)
  supply_laws j h = left_laws (place j) (task_place j h) j (omega arith)

  pub running_inside : (j : ℕ) → j < table.tasks_n → Inside table.span (running_of table j)
  unfolding running_of
  running_inside j h = served_inside H (demand j) (supply j) (task_inside j h) (supply_laws j h).inside

  pub running_cover : (j : ℕ) → j < table.tasks_n → (t : ℕ) → t < table.span → cover (running_of table j) t ≡ run_ticks table j t
  unfolding running_of run_ticks
  running_cover j h =
      let p = supply_laws j h in
      served_cover H (demand j) (supply j) (task_inside j h) p.inside
      (gains (task_at table j)) (left_ticks table (place j) j) (left_unit table (place j) j) (task_cover j h) p.covers

  -- a task's running ticks lie in its server's held ticks
  pub running_held : (j : ℕ) → j < table.tasks_n → (t : ℕ) → cover (running_of table j) t ≤ cover (held_of table ((task_at table j).server - 1)) t
  unfolding running_of
  running_held j h t =
      let p = supply_laws j h in
      omega (arith, p.within t, fit_splits H (demand j) (supply j) (task_inside j h) p.inside t)
