-- The machine's servers, each as a queue: the work of its tasks, or every tick, on the ticks that the higher servers leave. Assumes
-- nothing.
use Prim.Native.Nat.{ℕ, zero, suc, ◌+◌, ◌-◌, ◌≤◌, ◌<◌, min}
use mathlib.Core.Path.{◌≡◌, refl, sym, ap, ◌∙◌}
use mathlib.Core.Bool.{true, false, true≢false}
use native.Mathlib.Omega.{arith}
use native.Mathlib.Decide.{ℕ_discrete}
use lib.ListN.{get_or}
use lib.Dec.{ltb}
use borrow.Author.Tests.{lt-ltb, ltb-false, eq-eqb, ne_eqb}
use Rattle.basics.specs.Choice.{pick}
use Rattle.windows.specs.Windows.{upto, ◌⊕◌}
use Rattle.windows.specs.Servers.{so_far, limited}
use Rattle.windows.proofs.Counts.{upto-⊕, upto_none, upto_same}
use Rattle.windows.proofs.Queue.{Serves, serves_done}
use Rattle.windows.proofs.Capacity.{held_once}
use Rattle.table.specs.declared.Kind.{Kind}
use Rattle.table.specs.declared.Kind.TheVariants.{Deferrable, Periodic}
use Rattle.table.specs.declared.Table.{Table}
use Rattle.table.specs.Places.{server_at, task_at, Obeyed}
use Rattle.table.specs.Releases.{gains}
use Rattle.machine.specs.Machine.{waits, first_task, is_periodic, may_hold, qualifies, ready, holder, runner}
use Rattle.machine.specs.Run.{state_before, holder_at, runner_at, holds, runs_in}
use Rattle.table.proofs.Places.{first_not}
use Rattle.table.proofs.Obeyed.{server_period}
use Rattle.machine.proofs.OneTick.{runner_task}
use Rattle.machine.proofs.WholeRun.{deferrable_holder_runs, work_counts, budget, budget_ready, holds_most, budget_counts}
use Rattle.schedule.specs.Curves.{belongs}
use Rattle.schedule.specs.Ticks.{nothing, works_below, wants, takes, free_ticks, held_ticks}
use Rattle.schedule.proofs.Marks.{mark_one, unmarked, unmarked_one, unmarked_behind, mark_first, passed_over}
use Rattle.schedule.proofs.AsTasks.{left, left_all, left_own, left_other, and_not, not_waits, waits_no_more}

-- ---- the work that waits for a server

-- the work that waits before tick t for the tasks below place j of the server at place i
unfoldable waits_below : Table → ℕ → ℕ → ℕ → ℕ
waits_below table i zero t = 0
waits_below table i (suc j) t = pick (belongs table i j) (waits_below table i j t + get_or (state_before table t).waiting j 0) (waits_below table i j t)

-- it is none where no task of the server waits
none_wait : (table : Table) (i t : ℕ)
    → ((j : ℕ) → j < table.tasks_n → (task_at table j).server ≡ suc i → get_or (state_before table t).waiting j 0 ≡ 0)
    → (j : ℕ) → j ≤ table.tasks_n → waits_below table i j t ≡ 0
unfolding waits_below
none_wait table i t none zero h = refl
none_wait table i t none (suc j) h = go (none_wait table i t none j (omega arith)) (ℕ_discrete (task_at table j).server (suc i))
  where
    go : waits_below table i j t ≡ 0 → Dec ((task_at table j).server ≡ suc i) → waits_below table i (suc j) t ≡ 0
    go ih (yes e) = rw (eq-eqb (task_at table j).server (suc i) e) (omega (arith, ih, none j h e))
    go ih (no e) = rw (ne_eqb (task_at table j).server (suc i) e) ih

module _ (table : Table) (ok : Obeyed table) (i : ℕ) where
  -- what a task runs in is no longer left, counted
  left_counts : (j t : ℕ) → (task_at table j).server ≡ suc i → upto (left table i j) t ≡ upto (left table i (suc j)) t + upto (runs_in table j) t
  left_counts j t e =
      upto_same (left table i j) (left table i (suc j) ⊕ runs_in table j) t (λ u k. left_own table i j u e)
      ∙ upto-⊕ (left table i (suc j)) (runs_in table j) t

  -- work that waits and ticks held are work that came and ticks left
  works_count : (j : ℕ) → j ≤ table.tasks_n → (t : ℕ)
      → waits_below table i j t + upto (holds table i) t ≡ upto (works_below table i j) t + upto (left table i j) t
  unfolding waits_below works_below
  works_count zero h t =
      omega (arith, upto_none nothing t (λ u k. refl) t (omega arith), upto_same (holds table i) (left table i 0) t (λ u k. left_all table i u))
  works_count (suc j) h t = go (works_count j (omega arith) t) (ℕ_discrete (task_at table j).server (suc i))
    where
      go : waits_below table i j t + upto (holds table i) t ≡ upto (works_below table i j) t + upto (left table i j) t
          → Dec ((task_at table j).server ≡ suc i)
          → waits_below table i (suc j) t + upto (holds table i) t ≡ upto (works_below table i (suc j)) t + upto (left table i (suc j)) t
      go ih (yes e) =
          rw (eq-eqb (task_at table j).server (suc i) e)
          (omega (arith, ih, left_counts j t e, work_counts table ok j h t, upto-⊕ (works_below table i j) (gains (task_at table j)) t))
      go ih (no e) =
          rw (ne_eqb (task_at table j).server (suc i) e)
          (ih ∙ ap (λ n. upto (works_below table i j) t + n) (upto_same (left table i j) (left table i (suc j)) t (λ u k. left_other table i j u e)))

  module _ (d : (server_at table i).kind ≡ Deferrable) where
    -- all tasks together leave nothing of what a deferrable server holds
    left_none : (t : ℕ) → left table i table.tasks_n t ≡ 0
    unfolding runner
    left_none t = go (ℕ_discrete (holds table i t) 1)
      where
        some : (r : ℕ) → runner_at table t ≡ r → 0 < r → unmarked r table.tasks_n ≡ 0
        some zero e k = absurd (omega arith)
        some (suc j) e k = unmarked_behind j table.tasks_n (runner_task table (ready table (state_before table t)) (holder_at table t) j e)

        go : Dec (holds table i t ≡ 1) → left table i table.tasks_n t ≡ 0
        go (yes q) = omega (arith, some (runner_at table t) refl (deferrable_holder_runs table t i q d))
        go (no q) = omega (arith, mark_one (holder_at table t) i)

    -- its work that came is the work that waits and the ticks it held
    deferrable_count : (t : ℕ) → waits_below table i table.tasks_n t + upto (holds table i) t ≡ upto (works_below table i table.tasks_n) t
    deferrable_count t =
        omega (arith, works_count table.tasks_n (omega arith) t, upto_none (left table i table.tasks_n) t (λ u k. left_none u) t (omega arith))

-- ---- each server is a queue on what the higher ones leave, as long as its budget lasts

-- where it could hold and does not (h is 1 if it holds, f if no higher one does, b its budget, s what it spent), it has budget left
free_waits : (h f b C s : ℕ) → h ≤ 1 → f ≤ 1 → b + s ≡ C → h < min f (C - s) → (f ≡ 1) × ((h ≡ 0) × (0 < b))
free_waits h f b C s p q e k = (omega arith, (omega arith, omega arith))

-- a server with budget that may not hold is deferrable, and has no task that waits
not_may_hold : (b : ℕ) (kind : Kind) (first : ℕ) → may_hold b kind first ≡ false → 0 < b → (kind ≡ Deferrable) × (first ≡ 0)
not_may_hold b Deferrable first e k =
    let z = ltb-false 0 first (and_not (ltb 0 b) (ltb 0 first) e (lt-ltb 0 b k)) in
    (refl, omega (arith, z))
not_may_hold b Periodic first e k = absurd (true≢false (and_not (ltb 0 b) true e (lt-ltb 0 b k)))

module _ (table : Table) where
  -- the ticks that no server below place i holds
  abbrev pub free : ℕ → ℕ → ℕ
  free i t = unmarked (holder_at table t) i

module _ (table : Table) (ok : Obeyed table) (i : ℕ) (h : i < table.servers_n) where
  -- its capacity
  abbrev C : ℕ
  C = (server_at table i).capacity

  -- its period
  abbrev T : ℕ
  T = (server_at table i).period

  -- the work of all its tasks
  abbrev works : ℕ → ℕ
  works = works_below table i table.tasks_n

  -- the ticks that it could hold: no higher server holds them, and its budget lasts
  abbrev could : ℕ → ℕ
  could = limited C T (free table i) (holds table i)

  -- it holds no others
  held_could : (t : ℕ) → holds table i t ≤ could t
  held_could t = omega (arith, mark_first (holder_at table t) i, holds_most table ok i h t, budget_counts table ok i h t)

  -- where it could hold and does not, it is deferrable and none of its tasks waits
  not_held : (t : ℕ) → holds table i t < could t
      → ((server_at table i).kind ≡ Deferrable) × (first_task table (ready table (state_before table t)) (suc i) ≡ 0)
  unfolding holder
  not_held t k =
      let s = ready table (state_before table t) in
      let f =
      free_waits (holds table i t) (free table i t) (budget table ok i h t) C (so_far T (holds table i) t) (mark_one (holder_at table t) i)
      (unmarked_one (holder_at table t) i) (budget_counts table ok i h t) k in
      not_may_hold (get_or s.budgets i 0) (server_at table i).kind (first_task table s (suc i))
      (passed_over (qualifies table s) table.servers_n (holder_at table t) i refl h f.0 f.1.0)
      (omega (arith, f.1.1, budget_ready table ok i h t))

  -- so no work waits for it behind that tick
  none_behind : (t : ℕ) → first_task table (ready table (state_before table t)) (suc i) ≡ 0 → waits_below table i table.tasks_n (suc t) ≡ 0
  none_behind t e =
      let s = ready table (state_before table t) in
      none_wait table i (suc t)
      (λ j k q. waits_no_more table ok j k t
      (not_waits table s (suc i) j (first_not (waits table s (suc i)) table.tasks_n 0 e j (omega arith) (omega arith)) q))
      table.tasks_n (omega arith)

  -- it never holds more ticks than it wants
  held_causal : (k : Kind) → (server_at table i).kind ≡ k → (t : ℕ) → upto (holds table i) t ≤ upto (wants k works) t
  unfolding upto
  held_causal Deferrable d t = omega (arith, deferrable_count table ok i d t)
  held_causal Periodic d zero = omega arith
  held_causal Periodic d (suc t) = omega (arith, held_causal Periodic d t, mark_one (holder_at table t) i)

  -- where it could hold and does not, all its work is done
  held_busy : (k : Kind) → (server_at table i).kind ≡ k → (t : ℕ) → holds table i t < could t
      → upto (holds table i) (suc t) ≡ upto (wants k works) (suc t)
  held_busy Deferrable d t k = omega (arith, deferrable_count table ok i d (suc t), none_behind t (not_held t k).1)
  held_busy Periodic d t k = absurd (differ (sym d ∙ (not_held t k).0))
    where
      differ : Periodic ≡ Deferrable → ⊥
      differ e = true≢false (ap is_periodic e)

  -- it holds the earliest ticks that it could
  held_serves : Serves (wants (server_at table i).kind works) could (holds table i)
  held_serves =
      record { within = held_could; causal = held_causal (server_at table i).kind refl; busy = held_busy (server_at table i).kind refl }

  -- and those are the ones that the server takes
  pub takes_same : takes table i (free table i) ≡ holds table i
  unfolding takes
  takes_same =
      let x = wants (server_at table i).kind works in
      sym (held_once C T x (free table i) (server_period table ok i h) (holds table i) (serves_done x could (holds table i) held_serves))

-- ---- what is free, server by server

module _ (table : Table) (ok : Obeyed table) where
  -- the ticks that are free are those that no higher server of the machine holds
  pub free_same : (i : ℕ) → i ≤ table.servers_n → free_ticks table i ≡ free table i
  unfolding free_ticks unmarked
  free_same zero h = refl
  free_same (suc i) h =
      ap (λ (f : ℕ → ℕ). λ t. f t - takes table i f t) (free_same i (omega arith))
      ∙ ap (λ (f : ℕ → ℕ). λ t. free table i t - f t) (takes_same table ok i h)

  -- the ticks that a server takes are those that it holds
  pub held_same : (i : ℕ) → i < table.servers_n → held_ticks table i ≡ holds table i
  held_same i h = ap (takes table i) (free_same i (omega arith)) ∙ takes_same table ok i h
