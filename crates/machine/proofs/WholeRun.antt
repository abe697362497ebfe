-- The run of the machine: what holds at every tick. Assumes nothing.
use Prim.Native.Nat.{ℕ, zero, suc, ◌+◌, ◌-◌, ◌*◌, ◌%◌, ◌≤◌, ◌<◌}
use mathlib.Core.Path.{◌≡◌, refl, ap, ◌∙◌}
use mathlib.Core.Bool.{Bool, true, false}
use native.Mathlib.Nat.{zero-mod, mod-eq_of_lt, mul-add-mod_self_right}
use native.Mathlib.Omega.{arith}
use native.Mathlib.Decide.{ℕ_discrete}
use lib.ListN.{get_or, get_or-replicate}
use lib.Dec.{eqb}
use borrow.Author.Tests.{lt-ltb, le-ltb, eq-eqb, ne_eqb, eqb-true}
use Rattle.std.specs.Prelude.{Ok}
use Rattle.basics.specs.Choice.{pick}
use Rattle.windows.specs.Windows.{upto}
use Rattle.windows.specs.Servers.{so_far}
use Rattle.windows.proofs.Capacity.{so_far_first, so_far_next}
use Rattle.table.specs.declared.Kind.TheVariants.{Deferrable}
use Rattle.table.specs.declared.Server.{Server}
use Rattle.table.specs.declared.Table.{Table}
use Rattle.table.specs.Places.{server_at, task_at, none_of, Obeyed}
use Rattle.machine.specs.Machine.{refilled, ready, holder, runner, next, over_budget, over_work, accepts, step_of}
use Rattle.table.specs.Releases.{gains}
use Rattle.machine.specs.Run.{state_before, holder_at, runner_at, holds, runs_in}
use Rattle.table.proofs.Places.{none_of_lem}
use Rattle.table.proofs.Obeyed.{servers_most, tasks_most, span_most, server_period, task_work, gains_most}
use Rattle.machine.proofs.OneTick.{Full, ready_budget, ready_waiting, next_budget, next_waiting, next_full, holder_budget, deferrable_runs, runner_server, runner_work}

-- ---- the mark of a place: 1 where the number is its own

abbrev pub mark : ℕ → ℕ → ℕ
mark n i = pick (eqb n (suc i)) 1 0

pub is_marked : (n i : ℕ) → mark n i ≡ 1 → n ≡ suc i
is_marked n i e = go (eqb n (suc i)) refl e
  where
    go : (b : Bool) → eqb n (suc i) ≡ b → pick {A = ℕ} b 1 0 ≡ 1 → n ≡ suc i
    go true q d = eqb-true n (suc i) q
    go false q d = absurd (omega (arith, d))

pub mark_most : (n i b : ℕ) → (n ≡ suc i → 0 < b) → mark n i ≤ b
mark_most n i b h = go (eqb n (suc i)) refl
  where
    go : (c : Bool) → eqb n (suc i) ≡ c → pick c 1 0 ≤ b
    go true q = h (eqb-true n (suc i) q)
    go false q = omega arith

-- ---- periods

-- the budget with which a tick is entered: C where a period begins, and the one before it elsewhere
module _ (t : ℕ) (server : Server) (budget : ℕ) where
  refilled_first : t % server.period ≡ 0 → refilled t server budget ≡ server.capacity
  refilled_first e = rw (eq-eqb (t % server.period) 0 e)

  refilled_inside : ¬ (t % server.period ≡ 0) → refilled t server budget ≡ budget
  refilled_inside e = rw (ne_eqb (t % server.period) 0 e)

-- the period that tick k * T + n lies in began at k * T
so_far_of : (T : ℕ) (r : ℕ → ℕ) (k n : ℕ) → n < T → so_far T r (k * T + n) ≡ upto r (k * T + n) - upto r (k * T)
so_far_of T r k n h =
    let e : (k * T + n) % T ≡ n = mul-add-mod_self_right k T n ∙ mod-eq_of_lt h in
    let b : (k * T + n) - (k * T + n) % T ≡ k * T = omega (arith, e) in
    ap (λ u. upto r (k * T + n) - upto r u) b

-- ---- each tick

module _ (table : Table) where
  -- a tick has at most one holder
  pub one_holder : (t i k : ℕ) → holds table i t ≡ 1 → holds table k t ≡ 1 → i ≡ k
  one_holder t i k d e = omega (arith, is_marked (holder_at table t) i d, is_marked (holder_at table t) k e)

  -- the runner is a task of the holder
  pub runner_of_holder : (t j : ℕ) → runs_in table j t ≡ 1 → (task_at table j).server ≡ holder_at table t
  unfolding runner
  runner_of_holder t j e = runner_server table (ready table (state_before table t)) (holder_at table t) j (is_marked (runner_at table t) j e)

  -- a deferrable server that holds a tick has a runner
  pub deferrable_holder_runs : (t i : ℕ) → holds table i t ≡ 1 → (server_at table i).kind ≡ Deferrable → 0 < runner_at table t
  unfolding holder runner
  deferrable_holder_runs t i e k = deferrable_runs table (ready table (state_before table t)) i (is_marked (holder_at table t) i e) k

  pub tick_before : (t : ℕ) → (state_before table t).tick ≡ t
  unfolding state_before next ready
  tick_before zero = refl
  tick_before (suc t) = omega (arith, tick_before t)

module _ (table : Table) (ok : Obeyed table) where
  pub full_before : (t : ℕ) → Full table (state_before table t)
  unfolding state_before
  full_before zero = record { budgets = servers_most table ok; waiting = tasks_most table ok }
  full_before (suc t) = next_full table ok (state_before table t) (full_before t)

  -- ---- each task
  module _ (j : ℕ) (h : j < table.tasks_n) where
    waiting_first : get_or (state_before table 0).waiting j 0 ≡ 0
    unfolding state_before
    waiting_first = get_or-replicate 64 j 0 0 (omega (arith, tasks_most table ok))

    -- the work with which tick t is entered
    abbrev work : ℕ → ℕ
    work t = get_or (state_before table t).waiting j 0 + gains (task_at table j) t

    pub work_ready : (t : ℕ) → get_or (ready table (state_before table t)).waiting j 0 ≡ work t
    work_ready t =
        ready_waiting table ok (state_before table t) (full_before t) j h
        ∙ ap (λ u. get_or (state_before table t).waiting j 0 + gains (task_at table j) u) (tick_before table t)

    pub waiting_next : (t : ℕ) → get_or (state_before table (suc t)).waiting j 0 ≡ work t - runs_in table j t
    unfolding state_before
    waiting_next t =
        next_waiting table ok (state_before table t) (full_before t) j h
        ∙ ap (λ u. (get_or (state_before table t).waiting j 0 + gains (task_at table j) u) - runs_in table j t) (tick_before table t)

    runs_most : (t : ℕ) → runs_in table j t ≤ work t
    unfolding runner
    runs_most t = mark_most (runner_at table t) j (work t) (λ e. omega (arith, work_ready t, runner_work table (ready table (state_before table t)) (holder_at table t) j e))

    -- work waiting plus work run is work released
    pub work_counts : (t : ℕ) → get_or (state_before table t).waiting j 0 + upto (runs_in table j) t ≡ upto (gains (task_at table j)) t
    unfolding upto
    work_counts zero = omega (arith, waiting_first)
    work_counts (suc t) = omega (arith, work_counts t, waiting_next t, runs_most t)

    -- at most one release a tick, of at most 16,000
    pub waiting_most : (t : ℕ) → get_or (state_before table t).waiting j 0 ≤ t * 16000
    waiting_most zero = omega (arith, waiting_first)
    waiting_most (suc t) = omega (arith, waiting_most t, waiting_next t, gains_most (task_at table j) t, task_work table ok j h)

  -- ---- each server
  module _ (i : ℕ) (h : i < table.servers_n) where
    abbrev server : Server
    server = server_at table i

    -- the budget with which tick t is entered
    abbrev pub budget : ℕ → ℕ
    budget t = refilled t server (get_or (state_before table t).budgets i 0)

    pub budget_ready : (t : ℕ) → get_or (ready table (state_before table t)).budgets i 0 ≡ budget t
    budget_ready t =
        ready_budget table ok (state_before table t) (full_before t) i h
        ∙ ap (λ u. refilled u server (get_or (state_before table t).budgets i 0)) (tick_before table t)

    budget_next : (t : ℕ) → get_or (state_before table (suc t)).budgets i 0 ≡ budget t - holds table i t
    unfolding state_before
    budget_next t =
        next_budget table ok (state_before table t) (full_before t) i h
        ∙ ap (λ u. refilled u server (get_or (state_before table t).budgets i 0) - holds table i t) (tick_before table t)

    pub holds_most : (t : ℕ) → holds table i t ≤ budget t
    unfolding holder
    holds_most t = mark_most (holder_at table t) i (budget t) (λ e. omega (arith, budget_ready t, holder_budget table (ready table (state_before table t)) i e))

    -- the count, at the first tick of a period and from one tick to the next of the same period
    counts_first : (t : ℕ) → t % server.period ≡ 0 → budget t + so_far server.period (holds table i) t ≡ server.capacity
    counts_first t e =
        let k = refilled_first t server (get_or (state_before table t).budgets i 0) e in
        omega (arith, k, so_far_first server.period (holds table i) (server_period table ok i h) t e)

    counts_next : (t : ℕ) → ¬ (suc t % server.period ≡ 0) → budget t + so_far server.period (holds table i) t ≡ server.capacity
        → budget (suc t) + so_far server.period (holds table i) (suc t) ≡ server.capacity
    counts_next t e before =
        let k = refilled_inside (suc t) server (get_or (state_before table (suc t)).budgets i 0) e ∙ budget_next t in
        omega (arith, before, k, holds_most t, so_far_next server.period (holds table i) (server_period table ok i h) t e)

    -- the budget with which tick t is entered, and the ticks held since its period began, are the capacity
    pub budget_counts : (t : ℕ) → refilled t (server_at table i) (get_or (state_before table t).budgets i 0) + so_far (server_at table i).period (holds table i) t ≡ (server_at table i).capacity
    budget_counts zero = counts_first 0 (zero-mod server.period)
    budget_counts (suc t) = go (budget_counts t) (ℕ_discrete (suc t % server.period) 0)
      where
        go : budget t + so_far server.period (holds table i) t ≡ server.capacity → Dec (suc t % server.period ≡ 0)
            → budget (suc t) + so_far server.period (holds table i) (suc t) ≡ server.capacity
        go ih (yes e) = counts_first (suc t) e
        go ih (no e) = counts_next t e ih

    pub budget_most : (t : ℕ) → get_or (state_before table t).budgets i 0 ≤ (server_at table i).capacity
    unfolding state_before
    budget_most zero = omega (arith, get_or-replicate {A = ℕ} 16 i 0 0 (omega (arith, servers_most table ok)))
    budget_most (suc t) = omega (arith, budget_next t, budget_counts t)

    -- a server holds at most C ticks in each of its periods
    pub period_holds : (k n : ℕ) → n ≤ (server_at table i).period
        → upto (holds table i) (k * (server_at table i).period + n) ≤ upto (holds table i) (k * (server_at table i).period) + (server_at table i).capacity
    unfolding upto
    period_holds k zero m = let e : k * server.period + 0 ≡ k * server.period = omega arith in rw e (omega arith)
    period_holds k (suc n) m =
        let t = k * server.period + n in
        let e : k * server.period + suc n ≡ suc t = omega arith in
        rw e (omega (arith, holds_most t, budget_counts t, so_far_of server.period (holds table i) k n m))

  -- ---- no step of the run before H is refused
  budgets_fit : (t : ℕ) → none_of (over_budget table (state_before table t)) table.servers_n ≡ true
  budgets_fit t =
      none_of_lem (over_budget table (state_before table t)) table.servers_n
      (λ i h. le-ltb (server_at table i).capacity (get_or (state_before table t).budgets i 0) (budget_most i h t))

  work_fits : (t : ℕ) → t ≤ 16000 → none_of (over_work (state_before table t)) table.tasks_n ≡ true
  work_fits t k =
      none_of_lem (over_work (state_before table t)) table.tasks_n
      (λ j h. le-ltb 300000000 (get_or (state_before table t).waiting j 0) (omega (arith, waiting_most j h t)))

  pub run_accepts : (t : ℕ) → t < table.span → accepts table (state_before table t) ≡ true
  unfolding accepts
  run_accepts t h =
      let k = lt-ltb (state_before table t).tick table.span (omega (arith, tick_before table t)) in
      rw (ok.rules, k, budgets_fit t, work_fits t (omega (arith, span_most table ok)))

  pub run_steps : (t : ℕ) → t < table.span
      → step_of table (state_before table t) ≡ Ok (record { next = state_before table (suc t); holder = holder_at table t; runner = runner_at table t })
  unfolding step_of state_before
  run_steps t h = rw (run_accepts t h)
