-- A step, from what its parts answer. Assumes nothing.
use Prim.Native.Nat.{ℕ, zero, suc, ◌≤◌, ◌<◌}
use mathlib.Core.Path.{◌≡◌, refl, sym, ◌∙◌}
use mathlib.Core.List.{List}
use mathlib.Core.Bool.{true}
use native.Mathlib.Omega.{arith}
use lib.ListN.{length, get_or}
use lib.Dec.{ltb}
use borrow.Author.Tests.{ltb-true, ltb-false, le-ltb}
use Rattle.basics.proofs.Tests.{and_left, and_right}
use Rattle.table.specs.Rules.{obeys}
use Rattle.table.specs.declared.Table.{Table}
use Rattle.machine.specs.declared.State.{State}
use Rattle.table.specs.Places.{server_at, none_of, Obeyed}
use Rattle.machine.specs.Machine.{holder_of, runner_of, spends, runs, ready, holder, runner, later, next, over_budget, over_work, accepts, stepped}
use Rattle.machine.specs.Parts.{Firsts, entry_of, Has}
use Rattle.table.proofs.Places.{none_at, none_of_lem}
use Rattle.table.proofs.Obeyed.{obeyed_of, servers_most, tasks_most}
use Rattle.machine.proofs.OneTick.{Full, next_budget, refilled_most, holder_server, holder_budget, runner_task, runner_work}

-- ---- what a step that is not refused shows

module _ (table : Table) (s : State) (e : accepts table s ≡ true) where
  pub accepted_rules : obeys table ≡ true
  unfolding accepts
  accepted_rules = and_left (obeys table) _ e

  pub accepted_tick : s.tick < table.span
  unfolding accepts
  accepted_tick = ltb-true s.tick table.span (and_left (ltb s.tick table.span) _ (and_right (obeys table) _ e))

  within : (none_of (over_budget table s) table.servers_n ≡ true) × (none_of (over_work s) table.tasks_n ≡ true)
  unfolding accepts
  within =
      let h = and_right (ltb s.tick table.span) _ (and_right (obeys table) _ e) in
      (and_left (none_of (over_budget table s) table.servers_n) _ h, and_right (none_of (over_budget table s) table.servers_n) _ h)

  pub accepted_budgets : none_of (over_budget table s) table.servers_n ≡ true
  accepted_budgets = within.0

  pub accepted_work : none_of (over_work s) table.tasks_n ≡ true
  accepted_work = within.1

  -- arrays of 16 and 64 hold what is counted
  pub accepted_obeyed : length table.servers ≡ 16 → length table.tasks ≡ 64 → Obeyed table
  accepted_obeyed p q = obeyed_of table accepted_rules p q

-- ---- the holder and the runner have what they lose

module _ (table : Table) (ok : Obeyed table) (s : State) where
  pub holder_most : (h : ℕ) → h ≡ holder_of table s → h ≤ 16
  holder_most zero e = omega arith
  holder_most (suc i) e = omega (arith, holder_server table s i (sym e), servers_most table ok)

  pub holder_has : (h : ℕ) → h ≡ holder_of table s → Has s.budgets h
  holder_has h e i d = holder_budget table s i (sym e ∙ d)

  -- the runner is the first task noted for the holder
  pub first_runs : (firsts : List ℕ) (h : ℕ) → Firsts table s firsts → h ≤ 16 → entry_of firsts h ≡ runner_of table s h
  first_runs firsts zero f l = refl
  first_runs firsts (suc i) f l = f i l

  pub runner_most : (h k : ℕ) → k ≡ runner_of table s h → k ≤ 64
  runner_most h zero e = omega arith
  runner_most h (suc j) e = omega (arith, runner_task table s h j (sym e), tasks_most table ok)

  pub runner_has : (h k : ℕ) → k ≡ runner_of table s h → Has s.waiting k
  runner_has h k e j d = runner_work table s h j (sym e ∙ d)

-- ---- the whole step

pub step_goes : (table : Table) (s r : State) (h k : ℕ) → r ≡ ready table s → h ≡ holder_of table r → k ≡ runner_of table r h
    → record { next = later (runs k (spends h r)); holder = h; runner = k } ≡ stepped table s
unfolding next holder runner
step_goes table s r h k b c d = rw (d, c, b)

-- from a state that the step accepts, budgets stay at most C
module _ (table : Table) (ok : Obeyed table) (s : State) (full : Full table s) (e : accepts table s ≡ true) where
  budget_stays : (i : ℕ) → i < table.servers_n → get_or (next table s).budgets i 0 ≤ (server_at table i).capacity
  budget_stays i h =
      let b = get_or s.budgets i 0 in
      let before : b ≤ (server_at table i).capacity = ltb-false _ b (none_at (over_budget table s) table.servers_n (accepted_budgets table s e) i h) in
      omega (arith, next_budget table ok s full i h, refilled_most s.tick (server_at table i) b before)

  pub budgets_stay : none_of (over_budget table (next table s)) table.servers_n ≡ true
  budgets_stay =
      none_of_lem (over_budget table (next table s)) table.servers_n
      (λ i h. le-ltb (server_at table i).capacity (get_or (next table s).budgets i 0) (budget_stays i h))
