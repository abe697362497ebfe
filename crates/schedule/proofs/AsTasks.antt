-- The machine's tasks, each as a queue: its work, on the ticks that the tasks before it leave of those that its server holds. Assumes
-- nothing.
use Prim.Native.Nat.{ℕ, zero, suc, ◌+◌, ◌-◌, ◌≤◌, ◌<◌, min}
use mathlib.Core.Path.{◌≡◌, sym, ap, ◌∙◌, fun_ext}
use mathlib.Core.Bool.{Bool, true, false, ◌&&◌}
use native.Mathlib.Omega.{arith}
use native.Mathlib.Decide.{ℕ_discrete}
use lib.ListN.{get_or}
use lib.Dec.{ltb, eqb}
use borrow.Author.Tests.{ltb-false, eq-eqb, ne_eqb}
use Rattle.windows.specs.Windows.{upto, done}
use Rattle.windows.proofs.Queue.{Serves, serves_done}
use Rattle.table.specs.declared.Table.{Table}
use Rattle.machine.specs.declared.State.{State}
use Rattle.table.specs.Places.{task_at, Obeyed}
use Rattle.table.specs.Releases.{gains}
use Rattle.machine.specs.Machine.{waits, first_task, runner_of, ready, runner}
use Rattle.machine.specs.Run.{state_before, holder_at, runner_at, holds, runs_in}
use Rattle.machine.proofs.WholeRun.{is_marked, mark_most, runner_of_holder, work_ready, waiting_next, work_counts}
use Rattle.schedule.specs.Ticks.{held_ticks, left_ticks}
use Rattle.schedule.proofs.Marks.{mark_own, mark_other, mark_one, unmarked, unmarked_one, mark_first, passed_over}

-- ---- one tick: h is 1 if the server holds it, u if no task before this one runs in it, and m if this one does

-- a task of the server takes its tick from what is left
left_less : (h u m : ℕ) → h ≤ 1 → u ≤ 1 → m ≤ h → m ≤ u → min h u ≡ min h (u - m) + m
left_less h u m a b c d = omega arith

-- a task of another server takes nothing
left_keeps : (h u m : ℕ) → u ≤ 1 → h + m ≤ 1 → min h u ≡ min h (u - m)
left_keeps h u m a b = omega arith

-- where a task does not run in a tick left to it, the server holds the tick and no task up to this one runs
left_waits : (h u m : ℕ) → h ≤ 1 → u ≤ 1 → m < min h u → (h ≡ 1) × ((u ≡ 1) × (m ≡ 0))
left_waits h u m a b c = (omega arith, (omega arith, omega arith))

-- ---- what the tasks below place j leave of the ticks of the server at place i

module _ (table : Table) where
  -- 1 where that server holds the tick and none of the tasks below place j runs in it
  abbrev pub left : ℕ → ℕ → ℕ → ℕ
  left i j t = min (holds table i t) (unmarked (runner_at table t) j)

  -- a task runs only where its server holds
  runs_held : (i j t : ℕ) → (task_at table j).server ≡ suc i → runs_in table j t ≤ holds table i t
  runs_held i j t e = mark_most (runner_at table t) j (holds table i t) (λ q. one (mark_own (runner_at table t) j q))
    where
      one : runs_in table j t ≡ 1 → 0 < holds table i t
      one q = omega (arith, mark_own (holder_at table t) i (sym (runner_of_holder table t j q) ∙ e))

  -- and not where another server holds
  runs_not_held : (i j t : ℕ) → ¬ ((task_at table j).server ≡ suc i) → holds table i t + runs_in table j t ≤ 1
  runs_not_held i j t h = go (ℕ_discrete (runs_in table j t) 1)
    where
      go : Dec (runs_in table j t ≡ 1) → holds table i t + runs_in table j t ≤ 1
      go (yes q) = omega (arith, q, mark_other (holder_at table t) i (λ e. h (runner_of_holder table t j q ∙ e)))
      go (no q) = omega (arith, mark_one (runner_at table t) j, mark_one (holder_at table t) i)

  -- with no task looked at, all that is held is left
  pub left_all : (i t : ℕ) → holds table i t ≡ left i 0 t
  unfolding unmarked
  left_all i t = omega (arith, mark_one (holder_at table t) i)

  -- a task of the server at place i leaves what it does not run in
  pub left_own : (i j t : ℕ) → (task_at table j).server ≡ suc i → left i j t ≡ left i (suc j) t + runs_in table j t
  unfolding unmarked
  left_own i j t e =
      left_less (holds table i t) (unmarked (runner_at table t) j) (runs_in table j t) (mark_one (holder_at table t) i)
      (unmarked_one (runner_at table t) j) (runs_held i j t e) (mark_first (runner_at table t) j)

  -- any other leaves all
  pub left_other : (i j t : ℕ) → ¬ ((task_at table j).server ≡ suc i) → left i j t ≡ left i (suc j) t
  unfolding unmarked
  left_other i j t h =
      left_keeps (holds table i t) (unmarked (runner_at table t) j) (runs_in table j t) (unmarked_one (runner_at table t) j) (runs_not_held i j t h)

-- ---- each task is a queue on what is left to it

-- a test of two parts that fails, though the first part is passed
pub and_not : (a b : Bool) → (a && b) ≡ false → a ≡ true → b ≡ false
and_not true b e q = e
and_not false b e q = cc

-- a task of the server that fails the test of waiting has no waiting work
pub not_waits : (table : Table) (s : State) (n j : ℕ) → waits table s n j ≡ false → (task_at table j).server ≡ n → get_or s.waiting j 0 ≡ 0
not_waits table s n j w e =
    let own = eq-eqb (task_at table j).server n e in
    let z = and_not (eqb (task_at table j).server n) (ltb 0 (get_or s.waiting j 0)) w own in
    omega (arith, ltb-false 0 (get_or s.waiting j 0) z)

module _ (table : Table) (ok : Obeyed table) (j : ℕ) (h : j < table.tasks_n) where
  -- a task whose work is none as the tick begins has none behind it
  pub waits_no_more : (t : ℕ) → get_or (ready table (state_before table t)).waiting j 0 ≡ 0 → get_or (state_before table (suc t)).waiting j 0 ≡ 0
  waits_no_more t e = omega (arith, e, work_ready table ok j h t, waiting_next table ok j h t)

  module _ (i : ℕ) (own : (task_at table j).server ≡ suc i) where
    -- where its server holds, and no task up to it runs, it has no work
    idle_waits : (t : ℕ) → holds table i t ≡ 1 → unmarked (runner_at table t) j ≡ 1 → runs_in table j t ≡ 0
        → get_or (ready table (state_before table t)).waiting j 0 ≡ 0
    unfolding runner
    idle_waits t q u m =
        let s = ready table (state_before table t) in
        let e : first_task table s (suc i) ≡ runner_at table t = ap (runner_of table s) (sym (is_marked (holder_at table t) i q)) in
        not_waits table s (suc i) j (passed_over (waits table s (suc i)) table.tasks_n (runner_at table t) j e h u m) own

    -- so all its work is done then
    idle_done : (t : ℕ) → runs_in table j t < left table i j t → upto (runs_in table j) (suc t) ≡ upto (gains (task_at table j)) (suc t)
    idle_done t k =
        let f =
        left_waits (holds table i t) (unmarked (runner_at table t) j) (runs_in table j t) (mark_one (holder_at table t) i)
        (unmarked_one (runner_at table t) j) k in
        omega (arith, work_counts table ok j h (suc t), waits_no_more t (idle_waits t f.0 f.1.0 f.1.1))

    -- it runs at the earliest ticks left to it
    run_serves : Serves (gains (task_at table j)) (left table i j) (runs_in table j)
    run_serves =
        record {
          within = λ t. omega (arith, runs_held table i j t own, mark_first (runner_at table t) j);
          causal = λ t. omega (arith, work_counts table ok j h t);
          busy = idle_done;
        }

    -- and that is what a queue does
    pub run_done : runs_in table j ≡ done (gains (task_at table j)) (left table i j)
    run_done = serves_done (gains (task_at table j)) (left table i j) (runs_in table j) run_serves

-- ---- what is left, task by task

module _ (table : Table) (ok : Obeyed table) (i : ℕ) (held : held_ticks table i ≡ holds table i) where
  -- where the ticks held are the machine's, so are those that are left
  pub left_same : (j : ℕ) → j ≤ table.tasks_n → left_ticks table i j ≡ left table i j
  unfolding left_ticks
  left_same zero h = held ∙ fun_ext (λ t. left_all table i t)
  left_same (suc j) h = go (left_same j (omega arith)) (ℕ_discrete (task_at table j).server (suc i))
    where
      go : left_ticks table i j ≡ left table i j → Dec ((task_at table j).server ≡ suc i) → left_ticks table i (suc j) ≡ left table i (suc j)
      go ih (yes e) =
          rw (eq-eqb (task_at table j).server (suc i) e, ih, ← run_done table ok j h i e)
          (fun_ext (λ t. omega (arith, left_own table i j t e)))
      go ih (no e) = rw (ne_eqb (task_at table j).server (suc i) e) (ih ∙ fun_ext (λ t. left_other table i j t e))
