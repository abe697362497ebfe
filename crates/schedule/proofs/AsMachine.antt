-- The queues of a table are the machine's ticks. Assumes nothing.
use Prim.Native.Nat.{ℕ, suc, ◌-◌, ◌<◌}
use mathlib.Core.Path.{◌≡◌, sym, ap, ◌∙◌}
use native.Mathlib.Omega.{arith}
use Rattle.windows.specs.Windows.{done}
use Rattle.table.specs.declared.Table.{Table}
use Rattle.table.specs.Places.{task_at, Obeyed}
use Rattle.table.specs.Releases.{gains}
use Rattle.machine.specs.Run.{holds, runs_in}
use Rattle.table.proofs.Obeyed.{task_server}
use Rattle.schedule.specs.Ticks.{held_ticks, run_ticks}
use Rattle.schedule.proofs.AsTasks.{left_same, run_done}
use Rattle.schedule.proofs.AsServers.{held_same}

module _ (table : Table) (ok : Obeyed table) where
  -- server by server, the ticks held are those that the machine's server holds
  pub held_is_machine : (i : ℕ) → i < table.servers_n → (t : ℕ) → held_ticks table i t ≡ holds table i t
  held_is_machine i h t = ap (λ (f : ℕ → ℕ). f t) (held_same table ok i h)

  -- the same of a task whose server is at place i, as an equation of functions
  run_same : (j i : ℕ) → j < table.tasks_n → i < table.servers_n → (task_at table j).server ≡ suc i → (task_at table j).server - 1 ≡ i
      → run_ticks table j ≡ runs_in table j
  unfolding run_ticks
  run_same j i h k e p =
      let l = left_same table ok i (held_same table ok i k) j (omega arith) in
      rw p (ap (done (gains (task_at table j))) l ∙ sym (run_done table ok j h i e))

  -- task by task, the ticks run in are those in which the machine's task runs
  pub run_is_machine : (j : ℕ) → j < table.tasks_n → (t : ℕ) → run_ticks table j t ≡ runs_in table j t
  run_is_machine j h t =
      let i = (task_at table j).server - 1 in
      let s = task_server table ok j h in
      ap (λ (f : ℕ → ℕ). f t) (run_same j i h (omega (arith, s.0, s.1)) (omega (arith, s.0)) (omega arith))
