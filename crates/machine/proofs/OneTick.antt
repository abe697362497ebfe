-- One tick of the machine, entry by entry. Assumes nothing.
use Prim.Native.Nat.{ℕ, zero, suc, ◌+◌, ◌-◌, ◌%◌, ◌≤◌, ◌<◌}
use mathlib.Core.Path.{◌≡◌, refl, sym, ap, ◌∙◌}
use mathlib.Core.List.{List}
use mathlib.Core.Bool.{Bool, true, false, ◌||◌}
use native.Mathlib.Omega.{arith}
use lib.ListN.{length, get_or, take}
use lib.Seq.{get_or-take, length-take-le, get_or-set_other}
use lib.Dec.{ltb, eqb}
use borrow.Author.Tests.{ltb-true, eqb-true}
use Rattle.basics.specs.Choice.{pick}
use Rattle.basics.proofs.Tests.{and_left, and_right}
use Rattle.table.specs.Rules.{no_server, no_task, servers_of, tasks_of}
use Rattle.table.specs.declared.Kind.{Kind}
use Rattle.table.specs.declared.Kind.TheVariants.{Deferrable}
use Rattle.table.specs.declared.Server.{Server}
use Rattle.table.specs.declared.Table.{Table}
use Rattle.machine.specs.declared.State.{State}
use Rattle.table.specs.Places.{server_at, task_at, Obeyed}
use Rattle.machine.specs.Machine.{along, refilled, gained, waits, first_task, is_periodic, qualifies, holder_of, runner_of, one_less, ready, holder, runner, next}
use Rattle.table.specs.Releases.{gains}
use Rattle.table.proofs.Places.{First, first_is}
use Rattle.machine.proofs.Beside.{along_length, along_at, along_beyond, less_length, less_at}

-- a state that has an entry for each server and task of the table
pub record Full (table : Table) (s : State) : Type 0 where
  pub budgets : table.servers_n ≤ length s.budgets
  pub waiting : table.tasks_n ≤ length s.waiting

-- an entry that is not the number's does not change
less_other : (l : List ℕ) (n i : ℕ) → ¬ (n ≡ suc i) → get_or (one_less l n) i 0 ≡ get_or l i 0
less_other l zero i h = refl
less_other l (suc m) i h = get_or-set_other l m i (get_or l m 0 - 1) 0 (λ e. h (ap suc (sym e)))

-- a refill keeps a budget at most C
pub refilled_most : (t : ℕ) (server : Server) (budget : ℕ) → budget ≤ server.capacity → refilled t server budget ≤ server.capacity
refilled_most t server budget h = go (eqb (t % server.period) 0)
  where
    go : (b : Bool) → pick b server.capacity budget ≤ server.capacity
    go true = omega arith
    go false = h

-- entries made anew beside the first n entries: those keep to their places, and the others do not change
module _ {A : Type 0} (f : A → ℕ → ℕ) (xs : List A) (l : List ℕ) (n i : ℕ) (h : n ≤ length xs) where
  along_within : (d : A) → i < n → i < length l → get_or (along f (take n xs) l) i 0 ≡ f (get_or xs i d) (get_or l i 0)
  along_within d k m =
      along_at f (take n xs) l d i (omega (arith, length-take-le n xs h)) m
      ∙ ap (λ (a : A). f a (get_or l i 0)) (get_or-take n xs i d k)

  along_outside : n ≤ i → get_or (along f (take n xs) l) i 0 ≡ get_or l i 0
  along_outside k = along_beyond f (take n xs) l i (omega (arith, length-take-le n xs h))

-- ---- who holds the tick, and who runs in it, once refills and releases are done

module _ (table : Table) (s : State) where
  -- the holder is a server, and has budget; a deferrable one has a runner
  holder_first : (i : ℕ) → holder_of table s ≡ suc i → First (qualifies table s) table.servers_n 0 i
  holder_first i e = first_is (qualifies table s) table.servers_n 0 i e

  pub holder_server : (i : ℕ) → holder_of table s ≡ suc i → i < table.servers_n
  holder_server i e = omega (arith, (holder_first i e).below)

  pub holder_budget : (i : ℕ) → holder_of table s ≡ suc i → 0 < get_or s.budgets i 0
  holder_budget i e = ltb-true 0 (get_or s.budgets i 0) (and_left (ltb 0 (get_or s.budgets i 0)) _ (holder_first i e).passes)

  holder_kind : (i : ℕ) → holder_of table s ≡ suc i → (is_periodic (server_at table i).kind || ltb 0 (first_task table s (suc i))) ≡ true
  holder_kind i e = and_right (ltb 0 (get_or s.budgets i 0)) _ (holder_first i e).passes

  pub deferrable_runs : (i : ℕ) → holder_of table s ≡ suc i → (server_at table i).kind ≡ Deferrable → 0 < runner_of table s (holder_of table s)
  deferrable_runs i e k =
      let first = first_task table s (suc i) in
      let has : ltb 0 first ≡ true = ap (λ (kind : Kind). is_periodic kind || ltb 0 first) (sym k) ∙ holder_kind i e in
      rw e (ltb-true 0 first has)

  -- the runner is a task of the holder, and has waiting work
  runner_first : (n j : ℕ) → runner_of table s n ≡ suc j → First (waits table s n) table.tasks_n 0 j
  runner_first zero j e = absurd (omega (arith, e))
  runner_first (suc i) j e = first_is (waits table s (suc i)) table.tasks_n 0 j e

  pub runner_task : (n j : ℕ) → runner_of table s n ≡ suc j → j < table.tasks_n
  runner_task n j e = omega (arith, (runner_first n j e).below)

  pub runner_server : (n j : ℕ) → runner_of table s n ≡ suc j → (task_at table j).server ≡ n
  runner_server n j e = eqb-true (task_at table j).server n (and_left (eqb (task_at table j).server n) _ (runner_first n j e).passes)

  pub runner_work : (n j : ℕ) → runner_of table s n ≡ suc j → 0 < get_or s.waiting j 0
  runner_work n j e = ltb-true 0 (get_or s.waiting j 0) (and_right (eqb (task_at table j).server n) _ (runner_first n j e).passes)

-- ---- the state behind the tick

module _ (table : Table) (ok : Obeyed table) (s : State) (full : Full table s) where
  -- the state once refills and releases are done
  pub ready_budget : (i : ℕ) → i < table.servers_n → get_or (ready table s).budgets i 0 ≡ refilled s.tick (server_at table i) (get_or s.budgets i 0)
  unfolding ready
  ready_budget i h =
      along_within (refilled s.tick) table.servers s.budgets table.servers_n i ok.servers no_server h (omega (arith, full.budgets))

  pub ready_waiting : (j : ℕ) → j < table.tasks_n → get_or (ready table s).waiting j 0 ≡ get_or s.waiting j 0 + gains (task_at table j) s.tick
  unfolding ready
  ready_waiting j h =
      along_within (gained s.tick) table.tasks s.waiting table.tasks_n j ok.tasks no_task h (omega (arith, full.waiting))

  ready_full : Full table (ready table s)
  unfolding ready
  ready_full =
      record {
        budgets = omega (arith, full.budgets, along_length (refilled s.tick) (servers_of table) s.budgets);
        waiting = omega (arith, full.waiting, along_length (gained s.tick) (tasks_of table) s.waiting);
      }

  -- the next state
  pub next_budget : (i : ℕ) → i < table.servers_n
      → get_or (next table s).budgets i 0 ≡ refilled s.tick (server_at table i) (get_or s.budgets i 0) - pick (eqb (holder table s) (suc i)) 1 0
  unfolding next
  next_budget i h =
      less_at (ready table s).budgets (holder table s) i (omega (arith, ready_full.budgets))
      ∙ ap (λ n. n - pick (eqb (holder table s) (suc i)) 1 0) (ready_budget i h)

  pub next_waiting : (j : ℕ) → j < table.tasks_n
      → get_or (next table s).waiting j 0 ≡ (get_or s.waiting j 0 + gains (task_at table j) s.tick) - pick (eqb (runner table s) (suc j)) 1 0
  unfolding next
  next_waiting j h =
      less_at (ready table s).waiting (runner table s) j (omega (arith, ready_full.waiting))
      ∙ ap (λ n. n - pick (eqb (runner table s) (suc j)) 1 0) (ready_waiting j h)

  pub next_full : Full table (next table s)
  unfolding next
  next_full =
      record {
        budgets = omega (arith, ready_full.budgets, less_length (ready table s).budgets (holder table s));
        waiting = omega (arith, ready_full.waiting, less_length (ready table s).waiting (runner table s));
      }

  -- entries beyond the counts pass through
  pub budget_passes : (i : ℕ) → table.servers_n ≤ i → get_or (next table s).budgets i 0 ≡ get_or s.budgets i 0
  unfolding next ready holder
  budget_passes i h =
      less_other (ready table s).budgets (holder table s) i (λ e. omega (arith, holder_server table (ready table s) i e))
      ∙ along_outside (refilled s.tick) table.servers s.budgets table.servers_n i ok.servers h

  pub waiting_passes : (j : ℕ) → table.tasks_n ≤ j → get_or (next table s).waiting j 0 ≡ get_or s.waiting j 0
  unfolding next ready runner
  waiting_passes j h =
      less_other (ready table s).waiting (runner table s) j (λ e. omega (arith, runner_task table (ready table s) (holder table s) j e))
      ∙ along_outside (gained s.tick) table.tasks s.waiting table.tasks_n j ok.tasks h
