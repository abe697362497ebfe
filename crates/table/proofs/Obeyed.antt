-- What the rules say of a table's entries, one at a time. Assumes nothing.
use Prim.Native.Nat.{ℕ, zero, suc, ◌≤◌, ◌<◌}
use mathlib.Core.Path.{◌≡◌}
use mathlib.Core.List.{List}
use mathlib.Core.Bool.{Bool, true, false, ◌&&◌}
use native.Mathlib.Numerals.{add-one}
use native.Mathlib.Omega.{arith}
use lib.ListN.{length, get_or, take, drop}
use lib.Dec.{leb}
use borrow.Author.Tests.{leb-true}
use Rattle.basics.specs.Choice.{pick}
use Rattle.basics.proofs.Tests.{and_left, and_right}
use Rattle.table.specs.Rules.{all, between, in_ticks, server_obeys, release_obeys, task_obeys, no_server, no_task, servers_of, tasks_of, obeys}
use Rattle.table.specs.declared.Server.{Server}
use Rattle.table.specs.declared.Task.{Task}
use Rattle.table.specs.declared.Table.{Table}
use Rattle.table.proofs.Entries.{all_at}
use Rattle.table.specs.Places.{server_at, task_at, Obeyed}
use Rattle.table.specs.Releases.{released_at, gains}

-- ---- the tests of the rules

module _ (low high n : ℕ) (e : between low high n ≡ true) where
  pub between_low : low ≤ n
  between_low = leb-true low n (and_left (leb low n) (leb n high) e)

  pub between_high : n ≤ high
  between_high = leb-true n high (and_right (leb low n) (leb n high) e)

-- what all of the first n entries pass, each does
module _ {A : Type 0} (xs : List A) (n : ℕ) (h : n ≤ length xs) (f : A → Bool) (d : A) (e : all f (take n xs) ≡ true) where
  all_from : (i : ℕ) → i ≤ n → all f (drop i (take n xs)) ≡ true
  all_from zero k = e
  all_from (suc i) k = rw add-one at (all_at xs n h f d i k (all_from i (omega arith))).1

  entry_passes : (i : ℕ) → i < n → f (get_or xs i d) ≡ true
  entry_passes i k = (all_at xs n h f d i k (all_from i (omega arith))).0

-- a server's numbers
pub server_numbers : (s : Server) → server_obeys s ≡ true → (s.capacity ≤ 16000) × (s.period ≤ 16000)
server_numbers s e =
    let e₁ = and_right (in_ticks s.capacity) _ e in (
      between_high 1 16000 s.capacity (and_left (in_ticks s.capacity) _ e),
      between_high 1 16000 s.period (and_left (in_ticks s.period) _ e₁),
    )

-- the counts
module _ (table : Table) (e : obeys table ≡ true) where
  pub servers_few : table.servers_n ≤ 16
  servers_few = between_high 1 16 table.servers_n (and_left (between 1 16 table.servers_n) _ e)

  pub tasks_few : table.tasks_n ≤ 64
  tasks_few =
      let e₁ = and_right (between 1 16 table.servers_n) _ e in
      between_high 1 64 table.tasks_n (and_left (between 1 64 table.tasks_n) _ e₁)

  -- arrays of 16 and 64 hold what is counted
  pub obeyed_of : length table.servers ≡ 16 → length table.tasks ≡ 64 → Obeyed table
  obeyed_of s t = record { rules = e; servers = omega (arith, servers_few); tasks = omega (arith, tasks_few) }

module _ (table : Table) (ok : Obeyed table) where
  -- ---- the rules, parted

  pub record Parts : Type 0 where
    pub some_server : 1 ≤ table.servers_n
    pub some_task : 1 ≤ table.tasks_n
    pub span : in_ticks table.span ≡ true
    pub each_server : all server_obeys (servers_of table) ≡ true
    pub each_task : all (task_obeys table.servers_n) (tasks_of table) ≡ true

  pub parts : Parts
  parts =
      let e₁ = and_right (between 1 16 table.servers_n) _ ok.rules in
      let e₂ = and_right (between 1 64 table.tasks_n) _ e₁ in
      let e₃ = and_right (in_ticks table.span) _ e₂ in
      record {
        some_server = between_low 1 16 table.servers_n (and_left (between 1 16 table.servers_n) _ ok.rules);
        some_task = between_low 1 64 table.tasks_n (and_left (between 1 64 table.tasks_n) _ e₁);
        span = and_left (in_ticks table.span) _ e₂;
        each_server = and_left (all server_obeys (servers_of table)) _ e₃;
        each_task = and_right (all server_obeys (servers_of table)) _ e₃;
      }

  pub servers_most : table.servers_n ≤ 16
  servers_most = servers_few table ok.rules

  pub tasks_most : table.tasks_n ≤ 64
  tasks_most = tasks_few table ok.rules

  pub span_some : 1 ≤ table.span
  span_some = between_low 1 16000 table.span parts.span

  pub span_most : table.span ≤ 16000
  span_most = between_high 1 16000 table.span parts.span

  -- ---- each server

  server_rule : (i : ℕ) → i < table.servers_n → server_obeys (server_at table i) ≡ true
  server_rule i h = entry_passes table.servers table.servers_n ok.servers server_obeys no_server parts.each_server i h

  pub server_period : (i : ℕ) → i < table.servers_n → 0 < (server_at table i).period
  server_period i h =
      let e = and_right (in_ticks (server_at table i).capacity) _ (server_rule i h) in
      between_low 1 16000 (server_at table i).period (and_left (in_ticks (server_at table i).period) _ e)

  pub server_ticks : (i : ℕ) → i < table.servers_n → ((server_at table i).capacity ≤ 16000) × ((server_at table i).period ≤ 16000)
  server_ticks i h = server_numbers (server_at table i) (server_rule i h)

  -- ---- each task

  task_rule : (j : ℕ) → j < table.tasks_n → task_obeys table.servers_n (task_at table j) ≡ true
  task_rule j h = entry_passes table.tasks table.tasks_n ok.tasks (task_obeys table.servers_n) no_task parts.each_task j h

  pub task_server : (j : ℕ) → j < table.tasks_n → (1 ≤ (task_at table j).server) × ((task_at table j).server ≤ table.servers_n)
  task_server j h =
      let e = and_left (between 1 table.servers_n (task_at table j).server) _ (task_rule j h) in
      (between_low 1 table.servers_n (task_at table j).server e, between_high 1 table.servers_n (task_at table j).server e)

  -- the rules of a task's work, release and deadline
  task_rest : (j : ℕ) → j < table.tasks_n
      → (in_ticks (task_at table j).work && (release_obeys (task_at table j).release && in_ticks (task_at table j).deadline)) ≡ true
  task_rest j h = and_right (between 1 table.servers_n (task_at table j).server) _ (task_rule j h)

  pub task_work : (j : ℕ) → j < table.tasks_n → (task_at table j).work ≤ 16000
  task_work j h = between_high 1 16000 (task_at table j).work (and_left (in_ticks (task_at table j).work) _ (task_rest j h))

  pub task_some : (j : ℕ) → j < table.tasks_n → 1 ≤ (task_at table j).work
  task_some j h = between_low 1 16000 (task_at table j).work (and_left (in_ticks (task_at table j).work) _ (task_rest j h))

  pub task_release : (j : ℕ) → j < table.tasks_n → release_obeys (task_at table j).release ≡ true
  task_release j h =
      let e = and_right (in_ticks (task_at table j).work) _ (task_rest j h) in
      and_left (release_obeys (task_at table j).release) _ e

  pub task_deadline : (j : ℕ) → j < table.tasks_n → (1 ≤ (task_at table j).deadline) × ((task_at table j).deadline ≤ 16000)
  task_deadline j h =
      let e = and_right (in_ticks (task_at table j).work) _ (task_rest j h) in
      let d = and_right (release_obeys (task_at table j).release) _ e in
      (between_low 1 16000 (task_at table j).deadline d, between_high 1 16000 (task_at table j).deadline d)

-- a task gains its work or nothing
pub gains_most : (task : Task) (t : ℕ) → gains task t ≤ task.work
gains_most task t = go (released_at task.release t)
  where
    go : (b : Bool) → pick b task.work 0 ≤ task.work
    go true = omega arith
    go false = omega arith
