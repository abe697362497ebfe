-- The entries of a table by their places. A number counted from 1 is one more than its place; 0 is none.
use Rattle.std.specs.Prelude.{ℕ, zero, suc, ◌≤◌, ◌≡◌, Bool, true, length, get_or, eqb}
use Rattle.basics.specs.Choice.{pick}
use Rattle.table.specs.Rules.{no_server, no_task, servers_of, tasks_of, obeys}
use Rattle.table.specs.declared.Server.{Server}
use Rattle.table.specs.declared.Task.{Task}
use Rattle.table.specs.declared.Table.{Table}

-- the entries at a place
abbrev pub server_at : Table → ℕ → Server
server_at table i = get_or table.servers i no_server

abbrev pub task_at : Table → ℕ → Task
task_at table j = get_or table.tasks j no_task

-- the number of the first place, of the k from i on, that passes a test; 0 if none does
unfoldable pub first_of : (ℕ → Bool) → ℕ → ℕ → ℕ
first_of p zero i = 0
first_of p (suc k) i = pick (p i) (suc i) (first_of p k (suc i))

-- no place below n passes the test
abbrev pub none_of : (ℕ → Bool) → ℕ → Bool
none_of p n = eqb (first_of p n 0) 0

-- a table that obeys the rules and has all the entries that it counts
pub record Obeyed (table : Table) : Type 0 where
  pub rules : obeys table ≡ true
  pub servers : table.servers_n ≤ length table.servers
  pub tasks : table.tasks_n ≤ length table.tasks

-- document 02, E1: "tables are equal when H, the counts and all entries within the counts are"
pub record Same (a b : Table) : Type 0 where
  pub span : a.span ≡ b.span
  pub servers_n : a.servers_n ≡ b.servers_n
  pub tasks_n : a.tasks_n ≡ b.tasks_n
  pub servers : servers_of a ≡ servers_of b
  pub tasks : tasks_of a ≡ tasks_of b
