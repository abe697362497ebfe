-- Rows of servers and tasks of both kinds, what they make again, and rows of no kind.
use Rattle.std.specs.Prelude.{ℕ, ◌≡◌, List, [], ◌∷◌}
use Rattle.table.specs.Rules.{no_server, no_task}
use Rattle.table.specs.declared.Kind.TheVariants.{Deferrable, Periodic}
use Rattle.table.specs.declared.Release.TheVariants.{Once, Every}
use Rattle.table.specs.declared.Server.{Server}
use Rattle.table.specs.declared.Task.{Task}
use Rattle.entries.specs.Entries.{rows, server_row, task_row, server_in, task_in}

abbrev pub deferrable : Server
deferrable = record { kind = Deferrable; capacity = 3; period = 10 }

abbrev pub periodic : Server
periodic = record { kind = Periodic; capacity = 2; period = 4 }

abbrev pub once : Task
once = record { server = 1; work = 4; release = Once 3; deadline = 5 }

abbrev pub every : Task
every = record { server = 2; work = 1; release = Every 0 8; deadline = 7 }

abbrev pub server_numbers : List ℕ
server_numbers = 1 ∷ 3 ∷ 10 ∷ 2 ∷ 2 ∷ 4 ∷ []

abbrev pub task_numbers : List ℕ
task_numbers = 1 ∷ 4 ∷ 1 ∷ 3 ∷ 0 ∷ 5 ∷ 2 ∷ 1 ∷ 2 ∷ 0 ∷ 8 ∷ 7 ∷ []

pub record Checked : Type 0 where
  pub servers : rows server_row (deferrable ∷ periodic ∷ []) ≡ server_numbers
  pub tasks : rows task_row (once ∷ every ∷ []) ≡ task_numbers
  pub server_back : (server_in server_numbers 0 ≡ deferrable) × (server_in server_numbers 1 ≡ periodic)
  pub task_back : (task_in task_numbers 0 ≡ once) × (task_in task_numbers 1 ≡ every)
  -- the period of `once` may be any number
  pub once_back : task_in (1 ∷ 4 ∷ 1 ∷ 3 ∷ 9 ∷ 5 ∷ []) 0 ≡ once
  -- kinds 0 and 3
  pub no_kind : (server_in (0 ∷ 3 ∷ 10 ∷ []) 0 ≡ no_server) × (server_in (3 ∷ 3 ∷ 10 ∷ []) 0 ≡ no_server)
  pub no_release : (task_in (1 ∷ 4 ∷ 0 ∷ 3 ∷ 0 ∷ 5 ∷ []) 0 ≡ no_task) × (task_in (1 ∷ 4 ∷ 3 ∷ 3 ∷ 8 ∷ 5 ∷ []) 0 ≡ no_task)
