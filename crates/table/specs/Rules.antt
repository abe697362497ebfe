-- Document 01, 'The table text': the rules of a table.
use Rattle.std.specs.Prelude.{ℕ, List, [], ◌∷◌, Bool, true, ◌&&◌, take, leb}
use Rattle.table.specs.declared.Server.{Server}
use Rattle.table.specs.declared.Task.{Task}
use Rattle.table.specs.declared.Table.{Table}
use Rattle.table.specs.declared.Kind.TheVariants.{Deferrable}
use Rattle.table.specs.declared.Release.{Release}
use Rattle.table.specs.declared.Release.TheVariants.{Once, Every}

-- every entry of a list passes a test
unfoldable pub all : {A : Type 0} → (A → Bool) → List A → Bool
all f [] = true
all f (a ∷ l) = f a && all f l

abbrev pub between : ℕ → ℕ → ℕ → Bool
between low high n = leb low n && leb n high

-- "H, work, C, T, period, deadline 1 to 16,000; C not above T; instant and offset 0 to 16,000"
abbrev pub in_ticks : ℕ → Bool
in_ticks n = between 1 16000 n

abbrev pub server_obeys : Server → Bool
server_obeys s = in_ticks s.capacity && (in_ticks s.period && leb s.capacity s.period)

abbrev pub release_obeys : Release → Bool
release_obeys (Once instant) = leb instant 16000
release_obeys (Every offset period) = leb offset 16000 && in_ticks period

-- "server 1 to the number of servers"
abbrev pub task_obeys : ℕ → Task → Bool
task_obeys n k = between 1 n k.server && (in_ticks k.work && (release_obeys k.release && in_ticks k.deadline))

-- what an array of entries holds where nothing was stored
abbrev pub no_server : Server
no_server = record { kind = Deferrable; capacity = 0; period = 0 }

abbrev pub no_task : Task
no_task = record { server = 0; work = 0; release = Once 0; deadline = 0 }

-- the entries within the counts
abbrev pub servers_of : Table → List Server
servers_of t = take t.servers_n t.servers

abbrev pub tasks_of : Table → List Task
tasks_of t = take t.tasks_n t.tasks

-- "1 to 16 servers, 1 to 64 tasks"
abbrev pub obeys : Table → Bool
obeys t =
    between 1 16 t.servers_n
    && (between 1 64 t.tasks_n
    && (in_ticks t.span && (all server_obeys (servers_of t) && all (task_obeys t.servers_n) (tasks_of t))))
