-- Document 02, E1: a table's entries as rows of numbers, for callers in C, and back.
use Rattle.std.specs.Prelude.{ℕ, zero, suc, ◌+◌, ◌*◌, List, [], ◌∷◌, ◌++◌, get_or, eqb, ltb, Option, Some, None}
use Rattle.basics.specs.Choice.{pick}
use Rattle.table.specs.Rules.{no_server, no_task}
use Rattle.table.specs.declared.Kind.{Kind}
use Rattle.table.specs.declared.Kind.TheVariants.{Deferrable, Periodic}
use Rattle.table.specs.declared.Release.{Release}
use Rattle.table.specs.declared.Release.TheVariants.{Once, Every}
use Rattle.table.specs.declared.Server.{Server}
use Rattle.table.specs.declared.Task.{Task}
use Rattle.table.specs.declared.Table.{Table}

-- ---- from entries to rows

-- a server's kind as a number: 1 deferrable, 2 periodic
abbrev pub kind_number : Kind → ℕ
kind_number Deferrable = 1
kind_number Periodic = 2

-- a server's row: kind, capacity, period
abbrev pub server_row : Server → List ℕ
server_row s = kind_number s.kind ∷ (s.capacity ∷ (s.period ∷ []))

-- a task's kind of release: 1 once, 2 every
abbrev pub release_number : Release → ℕ
release_number (Once instant) = 1
release_number (Every offset period) = 2

-- the instant or the offset
abbrev pub release_first : Release → ℕ
release_first (Once instant) = instant
release_first (Every offset period) = offset

-- the period; 0 where there is none
abbrev pub release_period : Release → ℕ
release_period (Once instant) = 0
release_period (Every offset period) = period

-- a release as three numbers
abbrev pub release_row : Release → List ℕ
release_row r = release_number r ∷ (release_first r ∷ (release_period r ∷ []))

-- a task's row: server, work, kind of release, its two numbers, deadline
abbrev pub task_row : Task → List ℕ
task_row k =
    k.server ∷ (k.work ∷ (release_number k.release ∷ (release_first k.release ∷ (release_period k.release ∷ (k.deadline ∷ [])))))

-- rows one behind the other
unfoldable pub rows : {A : Type 0} → (A → List ℕ) → List A → List ℕ
rows f [] = []
rows f (a ∷ l) = f a ++ rows f l

-- ---- the same backwards: a kind that is none of the stated ones makes an entry that breaks the rules

-- the kind of a number, if there is such a kind
abbrev pub kind_from : ℕ → Option Kind
kind_from number = pick (eqb number 1) (Some Deferrable) (pick (eqb number 2) (Some Periodic) None)

-- the release of three numbers, if there is such a kind of release; the period of `once` is not looked at
abbrev pub release_from : (kind first period : ℕ) → Option Release
release_from kind first period = pick (eqb kind 1) (Some (Once first)) (pick (eqb kind 2) (Some (Every first period)) None)

abbrev pub server_from : (kind capacity period : ℕ) → Server
server_from kind capacity period =
    pick (eqb kind 1) (record { kind = Deferrable; capacity = capacity; period = period })
    (pick (eqb kind 2) (record { kind = Periodic; capacity = capacity; period = period }) no_server)

-- the period of `once` is not looked at
abbrev pub task_from : (server work kind first period deadline : ℕ) → Task
task_from server work kind first period deadline =
    pick (eqb kind 1) (record { server = server; work = work; release = Once first; deadline = deadline })
    (pick (eqb kind 2) (record { server = server; work = work; release = Every first period; deadline = deadline }) no_task)

-- the entry that a row of an array makes
unfoldable pub server_in : List ℕ → ℕ → Server
server_in l i = server_from (get_or l (3 * i) 0) (get_or l (3 * i + 1) 0) (get_or l (3 * i + 2) 0)

unfoldable pub task_in : List ℕ → ℕ → Task
task_in l j =
    task_from (get_or l (6 * j) 0) (get_or l (6 * j + 1) 0) (get_or l (6 * j + 2) 0) (get_or l (6 * j + 3) 0) (get_or l (6 * j + 4) 0) (get_or l (6 * j + 5) 0)

-- what stands at the k places from i on
unfoldable pub listed : {A : Type 0} → (ℕ → A) → ℕ → ℕ → List A
listed f zero i = []
listed f (suc k) i = f i ∷ listed f k (suc i)

-- so many entries of an array, in an array of so many places: rows beyond the count are not looked at
abbrev pub servers_from : ℕ → List ℕ → List Server
servers_from n l = listed (λ i. pick (ltb i n) (server_in l i) no_server) 16 0

abbrev pub tasks_from : ℕ → List ℕ → List Task
tasks_from m l = listed (λ j. pick (ltb j m) (task_in l j) no_task) 64 0

-- the table of a span, two counts and two arrays of rows
abbrev pub table_from : (span n m : ℕ) → List ℕ → List ℕ → Table
table_from span n m servers tasks = record {
  span = span;
  servers_n = n;
  tasks_n = m;
  servers = servers_from n servers;
  tasks = tasks_from m tasks;
}
