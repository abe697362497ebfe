-- Document 02, E1: rows make the table again that they were written of; a row of no kind makes a table that breaks the rules. Assumes nothing.
use Prim.Native.Nat.{ℕ, ◌+◌, ◌*◌, ◌≤◌, ◌<◌}
use mathlib.Core.Path.{◌≡◌, refl, sym, ◌∙◌}
use mathlib.Core.Bool.{Bool, true, false}
use mathlib.Core.List.{List, ◌++◌}
use mathlib.Core.Logic.{◌≢◌}
use native.Mathlib.Omega.{arith}
use lib.ListN.{length, get_or, take}
use lib.Seq.{ext_get_or, get_or-take, length-take-le}
use borrow.Author.Tests.{lt-ltb, ne_eqb}
use Rattle.refusals.specs.Outcomes.{front}
use Rattle.table.specs.Rules.{no_server, no_task, servers_of, tasks_of, obeys}
use Rattle.table.specs.Places.{server_at, task_at, Obeyed, Same}
use Rattle.table.specs.declared.Kind.{Kind}
use Rattle.table.specs.declared.Release.{Release}
use Rattle.table.specs.declared.Kind.TheVariants.{Deferrable, Periodic}
use Rattle.table.specs.declared.Release.TheVariants.{Once, Every}
use Rattle.table.specs.declared.Server.{Server}
use Rattle.table.specs.declared.Task.{Task}
use Rattle.table.specs.declared.Table.{Table}
use Rattle.table.proofs.Obeyed.{obeyed_of, server_period, task_server, servers_most, tasks_most}
use Rattle.entries.specs.Entries.{kind_number, release_number, release_first, release_period, server_row, task_row, rows, server_from, task_from, server_in, task_in, listed, servers_from, tasks_from, table_from}
use Rattle.entries.proofs.Rows.{rows_at}
use Rattle.entries.proofs.Filled.{listed_length, listed_at}

-- ---- an entry is made again of its row

server_again : (kind : Kind) (capacity period : ℕ) → server_from (kind_number kind) capacity period ≡ record { kind = kind; capacity = capacity; period = period }
server_again Deferrable capacity period = refl
server_again Periodic capacity period = refl

task_again : (release : Release) (server work deadline : ℕ)
    → task_from server work (release_number release) (release_first release) (release_period release) deadline
    ≡ record { server = server; work = work; release = release; deadline = deadline }
task_again (Once instant) server work deadline = refl
task_again (Every offset period) server work deadline = refl

server_of_row : (l : List Server) (rest : List ℕ) (i : ℕ) → i < length l → server_in (rows server_row l ++ rest) i ≡ get_or l i no_server
unfolding server_in
server_of_row l rest i h =
    let s = get_or l i no_server in
    let at = rows_at server_row 3 (λ s. refl) l rest no_server i in
    let e : 3 * i + 0 ≡ 3 * i = omega arith in
    rw (rw e at (at 0 h (omega arith)), at 1 h (omega arith), at 2 h (omega arith)) (server_again s.kind s.capacity s.period)

task_of_row : (l : List Task) (rest : List ℕ) (j : ℕ) → j < length l → task_in (rows task_row l ++ rest) j ≡ get_or l j no_task
unfolding task_in
task_of_row l rest j h =
    let k = get_or l j no_task in
    let at = rows_at task_row 6 (λ k. refl) l rest no_task j in
    let e : 6 * j + 0 ≡ 6 * j = omega arith in
    rw (
      rw e at (at 0 h (omega arith)),
      at 1 h (omega arith),
      at 2 h (omega arith),
      at 3 h (omega arith),
      at 4 h (omega arith),
      at 5 h (omega arith),
    ) (task_again k.release k.server k.work k.deadline)

-- ---- a table is made again of its rows

-- the first n of what is listed, by what stands at each
listed_take : {A : Type 0} (f : ℕ → A) (d : A) (n room : ℕ) (l : List A) → n ≤ length l → n ≤ room → ((i : ℕ) → i < n → f i ≡ get_or l i d)
    → take n (listed f room 0) ≡ take n l
listed_take f d n room l h k each =
    let long : length (take n (listed f room 0)) ≡ n = length-take-le n _ (rw listed_length k) in
    ext_get_or d (take n (listed f room 0)) (take n l) (long ∙ sym (length-take-le n l h)) (λ i q.
    let b : i < n = omega (arith, long) in
    get_or-take n (listed f room 0) i d b ∙ listed_at f d room i (omega arith) ∙ each i b ∙ sym (get_or-take n l i d b))

module _ (table : Table) (ok : Obeyed table) (a b : List ℕ) where
  rows_servers : take table.servers_n (servers_from table.servers_n (front (rows server_row (servers_of table)) a)) ≡ servers_of table
  rows_servers =
      let n = table.servers_n in
      listed_take _ no_server n 16 table.servers ok.servers (servers_most table ok) (λ i h.
      rw (lt-ltb i n h) (server_of_row (servers_of table) _ i (omega (arith, length-take-le n table.servers ok.servers))
      ∙ get_or-take n table.servers i no_server h))

  rows_tasks : take table.tasks_n (tasks_from table.tasks_n (front (rows task_row (tasks_of table)) b)) ≡ tasks_of table
  rows_tasks =
      let m = table.tasks_n in
      listed_take _ no_task m 64 table.tasks ok.tasks (tasks_most table ok) (λ j h.
      rw (lt-ltb j m h) (task_of_row (tasks_of table) _ j (omega (arith, length-take-le m table.tasks ok.tasks))
      ∙ get_or-take m table.tasks j no_task h))

  -- what is handed out of a table that obeys the rules makes an equal table, whatever the arrays held before
  pub rows_back : Same (table_from table.span table.servers_n table.tasks_n (front (rows server_row (servers_of table)) a)
      (front (rows task_row (tasks_of table)) b)) table
  rows_back = record { span = refl; servers_n = refl; tasks_n = refl; servers = rows_servers; tasks = rows_tasks }

-- ---- a row of no kind

-- what obeys the rules has no such row
refuted : (b : Bool) → ¬ (b ≡ true) → b ≡ false
refuted true h = absurd (h refl)
refuted false h = refl

module _ (span n m : ℕ) (servers tasks : List ℕ) where
  abbrev made : Table
  made = table_from span n m servers tasks

  made_obeyed : obeys made ≡ true → Obeyed made
  made_obeyed e = obeyed_of made e (listed_length _ 16 0) (listed_length _ 64 0)

  -- within the count of servers, a kind that is neither 1 nor 2
  pub unknown_kind_lem : (i : ℕ) → i < n → get_or servers (3 * i) 0 ≢ 1 → get_or servers (3 * i) 0 ≢ 2 → obeys made ≡ false
  unfolding server_in
  unknown_kind_lem i h one two = refuted (obeys made) (λ e.
      let ok = made_obeyed e in
      let none : server_at made i ≡ no_server =
      listed_at _ no_server 16 i (omega (arith, servers_most made ok)) ∙ rw (lt-ltb i n h, ne_eqb _ 1 one, ne_eqb _ 2 two) in
      omega (arith, rw none at (server_period made ok i h)))

  -- within the count of tasks, a kind of release that is neither 1 nor 2
  pub unknown_release : (j : ℕ) → j < m → get_or tasks (6 * j + 2) 0 ≢ 1 → get_or tasks (6 * j + 2) 0 ≢ 2 → obeys made ≡ false
  unfolding task_in
  unknown_release j h one two = refuted (obeys made) (λ e.
      let ok = made_obeyed e in
      let none : task_at made j ≡ no_task =
      listed_at _ no_task 64 j (omega (arith, tasks_most made ok)) ∙ rw (lt-ltb j m h, ne_eqb _ 1 one, ne_eqb _ 2 two) in
      omega (arith, rw none at (task_server made ok j h).0))
