-- Document 01, 'Servers, one tick at a time': the same from curves. A number counted from 1 is one more than its place in the table.
use Rattle.std.specs.Prelude.{ℕ, zero, suc, ◌+◌, ◌-◌, min, List, [], ◌∷◌, Bool, ltb, eqb}
use Rattle.basics.specs.Choice.{pick}
use Rattle.windows.specs.Windows.{window, cover, add_up, windows_of, fit}
use Rattle.windows.specs.Servers.{so_far, held}
use Rattle.table.specs.declared.Kind.{Kind}
use Rattle.table.specs.declared.Kind.TheVariants.{Deferrable, Periodic}
use Rattle.table.specs.declared.Release.{Release}
use Rattle.table.specs.declared.Task.{Task}
use Rattle.table.specs.declared.Table.{Table}
use Rattle.table.specs.Places.{server_at, task_at, first_of}
use Rattle.table.specs.Releases.{released_at}

-- whether the task at place j is one of the server at place i
abbrev pub belongs : Table → ℕ → ℕ → Bool
belongs table i j = eqb (task_at table j).server (suc i)

-- ---- "a task's demand adds up one window per release, from the release and as long as its work; what lies at H or later is dropped after
-- each addition"

-- "what lies at H or later is dropped"
unfoldable pub below : ℕ → List ℕ → List ℕ
below H [] = []
below H (s ∷ []) = []
below H (s ∷ (e ∷ r)) = window s (min e H) (below H r)

-- the releases, of the k ticks from t on
unfoldable pub releases_from : Release → ℕ → ℕ → List ℕ
releases_from r zero t = []
releases_from r (suc k) t = pick (released_at r t) (t ∷ releases_from r k (suc t)) (releases_from r k (suc t))

-- a demand once more releases are added to it
unfoldable pub with_releases : ℕ → ℕ → List ℕ → List ℕ → List ℕ
with_releases H work demand [] = demand
with_releases H work demand (r ∷ rs) = with_releases H work (below H (add_up demand (r ∷ ((r + work) ∷ [])))) rs

unfoldable pub demand_of : ℕ → Task → List ℕ
demand_of H task = with_releases H task.work [] (releases_from task.release H 0)

-- ---- the held ticks of a server

-- "its tasks' summed demand": of those below place j
unfoldable pub summed_below : Table → ℕ → ℕ → List ℕ
summed_below table i zero = []
summed_below table i (suc j) =
    pick (belongs table i j) (below table.span (add_up (summed_below table i j) (demand_of table.span (task_at table j)))) (summed_below table i j)

abbrev pub summed : Table → ℕ → List ℕ
summed table i = summed_below table i table.tasks_n

-- "the first C free ticks of each period": free, with fewer than C free ticks before it in its period
abbrev pub first_free : ℕ → ℕ → (ℕ → ℕ) → ℕ → ℕ
first_free C T free t = min (free t) (C - so_far T free t)

-- "A deferrable server's held ticks are its tasks' summed demand fitted into its free curve, each unit at the earliest free tick whose
-- period has fewer than C held ticks so far; a periodic server holds the first C free ticks of each period"
abbrev pub holding : Kind → ℕ → ℕ → List ℕ → List ℕ → ℕ → ℕ
holding Deferrable C T demand free = held C T (cover demand) (cover free)
holding Periodic C T demand free = first_free C T (cover free)

-- the held ticks of the server at place i, if its free curve is this
unfoldable pub held_in : Table → ℕ → List ℕ → List ℕ
held_in table i free =
    let server = server_at table i in
    windows_of (holding server.kind server.capacity server.period (summed table i) free) table.span

-- ---- "A server's free curve is the span without the ticks held by higher servers"

-- the ticks of a that are not in b, below H
abbrev pub without : ℕ → List ℕ → List ℕ → List ℕ
without H a b = windows_of (λ t. cover a t - cover b t) H

unfoldable pub free_of : Table → ℕ → List ℕ
free_of table zero = window 0 table.span []
free_of table (suc i) = without table.span (free_of table i) (held_in table i (free_of table i))

abbrev pub held_of : Table → ℕ → List ℕ
held_of table i = held_in table i (free_of table i)

-- ---- "Held ticks go to tasks in order, each demand fitted into what is left"

-- what the tasks below place j leave of the held ticks of the server at place i
unfoldable pub left_below : Table → ℕ → ℕ → List ℕ
left_below table i zero = held_of table i
left_below table i (suc j) =
    pick (belongs table i j) (fit (demand_of table.span (task_at table j)) (left_below table i j)).left (left_below table i j)

-- the ticks in which the task at place j runs
unfoldable pub running_of : Table → ℕ → List ℕ
running_of table j = (fit (demand_of table.span (task_at table j)) (left_below table ((task_at table j).server - 1) j)).served

-- ---- who holds a tick and who runs in it, read from the curves

abbrev pub holder_from : Table → ℕ → ℕ
holder_from table t = first_of (λ i. ltb 0 (cover (held_of table i) t)) table.servers_n 0

abbrev pub runner_from : Table → ℕ → ℕ
runner_from table t = first_of (λ j. ltb 0 (cover (running_of table j) t)) table.tasks_n 0
