-- The curves of a table tick by tick, without an end: the queues that stand between the curves and the machine. Nothing has to be believed
-- of them.
use Rattle.std.specs.Prelude.{ℕ, zero, suc, ◌-◌}
use Rattle.basics.specs.Choice.{pick}
use Rattle.windows.specs.Windows.{done, always, ◌⊕◌}
use Rattle.windows.specs.Servers.{held}
use Rattle.table.specs.declared.Kind.{Kind}
use Rattle.table.specs.declared.Kind.TheVariants.{Deferrable, Periodic}
use Rattle.table.specs.declared.Table.{Table}
use Rattle.table.specs.Places.{server_at, task_at}
use Rattle.table.specs.Releases.{gains}
use Rattle.schedule.specs.Curves.{belongs}

abbrev pub nothing : ℕ → ℕ
nothing t = 0

-- the work that comes to the server at place i for its tasks below place j
unfoldable pub works_below : Table → ℕ → ℕ → ℕ → ℕ
works_below table i zero = nothing
works_below table i (suc j) = pick (belongs table i j) (works_below table i j ⊕ gains (task_at table j)) (works_below table i j)

-- what a server would hold: its tasks' work, or every tick if it is periodic
abbrev pub wants : Kind → (ℕ → ℕ) → ℕ → ℕ
wants Deferrable work = work
wants Periodic work = always

-- the ticks held by the server at place i, of those that are free
unfoldable pub takes : Table → ℕ → (ℕ → ℕ) → ℕ → ℕ
takes table i free =
    let server = server_at table i in
    held server.capacity server.period (wants server.kind (works_below table i table.tasks_n)) free

unfoldable pub free_ticks : Table → ℕ → ℕ → ℕ
free_ticks table zero = always
free_ticks table (suc i) = λ t. free_ticks table i t - takes table i (free_ticks table i) t

abbrev pub held_ticks : Table → ℕ → ℕ → ℕ
held_ticks table i = takes table i (free_ticks table i)

-- what the tasks below place j leave of them
unfoldable pub left_ticks : Table → ℕ → ℕ → ℕ → ℕ
left_ticks table i zero = held_ticks table i
left_ticks table i (suc j) =
    pick (belongs table i j) (λ t. left_ticks table i j t - done (gains (task_at table j)) (left_ticks table i j) t) (left_ticks table i j)

-- the ticks in which the task at place j runs
unfoldable pub run_ticks : Table → ℕ → ℕ → ℕ
run_ticks table j = done (gains (task_at table j)) (left_ticks table ((task_at table j).server - 1) j)
