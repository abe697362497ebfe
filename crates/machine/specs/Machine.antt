-- Document 01, 'Servers, one tick at a time': the machine. A number counted from 1 is one more than its place in the table; 0 is none.
use Rattle.std.specs.Prelude.{ℕ, zero, suc, ◌+◌, ◌-◌, ◌%◌, List, [], ◌∷◌, Bool, true, false, ◌&&◌, ◌||◌, get_or, set, ltb, eqb, Result, Ok, Err}
use Rattle.table.specs.Places.{server_at, task_at, first_of, none_of}
use Rattle.table.specs.Releases.{gains}
use Rattle.basics.specs.Choice.{pick}
use Rattle.table.specs.Rules.{servers_of, tasks_of, obeys}
use Rattle.table.specs.declared.Kind.{Kind}
use Rattle.table.specs.declared.Kind.TheVariants.{Deferrable, Periodic}
use Rattle.table.specs.declared.Server.{Server}
use Rattle.table.specs.declared.Task.{Task}
use Rattle.table.specs.declared.Table.{Table}
use Rattle.refusals.specs.Refusals.{refused_for}
use Rattle.refusals.specs.declared.Ground.TheVariants.{OutOfStep}
use Rattle.refusals.specs.declared.Refusal.{Refusal}
use Rattle.machine.specs.declared.State.{State}
use Rattle.machine.specs.declared.Step.{Step}

-- what stands beside each entry is made anew from both; "those of the state pass through" beyond the last entry
unfoldable pub along : {A : Type 0} → (A → ℕ → ℕ) → List A → List ℕ → List ℕ
along f [] l = l
along f (a ∷ entries) [] = []
along f (a ∷ entries) (n ∷ l) = f a n ∷ along f entries l

-- ---- "(1) each server with t a multiple of T has its budget set to C"

abbrev pub refilled : ℕ → Server → ℕ → ℕ
refilled t server budget = pick (eqb (t % server.period) 0) server.capacity budget

abbrev pub refills : Table → State → State
refills table s = record { tick = s.tick; budgets = along (refilled s.tick) (servers_of table) s.budgets; waiting = s.waiting }

-- ---- "(2) each task with a release at t gains its work"

abbrev pub gained : ℕ → Task → ℕ → ℕ
gained t task waiting = waiting + gains task t

abbrev pub releases : Table → State → State
releases table s = record { tick = s.tick; budgets = s.budgets; waiting = along (gained s.tick) (tasks_of table) s.waiting }

-- ---- "(3) the first server that has budget left, and is periodic or has waiting work, holds the tick"

-- the task at place j is one of the server and has waiting work
abbrev pub waits : Table → State → ℕ → ℕ → Bool
waits table s server j = eqb (task_at table j).server server && ltb 0 (get_or s.waiting j 0)

-- a server's "first task with waiting work"
abbrev pub first_task : Table → State → ℕ → ℕ
first_task table s server = first_of (waits table s server) table.tasks_n 0

abbrev pub is_periodic : Kind → Bool
is_periodic Deferrable = false
is_periodic Periodic = true

-- "has budget left, and is periodic or has waiting work", where first is its first task with waiting work
abbrev pub may_hold : ℕ → Kind → ℕ → Bool
may_hold budget kind first = ltb 0 budget && (is_periodic kind || ltb 0 first)

abbrev pub qualifies : Table → State → ℕ → Bool
qualifies table s i = may_hold (get_or s.budgets i 0) (server_at table i).kind (first_task table s (suc i))

-- "If no server qualifies, nobody holds it"
abbrev pub holder_of : Table → State → ℕ
holder_of table s = first_of (qualifies table s) table.servers_n 0

-- the number's entry is one less
abbrev pub one_less : List ℕ → ℕ → List ℕ
one_less l zero = l
one_less l (suc i) = set l i (get_or l i 0 - 1)

-- "and loses one of budget"
abbrev pub spends : ℕ → State → State
spends holder s = record { tick = s.tick; budgets = one_less s.budgets holder; waiting = s.waiting }

-- ---- "(4) its first task with waiting work runs and loses one"

abbrev pub runner_of : Table → State → ℕ → ℕ
runner_of table s zero = 0
runner_of table s (suc i) = first_task table s (suc i)

abbrev pub runs : ℕ → State → State
runs runner s = record { tick = s.tick; budgets = s.budgets; waiting = one_less s.waiting runner }

-- ---- one tick

-- (1) and (2) are done
unfoldable pub ready : Table → State → State
ready table s = releases table (refills table s)

-- who holds the tick that a state stands before, and who runs in it
unfoldable pub holder : Table → State → ℕ
holder table s = holder_of table (ready table s)

unfoldable pub runner : Table → State → ℕ
runner table s = runner_of table (ready table s) (holder table s)

-- "the next one's tick is one more"
abbrev pub later : State → State
later s = record { tick = s.tick + 1; budgets = s.budgets; waiting = s.waiting }

unfoldable pub next : Table → State → State
next table s = later (runs (runner table s) (spends (holder table s) (ready table s)))

-- ---- the step

-- "a budget above its C"
abbrev pub over_budget : Table → State → ℕ → Bool
over_budget table s i = ltb (server_at table i).capacity (get_or s.budgets i 0)

-- "waiting work above 300,000,000"
abbrev pub over_work : State → ℕ → Bool
over_work s j = ltb 300000000 (get_or s.waiting j 0)

-- none of the grounds of 13: "table breaks the rules above, or tick is H or more, or a budget above its C, or waiting work above 300,000,000"
unfoldable pub accepts : Table → State → Bool
accepts table s =
    obeys table
    && (ltb s.tick table.span && (none_of (over_budget table s) table.servers_n && none_of (over_work s) table.tasks_n))

-- "returns the next state, the holding server and the running task"
abbrev pub stepped : Table → State → Step
stepped table s = record { next = next table s; holder = holder table s; runner = runner table s }

abbrev pub refusal : Refusal
refusal = refused_for OutOfStep

unfoldable pub step_of : Table → State → Result Step Refusal
step_of table s = pick (accepts table s) (Ok (stepped table s)) (Err refusal)

-- what is handed back of a step from a state: "a refused step also hands back the state it got, with 0 for server and task"
abbrev pub handed_back : State → Result Step Refusal → Step
handed_back s (Ok step) = step
handed_back s (Err refused) = record { next = s; holder = 0; runner = 0 }
