-- Document 01, 'Servers, one tick at a time' and 'What the report program prints': worst response, unfinished or none of a task, full and short
-- periods of a server.
use Rattle.std.specs.Prelude.{ℕ, zero, suc, ◌-◌, ◌*◌, ◌/◌, List, [], ◌∷◌, ltb, ℤ, pos, ◌-ℤ◌, Option, Some, None}
use Rattle.basics.specs.Choice.{pick}
use Rattle.windows.specs.Windows.{upto, cover, provide}
use Rattle.table.specs.declared.Server.{Server}
use Rattle.table.specs.declared.Table.{Table}
use Rattle.table.specs.Places.{server_at, task_at, first_of}
use Rattle.schedule.specs.Curves.{releases_from, free_of, running_of}
use Rattle.answers.specs.declared.Response.{Response}
use Rattle.answers.specs.declared.Response.TheVariants as response
use Rattle.answers.specs.declared.ServerAnswer.{ServerAnswer}

-- ---- a task

-- "worst, response, release of the first job that attains it"; "unfinished, release of the first job not ended at H"; "none: no release before H"
pub data Verdict : Type 0 where
  worst : ℕ → ℕ → Verdict
  unfinished : ℕ → Verdict
  none : Verdict

-- the worst so far, once a job that was released at r has the response n: the first of two that are equal stays
abbrev pub worse : Verdict → ℕ → ℕ → Verdict
worse (worst m q) n r = pick (ltb m n) (worst n r) (worst m q)
worse (unfinished q) n r = unfinished q
worse none n r = worst n r

-- "Jobs of one task are served in order of release: job j (from 1) ends when the task has run j times its work." Of the jobs from j on, with
-- their releases; `next` is what comes of the later ones
abbrev pub after_job : Option ℕ → ℕ → Verdict → (Verdict → Verdict) → Verdict
after_job (Some t) r sofar next = next (worse sofar (t - r) r)
after_job None r sofar next = unfinished r

unfoldable pub judged : List ℕ → ℕ → ℕ → List ℕ → Verdict → Verdict
judged running work j [] sofar = sofar
judged running work j (r ∷ rs) sofar = after_job (provide running (j * work)) r sofar (judged running work (suc j) rs)

-- of the task at place k
unfoldable pub verdict_of : Table → ℕ → Verdict
verdict_of table k =
    judged (running_of table k) (task_at table k).work 1 (releases_from (task_at table k).release table.span 0) none

-- "Margin is deadline minus response, below zero when late"
abbrev pub margin_of : ℕ → ℕ → ℤ
margin_of deadline response = pos deadline -ℤ pos response

-- what a task's answer says, by its deadline
abbrev pub response_of : ℕ → Verdict → Response
response_of deadline (worst n r) = response.Worst (record { response = n; release = r; margin = margin_of deadline n })
response_of deadline (unfinished r) = response.Unfinished r
response_of deadline none = response.None

abbrev pub task_answer : Table → ℕ → Response
task_answer table k = response_of (task_at table k).deadline (verdict_of table k)

-- ---- a server

-- how many ticks of a curve the period k of T ticks has
abbrev pub ticks_in : List ℕ → ℕ → ℕ → ℕ
ticks_in curve T k = upto (cover curve) (suc k * T) - upto (cover curve) (k * T)

-- "It is short if it has fewer than C free ticks"; one more than the first short one of so many, or 0 if there is none
abbrev pub short_on : List ℕ → ℕ → ℕ → ℕ → ℕ
short_on free C T full = first_of (λ k. ltb (ticks_in free T k) C) full 0

-- "A full period k of a server is one with (k+1)·T at most H"
abbrev pub full_periods : Table → ℕ → ℕ
full_periods table i = table.span / (server_at table i).period

-- how many free ticks the period k of the server at place i has
abbrev pub free_in : Table → ℕ → ℕ → ℕ
free_in table i k = ticks_in (free_of table i) (server_at table i).period k

abbrev pub first_short : Table → ℕ → ℕ
first_short table i = short_on (free_of table i) (server_at table i).capacity (server_at table i).period (full_periods table i)

-- "the first short one (from 0)"
abbrev pub short_of : ℕ → Option ℕ
short_of zero = None
short_of (suc k) = Some k

-- what a server's answer says, by its free curve
abbrev pub answer_on : Server → ℕ → List ℕ → ServerAnswer
answer_on server H free =
    let full = H / server.period in
    record { full = full; short = short_of (short_on free server.capacity server.period full) }

abbrev pub server_answer : Table → ℕ → ServerAnswer
server_answer table i = answer_on (server_at table i) table.span (free_of table i)

-- ---- all of them

-- an entry beyond the counts
abbrev pub no_task_answer : Response
no_task_answer = response.None

abbrev pub no_server_answer : ServerAnswer
no_server_answer = record { full = 0; short = None }

-- the k entries from place i on: those below a count, and then empty ones
unfoldable pub entries : {A : Type 0} → (ℕ → A) → A → ℕ → ℕ → ℕ → List A
entries f empty count zero i = []
entries f empty count (suc k) i = pick (ltb i count) (f i) empty ∷ entries f empty count k (suc i)

-- "1 to 16 servers, 1 to 64 tasks"
abbrev pub server_answers : Table → List ServerAnswer
server_answers table = entries (server_answer table) no_server_answer table.servers_n 16 0

abbrev pub task_answers : Table → List Response
task_answers table = entries (task_answer table) no_task_answer table.tasks_n 64 0
