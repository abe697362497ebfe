-- Demand 3, its second half, in terms of the machine's run: the jobs of a task, when they end, and what its answer says of them; the free ticks of
-- a server, and what its answer says of them.
use Rattle.std.specs.Prelude.{ℕ, suc, ◌-◌, ◌*◌, ◌≤◌, ◌<◌, ◌≡◌, List, Option, Some, None, false, length, get_or, ltb, eqb}
use Rattle.basics.specs.Choice.{pick}
use Rattle.windows.specs.Windows.{upto}
use Rattle.table.specs.declared.Table.{Table}
use Rattle.table.specs.Places.{server_at, task_at}
use Rattle.table.specs.Releases.{released_at}
use Rattle.machine.specs.Run.{holder_at, runs_in}
use Rattle.schedule.specs.Curves.{releases_from}
use Rattle.answers.specs.Answers.{margin_of}
use Rattle.answers.specs.declared.Response.{Response}
use Rattle.answers.specs.declared.Response.TheVariants as response
use Rattle.answers.specs.declared.ServerAnswer.{ServerAnswer}

-- ---- a task

-- job n (from 1) is released at r
pub record Job (releases : List ℕ) (n r : ℕ) : Type 0 where
  pub some : 1 ≤ n
  pub most : n ≤ length releases
  pub release : get_or releases (n - 1) 0 ≡ r

-- the releases of the task at place k in the span
abbrev pub releases_of : Table → ℕ → List ℕ
releases_of table k = releases_from (task_at table k).release table.span 0

-- in the machine, job n of the task at place k ends at the instant t of the span: the task has then run n times its work, and ran in the tick before
pub record Ends (table : Table) (k n t : ℕ) : Type 0 where
  pub within : t ≤ table.span
  pub ran : upto (runs_in table k) t ≡ n * (task_at table k).work
  pub last : (u : ℕ) → t ≡ suc u → runs_in table k u ≡ 1

-- it ends in the span
pub record Ended (table : Table) (k n : ℕ) : Type 0 where
  pub instant : ℕ
  pub ends : Ends table k n instant

-- "the worst response is the largest finish minus release in that machine over the jobs released in the span, if all of them finish in it"
pub record Worst (table : Table) (k m q : ℕ) : Type 0 where
  -- every job ends, none with a response above m
  pub all : (n r : ℕ) → Job (releases_of table k) n r → Ended table k n
  pub most : (n r : ℕ) (j : Job (releases_of table k) n r) → (all n r j).instant - r ≤ m
  -- the job released at q has it, and none before
  pub job : ℕ
  pub released : Job (releases_of table k) job q
  pub attains : (all job q released).instant - q ≡ m
  pub first : (n r : ℕ) (j : Job (releases_of table k) n r) → n < job → (all n r j).instant - r < m

-- "if not, the first one that doesn't is given by its release"
pub record Unfinished (table : Table) (k q : ℕ) : Type 0 where
  pub job : ℕ
  pub released : Job (releases_of table k) job q
  pub short : upto (runs_in table k) table.span < job * (task_at table k).work
  pub before : (n r : ℕ) → Job (releases_of table k) n r → n < job → Ended table k n

-- what the answer of the task at place k says of the machine's run
abbrev pub TaskSays : Table → ℕ → Response → Type 0
TaskSays table k (response.Worst w) = Worst table k w.response w.release × (w.margin ≡ margin_of (task_at table k).deadline w.response)
TaskSays table k (response.Unfinished r) = Unfinished table k r
TaskSays table k response.None = (t : ℕ) → t < table.span → released_at (task_at table k).release t ≡ false

-- ---- a server

-- 1 where no server above place i holds the tick in the machine, and 0 elsewhere
abbrev pub unheld : Table → ℕ → ℕ → ℕ
unheld table i t = pick (eqb (holder_at table t) 0) 1 (pick (ltb i (holder_at table t)) 1 0)

-- how many such ticks the period k of the server at place i has
abbrev pub unheld_in : Table → ℕ → ℕ → ℕ
unheld_in table i k =
    let T = (server_at table i).period in
    upto (unheld table i) (suc k * T) - upto (unheld table i) (k * T)

-- "It is short if it has fewer than C free ticks": of so many full periods the first that has, or none
abbrev pub ShortSays : Table → ℕ → ℕ → Option ℕ → Type 0
ShortSays table i full (Some k) =
    (k < full) × (unheld_in table i k < (server_at table i).capacity) × ((u : ℕ) → u < k → (server_at table i).capacity ≤ unheld_in table i u)
ShortSays table i full None = (u : ℕ) → u < full → (server_at table i).capacity ≤ unheld_in table i u

-- what the answer of the server at place i says of the machine's run
pub record ServerSays (table : Table) (i : ℕ) (answer : ServerAnswer) : Type 0 where
  -- "A full period k of a server is one with (k+1)·T at most H"
  pub full : (k : ℕ) → k < answer.full → suc k * (server_at table i).period ≤ table.span
  pub no_more : (k : ℕ) → suc k * (server_at table i).period ≤ table.span → k < answer.full
  pub first_short : ShortSays table i answer.full answer.short
