-- How large the numbers of an answer are: ticks, places and periods lie in a span of at most 16,000. Assumes nothing.
use Prim.Native.Nat.{ℕ, zero, suc, ◌+◌, ◌-◌, ◌≤◌, ◌<◌}
use mathlib.Core.Path.{◌≡◌, refl}
use mathlib.Core.List.{List, ◌∷◌}
use mathlib.Core.Bool.{Bool, true, false}
use native.Mathlib.Omega.{arith}
use native.Mathlib.Nat.{div-le_self}
use Rattle.std.specs.Prelude.{Option, Some, None}
use lib.IntN.{nat_abs}
use lib.ListN.{length, get_or}
use Rattle.basics.specs.Choice.{pick}
use Rattle.refusals.specs.Refusals.{last_number, last_place}
use Rattle.refusals.specs.declared.Refusal.{Refusal}
use Rattle.table.specs.declared.Release.{Release}
use Rattle.table.specs.declared.Table.{Table}
use Rattle.table.specs.Places.{server_at, task_at, Obeyed}
use Rattle.table.specs.Releases.{released_at}
use Rattle.table.proofs.Obeyed.{span_most}
use Rattle.schedule.specs.Curves.{releases_from}
use Rattle.answers.specs.declared.Analysis.{Analysis}
use Rattle.answers.specs.declared.Response.{Response}
use Rattle.answers.specs.declared.Response.TheVariants as response
use Rattle.answers.specs.declared.ServerAnswer.{ServerAnswer}
use Rattle.answers.specs.declared.WorstJob.{WorstJob}
use Rattle.answers.specs.Answers.{Verdict, worst, unfinished, none, verdict_of, response_of, task_answer, full_periods, server_answer, no_server_answer, no_task_answer}
use Rattle.answers.specs.Jobs.{Job, releases_of, ShortSays}
use Rattle.answers.proofs.Responses.{worst_is, unfinished_is}
use Rattle.answers.proofs.Margins.{worst_within, margin_within}
use Rattle.answers.proofs.Saying.{server_says}

-- ---- an answer within its bounds

pub record WorstWithin (w : WorstJob) : Type 0 where
  pub response : w.response ≤ 16000
  pub release : w.release < 16000
  pub margin : nat_abs w.margin ≤ 15999

abbrev pub ResponseWithin : Response → Type 0
ResponseWithin (response.Worst w) = WorstWithin w
ResponseWithin (response.Unfinished r) = r < 16000
ResponseWithin response.None = Unit {0}

abbrev pub ShortWithin : Option ℕ → Type 0
ShortWithin (Some k) = k < 16000
ShortWithin None = Unit {0}

pub record ServerWithin (answer : ServerAnswer) : Type 0 where
  pub full : answer.full ≤ 16000
  pub short : ShortWithin answer.short

-- the refusal of a text of at most 4,096 lines
pub record RefusalWithin (r : Refusal) : Type 0 where
  pub number : r.number ≤ last_number
  pub line : r.line ≤ 4097
  pub place : r.place ≤ last_place

-- all that an analysis counts
pub record Within (a : Analysis) : Type 0 where
  pub span : a.span ≤ 16000
  pub of_server : (i : ℕ) → i < a.servers_n → ServerWithin (get_or a.servers i no_server_answer)
  pub of_task : (k : ℕ) → k < a.tasks_n → ResponseWithin (get_or a.tasks k no_task_answer)

-- ---- a task

-- a release in k ticks from t on is one of them
release_below : (r : Release) (k t i : ℕ) → i < length (releases_from r k t) → get_or (releases_from r k t) i 0 < t + k
unfolding releases_from
release_below r zero t i h = absurd (omega arith)
release_below r (suc k) t i h = go (released_at r t) i h (release_below r k (suc t))
  where
    rest : List ℕ
    rest = releases_from r k (suc t)

    go : (b : Bool) (i : ℕ) → i < length (pick b (t ∷ rest) rest) → ((i : ℕ) → i < length rest → get_or rest i 0 < suc t + k)
        → get_or (pick b (t ∷ rest) rest) i 0 < t + suc k
    go true zero l ih = omega arith
    go true (suc i) l ih = omega (arith, ih i (omega arith))
    go false i l ih = omega (arith, ih i l)

-- a job is released in the span
job_below : (table : Table) (k n r : ℕ) → Job (releases_of table k) n r → r < table.span
job_below table k n r j =
    omega (arith, j.release, release_below (task_at table k).release table.span 0 (n - 1) (omega (arith, j.some, j.most)))

pub task_within : (table : Table) → Obeyed table → (k : ℕ) → k < table.tasks_n → ResponseWithin (task_answer table k)
task_within table ok k h = go (verdict_of table k) refl
  where
    go : (x : Verdict) → verdict_of table k ≡ x → ResponseWithin (response_of (task_at table k).deadline x)
    go (worst n q) e =
        let w = worst_is table ok k h n q e in
        record {
          response = (worst_within table ok k h n q e).1;
          release = omega (arith, job_below table k w.job q w.released, span_most table ok);
          margin = margin_within table ok k h n q e;
        }
    go (unfinished q) e =
        let u = unfinished_is table ok k h q e in
        omega (arith, job_below table k u.job q u.released, span_most table ok)
    go none e = tt

-- ---- a server

module _ (table : Table) (ok : Obeyed table) (i : ℕ) (h : i < table.servers_n) where
  -- no more full periods than ticks
  full_within : full_periods table i ≤ 16000
  full_within = omega (arith, div-le_self table.span (server_at table i).period, span_most table ok)

  -- a short period is one of the full ones
  short_within : (s : Option ℕ) → ShortSays table i (full_periods table i) s → ShortWithin s
  short_within (Some k) p = omega (arith, p.0, full_within)
  short_within None p = tt

  pub server_within : ServerWithin (server_answer table i)
  server_within =
      record { full = full_within; short = short_within (server_answer table i).short (server_says table ok i h).first_short }
