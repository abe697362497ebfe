-- A walk along the releases of a task and the curve of the ticks in which it runs, job after job. Assumes nothing.
use Prim.Native.Nat.{ℕ, zero, suc, ◌+◌, ◌-◌, ◌*◌, ◌≤◌, ◌<◌}
use mathlib.Core.Path.{◌≡◌, sym, ap, ◌∙◌}
use mathlib.Core.List.{List, ◌∷◌}
use mathlib.Core.Bool.{true, false}
use native.Mathlib.Omega.{arith}
use native.Mathlib.Decide.{dec_lt}
use lib.ListN.{length, get_or}
use Rattle.std.specs.Prelude.{Option, Some}
use Rattle.windows.specs.Windows.{provide}
use Rattle.windows.proofs.Ticks.{plain_apart}
use Rattle.windows.proofs.Providing.{provide_reached}
use Rattle.table.specs.declared.Release.{Release}
use Rattle.table.specs.declared.Task.{Task}
use Rattle.table.specs.Releases.{released_at}
use Rattle.schedule.specs.Curves.{releases_from}
use Rattle.answers.specs.Answers.{Verdict, unfinished, none, worse, after_job, judged}
use Rattle.judging.specs.declared.passing.Passed.{Passed}
use Rattle.judging.specs.declared.ended.EndedJob.{EndedJob}
use Rattle.std.specs.Prelude.{Option, None, Some}
use Rattle.buffers.specs.Parts.{PlainBelow}
use Rattle.demands.specs.Walks.{TaskObeyed, first_release, next_release}
use Rattle.judging.specs.Passes.{Passes, reached_at}
use Rattle.judging.specs.Judges.{worst_so_far}
use Rattle.demands.proofs.Releases.{Follows, next_follows, first_released, none_before}
use Rattle.judging.proofs.PassedWindows.{passes_none, reached_there, reached_nowhere}

-- ---- the releases from a tick on, before the end of the span

module _ (release : Release) (span : ℕ) where
  -- at a release
  released_here : (t : ℕ) → t < span → released_at release t ≡ true → releases_from release (span - t) t ≡ t ∷ releases_from release (span - suc t) (suc t)
  unfolding releases_from
  released_here t h e = let k : span - t ≡ suc (span - suc t) = omega arith in rw (k, e)

  -- at a tick with none
  not_here : (t : ℕ) → released_at release t ≡ false → releases_from release (span - t) t ≡ releases_from release (span - suc t) (suc t)
  unfolding releases_from
  not_here t e = go (dec_lt t span)
    where
      go : Dec (t < span) → releases_from release (span - t) t ≡ releases_from release (span - suc t) (suc t)
      go (yes h) = let k : span - t ≡ suc (span - suc t) = omega arith in rw (k, e)
      go (no h) =
          let k : span - t ≡ 0 = omega arith in
          let m : span - suc t ≡ 0 = omega arith in
          rw (k, m)

  -- at d ticks with none
  none_here : (d t next : ℕ) → next ≡ t + d → ((u : ℕ) → t ≤ u → u < next → released_at release u ≡ false)
      → releases_from release (span - t) t ≡ releases_from release (span - next) next
  none_here zero t next e f = ap (λ (x : ℕ). releases_from release (span - x) x) (omega arith)
  none_here (suc d) t next e f =
      not_here t (f t (omega arith) (omega arith)) ∙ none_here d (suc t) next (omega arith) (λ u h k. f u (omega arith) k)

  -- up to the first release
  from_first : releases_from release span 0 ≡ releases_from release (span - first_release release) (first_release release)
  from_first =
      ap (λ (x : ℕ). releases_from release x 0) (omega arith)
      ∙ none_here (first_release release) 0 (first_release release) (omega arith) (λ u h k. none_before release u k)

  -- a release, and up to the next one
  from_next : (r next : ℕ) → r < span → released_at release r ≡ true → Follows release r next
      → releases_from release (span - r) r ≡ r ∷ releases_from release (span - next) next
  from_next r next h e f =
      released_here r h e
      ∙ ap (λ (l : List ℕ). r ∷ l) (none_here (next - suc r) (suc r) next (omega (arith, f.later)) (λ u l k. f.between u l k))

-- ---- one job

-- a curve below H gives an amount at H or before, if it does
provide_below : (H : ℕ) (l : List ℕ) (n t : ℕ) → PlainBelow H l → 0 < n → provide l n ≡ Some t → t ≤ H
provide_below H l n t b z e = go (dec_lt H t)
  where
    go : Dec (H < t) → t ≤ H
    go (yes h) = absurd (omega (arith, (provide_reached l n 0 (plain_apart 0 l b.plain) z t e).1, b.over (t - 1) (omega arith)))
    go (no h) = omega arith

-- ---- the walk

-- what comes of all jobs
abbrev pub all_judged : Task → ℕ → List ℕ → Verdict
all_judged task span running = judged running task.work 1 (releases_from task.release span 0) none

-- those before the release r are judged, and `worst` is the worst so far; the next one ends when the task has run `amount`
pub record Judging (task : Task) (span : ℕ) (running : List ℕ) (worst : Option EndedJob) (passed : Passed) (amount r : ℕ) : Type 0 where
  pub job : ℕ
  pub ends : amount ≡ job * task.work
  pub most : amount ≤ 16000 * suc r
  pub passes : Passes running passed
  pub above : passed.given < amount
  pub released : r < span → released_at task.release r ≡ true
  pub ahead : all_judged task span running ≡ judged running task.work job (releases_from task.release (span - r) r) (worst_so_far worst)

-- at the first release none is
pub judging_starts : (task : Task) (span : ℕ) (running : List ℕ) {passed : Passed} → TaskObeyed task → (passed.windows ≡ 0) × (passed.given ≡ 0)
    → Judging task span running None passed task.work (first_release task.release)
judging_starts task span running ok e = record {
  job = 1;
  ends = omega arith;
  most = omega (arith, ok.most);
  passes = passes_none running e;
  above = omega (arith, ok.some);
  released = λ h. first_released task.release;
  ahead = ap (λ (rs : List ℕ). judged running task.work 1 rs none) (from_first task.release span);
}

module _ {task : Task} {span : ℕ} {running : List ℕ} {worst : Option EndedJob} {passed : Passed} {amount r : ℕ} (j : Judging task span running worst passed amount r) where
  -- past the span all are
  pub judging_ends : span ≤ r → all_judged task span running ≡ worst_so_far worst
  unfolding judged releases_from
  judging_ends h = let k : span - r ≡ 0 = omega arith in rw k at j.ahead

  module _ (ok : TaskObeyed task) (most : span ≤ 16000) (before : r < span) where
    -- the release behind r
    abbrev next : ℕ
    next = next_release task.release r

    pub next_release_lem : Follows task.release r next
    next_release_lem = next_follows task.release r ok.release (omega arith) (j.released before)

    -- p is passed before the job of r ends
    module _ {p : Passed} (passes : Passes running p) (above : p.given < amount) (reached : provide running amount ≡ reached_at running p amount) where
      -- what comes of the later jobs
      abbrev later : Verdict → Verdict
      later = judged running task.work (suc j.job) (releases_from task.release (span - next) next)

      -- the job of r is judged, and then they are
      one_judged : all_judged task span running ≡ after_job (reached_at running p amount) r (worst_so_far worst) later
      unfolding judged
      one_judged =
          j.ahead
          ∙ ap (λ (rs : List ℕ). judged running task.work j.job rs (worst_so_far worst)) (from_next task.release span r next before (j.released before) next_release_lem)
          ∙ ap (λ (x : Option ℕ). after_job x r (worst_so_far worst) later) (ap (provide running) (sym j.ends) ∙ reached)

      -- it does not end
      pub judging_unfinished : length running ≤ 2 * p.windows → all_judged task span running ≡ unfinished r
      judging_unfinished h = one_judged ∙ ap (λ (x : Option ℕ). after_job x r (worst_so_far worst) later) (reached_nowhere running p amount h)

      -- it ends in the next window
      module _ (there : 2 * p.windows < length running) where
        abbrev end : ℕ
        end = get_or running (2 * p.windows) 0 + (amount - p.given)

        -- not past the span
        pub end_below : PlainBelow span running → end ≤ span
        end_below b = provide_below span running amount end b (omega arith) (reached ∙ reached_there running p amount there)

        -- the walk goes on
        pub judging_next : {new : EndedJob} → worst_so_far (Some new) ≡ worse (worst_so_far worst) (end - r) r
            → Judging task span running (Some new) p (amount + task.work) next
        judging_next e = record {
          job = suc j.job;
          ends = omega (arith, j.ends);
          most = omega (arith, j.most, ok.most, next_release_lem.later);
          passes = passes;
          above = omega arith;
          released = λ h. next_release_lem.again (omega arith);
          ahead = one_judged ∙ ap (λ (x : Option ℕ). after_job x r (worst_so_far worst) later) (reached_there running p amount there) ∙ ap later (sym e);
        }
