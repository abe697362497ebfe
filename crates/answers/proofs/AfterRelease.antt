-- A job ends after its release, so that finish minus release is a difference of instants. Assumes nothing.
use Prim.Native.Nat.{ℕ, zero, suc, ◌+◌, ◌-◌, ◌*◌, ◌≤◌, ◌<◌}
use mathlib.Core.Path.{◌≡◌, refl, ap}
use mathlib.Core.List.{List, ◌∷◌}
use mathlib.Core.Bool.{Bool, true, false}
use native.Mathlib.Omega.{arith}
use native.Mathlib.Decide.{dec_lt}
use lib.ListN.{length, get_or}
use Rattle.basics.specs.Choice.{pick}
use Rattle.windows.specs.Windows.{upto}
use Rattle.windows.proofs.Counts.{upto_rises}
use Rattle.table.specs.declared.Task.{Task}
use Rattle.table.specs.declared.Table.{Table}
use Rattle.table.specs.Places.{task_at, Obeyed}
use Rattle.table.specs.Releases.{released_at, gains}
use Rattle.machine.specs.Run.{runs_in}
use Rattle.table.proofs.Obeyed.{task_some}
use Rattle.machine.proofs.WholeRun.{work_counts}
use Rattle.schedule.specs.Curves.{releases_from}
use Rattle.answers.specs.Jobs.{Job, releases_of, Ends}

-- before its release at place i of the list, i jobs more came than before the list
work_before : (task : Task) (k t i : ℕ) → i < length (releases_from task.release k t)
    → upto (gains task) (get_or (releases_from task.release k t) i 0) ≡ upto (gains task) t + i * task.work
unfolding releases_from upto
work_before task zero t i h = absurd (omega arith)
work_before task (suc k) t i h = go (released_at task.release t) refl i h (work_before task k (suc t))
  where
    rest : List ℕ
    rest = releases_from task.release k (suc t)

    gained : (b : Bool) → released_at task.release t ≡ b → upto (gains task) (suc t) ≡ upto (gains task) t + pick b task.work 0
    gained b e = ap (λ (c : Bool). upto (gains task) t + pick c task.work 0) e

    go : (b : Bool) → released_at task.release t ≡ b → (i : ℕ) → i < length (pick b (t ∷ rest) rest)
        → ((i : ℕ) → i < length rest → upto (gains task) (get_or rest i 0) ≡ upto (gains task) (suc t) + i * task.work)
        → upto (gains task) (get_or (pick b (t ∷ rest) rest) i 0) ≡ upto (gains task) t + i * task.work
    go true e zero l ih = omega arith
    go true e (suc i) l ih = omega (arith, ih i (omega arith), gained true e)
    go false e i l ih = omega (arith, ih i l, gained false e)

-- one job less
one_less_lem : (n w : ℕ) → 1 ≤ n → (n - 1) * w + w ≡ n * w
one_less_lem zero w h = absurd (omega arith)
one_less_lem (suc m) w h = let e : suc m - 1 ≡ m = omega arith in rw e (omega arith)

module _ (table : Table) (ok : Obeyed table) (k : ℕ) (h : k < table.tasks_n) where
  -- no more is run than was released
  ran_released : (t : ℕ) → upto (runs_in table k) t ≤ upto (gains (task_at table k)) t
  ran_released t = omega (arith, work_counts table ok k h t)

  pub ends_after_release : (n r t : ℕ) → Job (releases_of table k) n r → Ends table k n t → r < t
  unfolding upto
  ends_after_release n r t j e = go (dec_lt r t)
    where
      w : ℕ
      w = (task_at table k).work

      came : upto (gains (task_at table k)) r ≡ 0 + (n - 1) * w
      came = rw j.release at (work_before (task_at table k) table.span 0 (n - 1) (omega (arith, j.some, j.most)))

      go : Dec (r < t) → r < t
      go (yes l) = l
      go (no l) =
          absurd
          (omega (
            arith,
            e.ran,
            ran_released t,
            upto_rises (gains (task_at table k)) t r (omega arith),
            came,
            one_less_lem n w j.some,
            task_some table ok k h,
          ))
