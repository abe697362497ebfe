-- The summed demand of a server, task by task. Assumes nothing.
use Prim.Native.Nat.{ℕ, suc, ◌+◌, ◌≤◌, ◌<◌}
use mathlib.Core.Path.{◌≡◌, refl, sym, ap, ◌∙◌}
use mathlib.Core.List.{List}
use native.Mathlib.Omega.{arith}
use native.Mathlib.Numerals.{add-one}
use lib.ListN.{length, take, get_or}
use lib.Seq.{length-take-le, get_or-take}
use borrow.Author.Tests.{eq-eqb, ne_eqb}
use Rattle.windows.specs.Windows.{add_up}
use Rattle.table.specs.declared.Table.{Table}
use Rattle.table.specs.Rules.{no_task, tasks_of}
use Rattle.table.specs.Places.{task_at, Obeyed}
use Rattle.table.proofs.Obeyed.{span_most, task_some, task_work, task_release}
use Rattle.schedule.specs.Curves.{below, demand_of, summed_below}
use Rattle.schedule.proofs.Demands.{summed_inside}
use Rattle.buffers.specs.Parts.{PlainBelow, Curve, Wrote}
use Rattle.demands.specs.Walks.{TaskObeyed}
use Rattle.demands.proofs.Additions.{plain_below}

-- each task of a table that obeys the rules
pub task_obeyed : (table : Table) → Obeyed table → (j : ℕ) → j < table.tasks_n → TaskObeyed (task_at table j)
task_obeyed table ok j h = record { some = task_some table ok j h; most = task_work table ok j h; release = task_release table ok j h }

-- the tasks within the count, one at a time
module _ (table : Table) (ok : Obeyed table) (j : ℕ) (h : j < length (tasks_of table)) where
  pub counted : j < table.tasks_n
  counted = omega (arith, length-take-le table.tasks_n table.tasks ok.tasks)

  pub task_is : get_or (tasks_of table) j no_task ≡ task_at table j
  task_is = get_or-take table.tasks_n table.tasks j no_task counted

-- a curve that was written, and lies below H
pub written_curve : {n : ℕ} {old new l : List ℕ} (H : ℕ) → 16000 ≤ length old → Wrote old new n l → PlainBelow H l → Curve new n H
written_curve H room w p = record { room = omega (arith, room, w.same); count = w.count; curve = rw w.front p }

module _ (table : Table) (i : ℕ) (first : List ℕ) where
  -- before the first task
  pub sum_none : Wrote first first 0 (summed_below table i 0)
  unfolding summed_below
  sum_none = record { same = refl; count = omega arith; front = refl }

  module _ (ok : Obeyed table) (j : ℕ) {now : List ℕ} {n : ℕ} (w : Wrote first now n (summed_below table i j)) where
    -- the sum so far is a curve below the span
    pub sum_curve : 16000 ≤ length first → j ≤ table.tasks_n → Curve now n table.span
    sum_curve room h =
        written_curve table.span room w
        (plain_below table.span (summed_below table i j) (omega (arith, span_most table ok)) (summed_inside table ok i j h))

    module _ (server : ℕ) (e : server ≡ suc i) where
      -- one task of the server more
      pub sum_own : {new : List ℕ} {m : ℕ} → (task_at table j).server ≡ server
          → Wrote now new m (below table.span (add_up (take n now) (demand_of table.span (task_at table j)))) → Wrote first new m (summed_below table i (j + 1))
      unfolding summed_below
      sum_own {new} {m} own v = record {
        same = v.same ∙ w.same;
        count = v.count;
        front =
            rw (add-one j, eq-eqb (task_at table j).server (suc i) (own ∙ e))
            (v.front ∙ ap (λ (l : List ℕ). below table.span (add_up l (demand_of table.span (task_at table j)))) w.front);
      }

      -- one task of another server more
      pub sum_other : ¬ ((task_at table j).server ≡ server) → Wrote first now n (summed_below table i (j + 1))
      unfolding summed_below
      sum_other other = record {
        same = w.same;
        count = w.count;
        front = rw (add-one j, ne_eqb (task_at table j).server (suc i) (λ q. other (q ∙ sym e))) w.front;
      }
