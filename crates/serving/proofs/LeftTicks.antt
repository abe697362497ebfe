-- What is left of a server's held ticks as they go to its tasks in order. Assumes nothing.
use Prim.Native.Nat.{ℕ, suc, ◌+◌, ◌-◌, ◌≤◌, ◌<◌}
use mathlib.Core.Path.{◌≡◌, sym, ap, ◌∙◌}
use mathlib.Core.List.{List}
use mathlib.Core.Bool.{true, false}
use native.Mathlib.Numerals.{add-one}
use native.Mathlib.Omega.{arith}
use lib.ListN.{length, take}
use borrow.Author.Tests.{eq-eqb, ne_eqb}
use Rattle.windows.specs.Windows.{fit}
use Rattle.table.specs.declared.Table.{Table}
use Rattle.table.specs.Places.{task_at, Obeyed}
use Rattle.table.proofs.Obeyed.{span_most}
use Rattle.schedule.specs.Curves.{belongs, demand_of, held_of, left_below, running_of}
use Rattle.schedule.proofs.FromCurves.{left_inside, running_inside}
use Rattle.buffers.specs.Parts.{PlainBelow, Curve, Wrote}
use Rattle.demands.proofs.Additions.{plain_below}

-- the first k numbers of a buffer are the ticks left to the task at place j
pub record Left (table : Table) (i : ℕ) (held : List ℕ) (k j : ℕ) : Type 0 where
  pub within : j ≤ table.tasks_n
  pub count : k ≤ length held
  pub front : take k held ≡ left_below table i j

-- at first all held ticks are left
pub left_all : (table : Table) (i : ℕ) (held : List ℕ) (n : ℕ) → n ≤ length held → take n held ≡ held_of table i → Left table i held n 0
unfolding left_below
left_all table i held n h e = record { within = omega arith; count = h; front = e }

module _ {table : Table} {i : ℕ} {held : List ℕ} {k j : ℕ} (w : Left table i held k j) where
  -- the ticks left are a curve below the span
  pub left_curve : Obeyed table → i < table.servers_n → 16000 ≤ length held → Curve held k table.span
  left_curve ok h room =
      let p = plain_below table.span (left_below table i j) (omega (arith, span_most table ok)) (left_inside table ok i h j w.within) in
      record { room = room; count = w.count; curve = rw w.front p }

  module _ (h : j < table.tasks_n) where
    -- the demand of the task there
    abbrev demand : List ℕ
    demand = demand_of table.span (task_at table j)

    -- a task of another server takes nothing
    pub left_other : ¬ ((task_at table j).server ≡ suc i) → Left table i held k (j + 1)
    unfolding left_below
    left_other d =
        let not : belongs table i j ≡ false = ne_eqb (task_at table j).server (suc i) d in
        let same : left_below table i (j + 1) ≡ left_below table i j = rw (add-one j, not) in
        record { within = omega arith; count = w.count; front = w.front ∙ sym same }

    module _ (e : (task_at table j).server ≡ suc i) where
      -- what the fitting of its demand serves are the ticks in which the task runs
      pub left_served : {first run : List ℕ} {m : ℕ} → Wrote first run m (fit demand (take k held)).served → take m run ≡ running_of table j
      unfolding running_of
      left_served served =
          let same : i ≡ (task_at table j).server - 1 = omega arith in
          served.front ∙ ap (λ (l : List ℕ). (fit demand l).served) (w.front ∙ ap (λ (p : ℕ). left_below table p j) same)

      -- they are a curve below the span
      pub served_plain : Obeyed table → {first run : List ℕ} {m : ℕ} → Wrote first run m (fit demand (take k held)).served → PlainBelow table.span (take m run)
      served_plain ok served =
          rw (left_served served)
          (plain_below table.span (running_of table j) (omega (arith, span_most table ok)) (running_inside table ok j h))

      -- the next task has what it leaves
      pub left_next : {after : List ℕ} {l : ℕ} → Wrote held after l (fit demand (take k held)).left → Left table i after l (j + 1)
      unfolding left_below
      left_next left =
          let mine : belongs table i j ≡ true = eq-eqb (task_at table j).server (suc i) e in
          let same : left_below table i (j + 1) ≡ (fit demand (left_below table i j)).left = rw (add-one j, mine) in
          record { within = omega arith; count = left.count; front = left.front ∙ ap (λ (l : List ℕ). (fit demand l).left) w.front ∙ sym same }
