-- Two curves below H added up: there is room for the sum, and what lies at H or later can be cut off. Assumes nothing.
use Prim.Native.Nat.{ℕ, ◌+◌, ◌≤◌, ◌<◌}
use mathlib.Core.Path.{◌≡◌, sym, ap, ◌∙◌}
use mathlib.Core.List.{List}
use mathlib.Core.Bool.{true}
use native.Mathlib.Omega.{arith}
use lib.ListN.{length, take, drop, length-append, length-drop}
use lib.Seq.{take_at, length-take-le}
use borrow.Author.Tests.{le-leb}
use Rattle.windows.specs.Windows.{is_plain, cover, end_of, add_up, done, always, ◌⊕◌}
use Rattle.windows.proofs.Ticks.{plain_apart, apart_plain, end_below}
use Rattle.windows.proofs.Runs.{runs_end}
use Rattle.windows.proofs.Adding.{add_plain}
use Rattle.refusals.specs.Outcomes.{front}
use Rattle.walks.specs.Rooms.{fits_in}
use Rattle.table.specs.declared.Task.{Task}
use Rattle.schedule.specs.Curves.{below, demand_of}
use Rattle.schedule.proofs.Demands.{Inside, below_inside, demand_inside}
use Rattle.buffers.specs.Parts.{PlainBelow, Wrote}
use Rattle.demands.specs.Walks.{StartsBelow, TaskObeyed}
use Rattle.buffers.proofs.Fronts.{plain_room}
use Rattle.demands.proofs.Cutoffs.{add_starts, cut_length}

-- ---- a plain curve below H, told in two ways

pub plain_below : (H : ℕ) (l : List ℕ) → H ≤ 1000000 → Inside H l → PlainBelow H l
plain_below H l h p =
    record { plain = apart_plain 0 l p.apart (omega (arith, end_below l 0 H p.apart p.over)); over = p.over }

pub below_plain : (H : ℕ) (l : List ℕ) → PlainBelow H l → Inside H l
below_plain H l p = record { apart = plain_apart 0 l p.plain; over = p.over }

-- what lies below a lower end lies below a higher one
pub plain_higher : (H K : ℕ) (l : List ℕ) → H ≤ K → PlainBelow H l → PlainBelow K l
plain_higher H K l h p = record { plain = p.plain; over = λ t k. p.over t (omega arith) }

pub plain_ends : (H : ℕ) (l : List ℕ) → PlainBelow H l → end_of l ≤ H
plain_ends H l p = end_below l 0 H (plain_apart 0 l p.plain) p.over

-- ---- a result at the front of a buffer

pub front_wrote : (l old after : List ℕ) (n : ℕ) → length l ≤ length old → n ≡ length l → after ≡ front l old → Wrote old after n l
front_wrote l old after n h count whole =
    let sized : length l + length (drop (length l) old) ≡ length old = omega (arith, length-drop (length l) old) in
    let long : length after ≡ length old = ap length whole ∙ length-append l (drop (length l) old) ∙ sized in
    record { same = long; count = omega arith; front = ap (take n) whole ∙ take_at l _ n (sym count) }

-- ---- adding up

module _ (H : ℕ) (a b out : List ℕ) (z : 0 < H) (h : H ≤ 16000) (p : PlainBelow H a) (q : PlainBelow H b) (room : 16000 ≤ length out) where
  pub starts : StartsBelow H (add_up a b)
  starts = add_starts H a b z (plain_apart 0 a p.plain) (plain_apart 0 b q.plain) p.over q.over

  pub sum_ends : end_of (add_up a b) ≤ 1000000
  sum_ends = omega (arith, runs_end (done (cover a ⊕ cover b) always) (end_of a + end_of b) 0, plain_ends H a p, plain_ends H b q)

  pub sum_plain : is_plain (add_up a b) ≡ true
  sum_plain = add_plain a b (plain_apart 0 a p.plain) (plain_apart 0 b q.plain) sum_ends

  sum_cut : PlainBelow 16000 (below H (add_up a b))
  sum_cut = plain_higher H 16000 _ h (plain_below H _ (omega arith) (below_inside H (add_up a b) (plain_apart 0 (add_up a b) sum_plain)))

  -- the sum has room
  pub sum_few : length (add_up a b) ≤ 16000
  sum_few = omega (arith, plain_room (below H (add_up a b)) sum_cut, cut_length H 0 (add_up a b) (plain_apart 0 (add_up a b) sum_plain) starts)

  sum_short : length (add_up a b) ≤ length out
  sum_short = omega (arith, sum_few)

  -- so it can be written
  pub sum_fits : fits_in (add_up a b) (length out) ≡ true
  sum_fits = rw (le-leb (length (add_up a b)) (length out) sum_short, le-leb (end_of (add_up a b)) 1000000 sum_ends)

  -- it is written to the front of the buffer
  pub sum_wrote : {n : ℕ} {after : List ℕ} → (n ≡ length (add_up a b)) × (after ≡ front (add_up a b) out) → Wrote out after n (add_up a b)
  sum_wrote w = front_wrote (add_up a b) out _ _ sum_short w.0 w.1

-- what was written has as many numbers as were written
pub written_length : {n : ℕ} {old new l : List ℕ} → Wrote old new n l → length l ≡ n
written_length {n} {old} {new} w = ap length (sym w.front) ∙ length-take-le n new w.count

-- a task's demand is a plain curve below the span
pub demand_plain : (task : Task) (span : ℕ) → TaskObeyed task → span ≤ 16000 → PlainBelow span (demand_of span task)
demand_plain task span ok h = plain_below span (demand_of span task) (omega arith) (demand_inside span task ok.some)

-- so is one that was written
pub written_plain : {task : Task} {span n : ℕ} {old new : List ℕ} → TaskObeyed task → span ≤ 16000 → Wrote old new n (demand_of span task) → PlainBelow span (take n new)
written_plain {task} {span} ok h w = rw w.front (demand_plain task span ok h)
