-- The notes of a server's tasks, one by one. Assumes nothing.
use Prim.Native.Nat.{ℕ, suc, ◌+◌, ◌-◌, ◌≤◌, ◌<◌}
use mathlib.Core.Path.{◌≡◌, refl, ap, ◌∙◌}
use mathlib.Core.List.{List}
use mathlib.Core.Bool.{Bool, true, false}
use native.Mathlib.Omega.{arith}
use native.Mathlib.Numerals.{add-one}
use native.Mathlib.Decide.{ℕ_discrete}
use lib.ListN.{length, take, set, length-set}
use lib.Dec.{ltb}
use borrow.Author.Tests.{eq-eqb, ne_eqb}
use Rattle.windows.specs.Windows.{cover, fit}
use Rattle.table.specs.declared.Table.{Table}
use Rattle.table.specs.Places.{task_at, Obeyed}
use Rattle.table.proofs.Obeyed.{tasks_most}
use Rattle.schedule.specs.Curves.{releases_from, demand_of, belongs, left_below, running_of}
use Rattle.answers.specs.Answers.{none, judged, verdict_of, response_of, task_answer, no_task_answer}
use Rattle.answers.specs.declared.Response.{Response}
use Rattle.buffers.specs.Parts.{Wrote}
use Rattle.noting.specs.declared.PlaceNotes.{PlaceNotes}
use Rattle.noting.specs.Noted.{Noted, of_below, runs_at, TasksNoted}
use Rattle.serving.proofs.LeftTicks.{Left, left_other, left_served, left_next}
use Rattle.noting.proofs.Noting.{noted_same, noted_more, reached, reached_none, reached_apart, reached_other, reached_own, reached_all}

-- ---- the tasks of the server with number s

-- the walk along the tasks has come to place j, with the ticks left to the task there and the notes of the tasks before it
pub record Answering (table : Table) (tick s : ℕ) (held : List ℕ) (k j : ℕ) (notes : PlaceNotes Response 64) : Type 0 where
  pub left : Left table (s - 1) held k j
  pub noted : TasksNoted table tick (reached table s j) notes

-- a test that says the same
tasks_same : {table : Table} {tick : ℕ} {test other : ℕ → Bool} {notes : PlaceNotes Response 64} → ((k : ℕ) → test k ≡ other k)
    → TasksNoted table tick test notes → TasksNoted table tick other notes
tasks_same {table} {tick} e w = record {
  all = w.all;
  answered = noted_same (task_answer table) no_task_answer e w.answered;
  marks = w.marks;
  marked = noted_same (runs_at table tick) false e w.marked;
}

pub answering_starts : (table : Table) (s : ℕ) {tick : ℕ} {held : List ℕ} {n : ℕ} {notes : PlaceNotes Response 64} → Left table (s - 1) held n 0
    → TasksNoted table tick (of_below table s) notes → Answering table tick s held n 0 notes
answering_starts table s l w = record { left = l; noted = tasks_same (reached_none table s) w }

module _ {table : Table} {tick s : ℕ} {held : List ℕ} {k j : ℕ} {notes : PlaceNotes Response 64} (w : Answering table tick s held k j notes) where
  -- all tasks of the server are noted
  pub answering_ends : table.tasks_n ≤ j → TasksNoted table tick (of_below table (s + 1)) notes
  answering_ends h = tasks_same (reached_all table s j h) w.noted

  module _ (ok : Obeyed table) (some : 0 < s) (h : j < table.tasks_n) where
    -- there is a place for the notes of the task there
    pub answer_place : j < length notes.answers
    answer_place = omega (arith, w.noted.all, tasks_most table ok)

    pub mark_place : j < length notes.marks
    mark_place = omega (arith, w.noted.marks, tasks_most table ok)

    -- a task of another server is passed
    pub answering_other : ¬ ((task_at table j).server ≡ s) → Answering table tick s held k (j + 1) notes
    answering_other d = record { left = left_other w.left h (λ e. d (omega arith)); noted = tasks_same (reached_other table s j d) w.noted }

    module _ (e : (task_at table j).server ≡ s) where
      abbrev place : (task_at table j).server ≡ suc (s - 1)
      place = omega arith

      -- what is judged on the ticks served is the task's answer
      answer_is : {first run : List ℕ} {m : ℕ} → Wrote first run m (fit (demand_of table.span (task_at table j)) (take k held)).served → (a : Response)
          → a ≡ response_of (task_at table j).deadline (judged (take m run) (task_at table j).work 1 (releases_from (task_at table j).release table.span 0) none)
          → a ≡ task_answer table j
      unfolding verdict_of
      answer_is served a d =
          d ∙ ap
          (λ (l : List ℕ). response_of (task_at table j).deadline (judged l (task_at table j).work 1 (releases_from (task_at table j).release table.span 0) none))
          (left_served w.left h place served)

      -- a task of the server is noted, and the next one has what it leaves
      pub answering_own : {first run after : List ℕ} {m l : ℕ}
          → Wrote first run m (fit (demand_of table.span (task_at table j)) (take k held)).served
          → Wrote held after l (fit (demand_of table.span (task_at table j)) (take k held)).left → (a : Response)
          → a ≡ response_of (task_at table j).deadline (judged (take m run) (task_at table j).work 1 (releases_from (task_at table j).release table.span 0) none)
          → (b : Bool) → b ≡ ltb 0 (cover (take m run) tick)
          → Answering table tick s after l (j + 1) (record { answers = set notes.answers j a; marks = set notes.marks j b })
      answering_own served left a d b q = record {
        left = left_next w.left h place left;
        noted =
            record {
              all = length-set notes.answers j a ∙ w.noted.all;
              answered =
                  noted_more (task_answer table) no_task_answer notes.answers j a (reached_apart table s j) (reached_own table s j h e)
                  answer_place (answer_is served a d) w.noted.answered;
              marks = length-set notes.marks j b ∙ w.noted.marks;
              marked =
                  noted_more (runs_at table tick) false notes.marks j b (reached_apart table s j) (reached_own table s j h e) mark_place
                  (q ∙ ap (λ (l : List ℕ). ltb 0 (cover l tick)) (left_served w.left h place served)) w.noted.marked;
            };
      }

-- ---- the same in equations, for a turn whose branch is not known yet

module _ (table : Table) (s j : ℕ) (some : 0 < s) where
  abbrev before : List ℕ
  before = left_below table (s - 1) j

  abbrev its_demand : List ℕ
  its_demand = demand_of table.span (task_at table j)

  pub passes : ¬ ((task_at table j).server ≡ s) → left_below table (s - 1) (j + 1) ≡ before
  unfolding left_below
  passes d =
      let not : belongs table (s - 1) j ≡ false = ne_eqb (task_at table j).server (suc (s - 1)) (λ e. d (omega arith)) in
      rw (add-one j, not)

  pub takes : (task_at table j).server ≡ s → left_below table (s - 1) (j + 1) ≡ (fit its_demand before).left
  unfolding left_below
  takes e =
      let mine : belongs table (s - 1) j ≡ true = eq-eqb (task_at table j).server (suc (s - 1)) (omega arith) in
      rw (add-one j, mine)

  pub runs_in : (task_at table j).server ≡ s → (fit its_demand before).served ≡ running_of table j
  unfolding running_of
  runs_in e = let same : s - 1 ≡ (task_at table j).server - 1 = omega arith in ap (λ (p : ℕ). (fit its_demand (left_below table p j)).served) same

  -- the response that its ticks give, and whether they cover a tick
  abbrev responds : List ℕ → Response
  responds l = response_of (task_at table j).deadline (judged l (task_at table j).work 1 (releases_from (task_at table j).release table.span 0) none)

  pub answers_with : (l : List ℕ) → l ≡ running_of table j → responds l ≡ task_answer table j
  unfolding verdict_of
  answers_with l e = ap responds e

-- what is noted of a task of the server, and nothing of another
pub noted_turn : {A : Type 0} (f : ℕ → A) (empty : A) (table : Table) (s j : ℕ) (old new : List A) → j < table.tasks_n → j < length old → Noted f empty (reached table s j) old
    → ((task_at table j).server ≡ s → new ≡ set old j (f j)) → (¬ ((task_at table j).server ≡ s) → new ≡ old) → Noted f empty (reached table s (j + 1)) new
noted_turn f empty table s j old new h room w own other = go (ℕ_discrete (task_at table j).server s)
  where
    go : Dec ((task_at table j).server ≡ s) → Noted f empty (reached table s (j + 1)) new
    go (yes e) = rw (own e) (noted_more f empty old j (f j) (reached_apart table s j) (reached_own table s j h e) room refl w)
    go (no d) = rw (other d) (noted_same f empty (reached_other table s j d) w)
