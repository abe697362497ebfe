-- What has been noted so far, place by place: of anything, and of the tasks.
use Rattle.std.specs.Prelude.{ℕ, ◌≡◌, List, Bool, false, ◌&&◌, length, get_or, ltb}
use Rattle.basics.specs.Choice.{pick}
use Rattle.windows.specs.Windows.{cover}
use Rattle.table.specs.Places.{task_at}
use Rattle.table.specs.declared.Table.{Table}
use Rattle.schedule.specs.Curves.{running_of}
use Rattle.answers.specs.Answers.{task_answer, no_task_answer}
use Rattle.answers.specs.declared.Response.{Response}
use Rattle.noting.specs.declared.PlaceNotes.{PlaceNotes}

-- of a list, what belongs to the places that pass a test is there, and the others are empty
pub record Noted {A : Type 0} (f : ℕ → A) (empty : A) (test : ℕ → Bool) (l : List A) : Type 0 where
  pub each : (k : ℕ) → get_or l k empty ≡ pick (test k) (f k) empty

-- whether a task of a server whose number is below s is at a place
abbrev pub of_below : Table → ℕ → ℕ → Bool
of_below table s k = ltb k table.tasks_n && ltb (task_at table k).server s

-- whether the task at place j runs in a tick
abbrev pub runs_at : Table → ℕ → ℕ → Bool
runs_at table t j = ltb 0 (cover (running_of table j) t)

-- the tasks at the places that pass a test are noted
pub record TasksNoted (table : Table) (tick : ℕ) (test : ℕ → Bool) (notes : PlaceNotes Response 64) : Type 0 where
  pub all : length notes.answers ≡ 64
  pub answered : Noted (task_answer table) no_task_answer test notes.answers
  pub marks : length notes.marks ≡ 64
  pub marked : Noted (runs_at table tick) false test notes.marks
