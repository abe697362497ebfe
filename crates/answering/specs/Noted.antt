-- What is noted of the servers, and of all.
use Rattle.std.specs.Prelude.{ℕ, ◌≡◌, Bool, false, length, replicate, ltb}
use Rattle.windows.specs.Windows.{cover}
use Rattle.table.specs.declared.Table.{Table}
use Rattle.schedule.specs.Curves.{held_of}
use Rattle.answers.specs.Answers.{server_answer, no_server_answer, server_answers, no_task_answer, task_answers}
use Rattle.noting.specs.Noted.{Noted, runs_at}
use Rattle.answers.specs.declared.ServerAnswer.{ServerAnswer}
use Rattle.noting.specs.declared.PlaceNotes.{PlaceNotes}
use Rattle.answering.specs.declared.Notes.{Notes}

-- whether the server at place i holds a tick
abbrev pub holds_at : Table → ℕ → ℕ → Bool
holds_at table t i = ltb 0 (cover (held_of table i) t)

-- the servers at the places that pass a test are noted
pub record ServersNoted (table : Table) (tick : ℕ) (test : ℕ → Bool) (notes : PlaceNotes ServerAnswer 16) : Type 0 where
  pub all : length notes.answers ≡ 16
  pub answered : Noted (server_answer table) no_server_answer test notes.answers
  pub marks : length notes.marks ≡ 16
  pub marked : Noted (holds_at table tick) false test notes.marks

-- nothing is noted
abbrev pub NoNotes : Notes → Type 0
NoNotes notes =
    (notes.servers.answers ≡ replicate 16 no_server_answer) × (notes.servers.marks ≡ replicate 16 false)
    × (notes.tasks.answers ≡ replicate 64 no_task_answer) × (notes.tasks.marks ≡ replicate 64 false)

-- all are
pub record AllNoted (table : Table) (tick : ℕ) (notes : Notes) : Type 0 where
  pub servers : notes.servers.answers ≡ server_answers table
  pub tasks : notes.tasks.answers ≡ task_answers table
  pub holds : Noted (holds_at table tick) false (λ i. ltb i table.servers_n) notes.servers.marks
  pub runs : Noted (runs_at table tick) false (λ j. ltb j table.tasks_n) notes.tasks.marks
