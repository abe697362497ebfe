-- What a caller in C gets of a call that may be refused: 0, or the number of the refusal. "A refusal hands back number and line only and changes nothing
-- lent", and by document 02, E2, the "field's place": what is handed out through a pointer is then as it was before, but for line and place. "A refused
-- step also hands back the state it got, with 0 for server and task".
use Rattle.std.specs.Prelude.{ℕ, ◌≡◌, List, Result, Ok, Err}
use Rattle.refusals.specs.Refusals.{no_refusal}
use Rattle.refusals.specs.Outcomes.{front}
use Rattle.refusals.specs.declared.Refusal.{Refusal}
use Rattle.entries.specs.Entries.{rows, server_row, task_row}
use Rattle.table.specs.Rules.{servers_of, tasks_of}
use Rattle.table.specs.declared.Table.{Table}
use Rattle.machine.specs.Machine.{step_of, handed_back}
use Rattle.machine.specs.declared.State.{State}
use Rattle.machine.specs.declared.Step.{Step}

-- the refusal that an outcome hands out: all of it is 0 where nothing is refused
abbrev pub refusal_in : {A : Type 0} → Result A Refusal → Refusal
refusal_in (Ok a) = no_refusal
refusal_in (Err refusal) = refusal

abbrev pub number_in : {A : Type 0} → Result A Refusal → ℕ
number_in outcome = (refusal_in outcome).number

-- what an outcome hands out, or what was there before
abbrev pub handed : {A B : Type 0} → (A → B) → Result A Refusal → B → B
handed f (Ok a) old = f a
handed f (Err refusal) old = old

-- a table's span and counts
pub record Counted : Type 0 where
  pub span : ℕ
  pub servers : ℕ
  pub tasks : ℕ

-- by what is read of a text: of each array the rows within the count are handed out, and the rest is as it was
pub record HandsReading (read : Result Table Refusal) (n : Counted) (servers tasks : List ℕ) (refusal : Refusal) (n' : Counted) (servers' tasks' : List ℕ)
    : Type 0 where
  pub refusal_is : refusal ≡ refusal_in read
  pub ticks : n'.span ≡ handed (λ (table : Table). table.span) read n.span
  pub servers_count : n'.servers ≡ handed (λ (table : Table). table.servers_n) read n.servers
  pub tasks_count : n'.tasks ≡ handed (λ (table : Table). table.tasks_n) read n.tasks
  pub servers_are : servers' ≡ handed (λ (table : Table). front (rows server_row (servers_of table)) servers) read servers
  pub tasks_are : tasks' ≡ handed (λ (table : Table). front (rows task_row (tasks_of table)) tasks) read tasks

-- a step of a text's machine: the text's refusal, or what the step answers
abbrev pub step_for : Result Table Refusal → State → Result Step Refusal
step_for (Ok table) state = step_of table state
step_for (Err refusal) state = Err refusal

-- by what a step answers: the refusal, and what is handed back of the step: the state, holder and runner
pub record HandsStep (stepped : Result Step Refusal) (before : State) (refusal : Refusal) (after : State) (holder' runner' : ℕ) : Type 0 where
  pub refusal_is : refusal ≡ refusal_in stepped
  pub next : after ≡ (handed_back before stepped).next
  pub holds : holder' ≡ (handed_back before stepped).holder
  pub runs : runner' ≡ (handed_back before stepped).runner

-- a refusal of which only the number is handed out: it has no line and no place
abbrev pub unplaced : ℕ → Refusal
unplaced number = record { number = number; line = 0; place = 0 }
