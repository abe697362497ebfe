-- What a caller in C gets of the curve calls, of the report and of an analysis: 0, or the number of the refusal, and numbers through pointers.
use Rattle.std.specs.Prelude.{ℕ, ◌≡◌, List, [], ◌∷◌, ◌++◌, ℤ, pos, map, take, drop, Option, Some, None, Result}
use Rattle.refusals.specs.Outcomes.{front}
use Rattle.refusals.specs.declared.Refusal.{Refusal}
use Rattle.entries.specs.Entries.{rows}
use Rattle.answers.specs.declared.Analysis.{Analysis}
use Rattle.answers.specs.declared.Response.{Response}
use Rattle.answers.specs.declared.Response.TheVariants as response
use Rattle.answers.specs.declared.ServerAnswer.{ServerAnswer}
use Rattle.scheduling.specs.declared.Who.{Who}
use Rattle.handing_tables.specs.Tables.{refusal_in, handed, Counted}

-- ---- curve calls

-- an instant; 0 for not provided: no amount above 0 is provided at 0
abbrev pub instant_or0 : Option ℕ → ℕ
instant_or0 (Some t) = t
instant_or0 None = 0

-- ---- who holds a tick

-- by what is told of the tick
pub record HandsWho (told : Result Who Refusal) (holder runner : ℕ) (refusal : Refusal) (holder' runner' : ℕ) : Type 0 where
  pub refusal_is : refusal ≡ refusal_in told
  pub holds : holder' ≡ handed (λ (who : Who). who.holder) told holder
  pub runs : runner' ≡ handed (λ (who : Who). who.runner) told runner

-- ---- answers as numbers

-- 4,294,967,295 for none
abbrev pub short_number : Option ℕ → ℕ
short_number (Some k) = k
short_number None = 4294967295

-- 1 worst, 2 unfinished, 0 none
abbrev pub outcome_number : Response → ℕ
outcome_number (response.Worst w) = 1
outcome_number (response.Unfinished release) = 2
outcome_number response.None = 0

-- 0 where there is none
abbrev pub response_number : Response → ℕ
response_number (response.Worst w) = w.response
response_number (response.Unfinished release) = 0
response_number response.None = 0

abbrev pub release_number : Response → ℕ
release_number (response.Worst w) = w.release
release_number (response.Unfinished release) = release
release_number response.None = 0

abbrev pub margin_number : Response → ℤ
margin_number (response.Worst w) = w.margin
margin_number (response.Unfinished release) = pos 0
margin_number response.None = pos 0

-- "each result in a lent buffer starts at its front, and the rest is unchanged": one number of each of the first n entries, then the rest of the array
-- as it was
abbrev pub in_front : {A B : Type 0} → (A → B) → ℕ → List A → List B → List B
in_front f n l old = map f (take n l) ++ drop n old

-- ---- the arrays of an analysis

-- a server's row: its full periods, the first short one
abbrev pub server_answer_row : ServerAnswer → List ℕ
server_answer_row a = a.full ∷ (short_number a.short ∷ [])

-- a task's row: what is said of it, the response, the release
abbrev pub task_answer_row : Response → List ℕ
task_answer_row r = outcome_number r ∷ (response_number r ∷ (release_number r ∷ []))

-- the arrays afterwards: by the count, the answers and what was there before
abbrev pub server_answers : ℕ → List ServerAnswer → List ℕ → List ℕ
server_answers n l old = front (rows server_answer_row (take n l)) old

abbrev pub task_answers : ℕ → List Response → List ℕ → List ℕ
task_answers n l old = front (rows task_answer_row (take n l)) old

abbrev pub margins : ℕ → List Response → List ℤ → List ℤ
margins = in_front margin_number

-- what is handed out of the answers
pub record Listed : Type 0 where
  pub servers : List ℕ
  pub tasks : List ℕ
  pub margin : List ℤ

-- by an analysis: of each array the rows within the count are handed out, and the rest is as it was
pub record HandsAnalysis (analysed : Result Analysis Refusal) (n : Counted) (l : Listed) (refusal : Refusal) (n' : Counted) (l' : Listed) : Type 0 where
  pub refusal_is : refusal ≡ refusal_in analysed
  pub ticks : n'.span ≡ handed (λ (a : Analysis). a.span) analysed n.span
  pub servers_count : n'.servers ≡ handed (λ (a : Analysis). a.servers_n) analysed n.servers
  pub tasks_count : n'.tasks ≡ handed (λ (a : Analysis). a.tasks_n) analysed n.tasks
  pub servers_are : l'.servers ≡ handed (λ (a : Analysis). server_answers a.servers_n a.servers l.servers) analysed l.servers
  pub tasks_are : l'.tasks ≡ handed (λ (a : Analysis). task_answers a.tasks_n a.tasks l.tasks) analysed l.tasks
  pub margins_are : l'.margin ≡ handed (λ (a : Analysis). margins a.tasks_n a.tasks l.margin) analysed l.margin
