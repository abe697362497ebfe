-- Document 01, 'What the report program prints': "Fields are parted by tabs, each line ends with a line feed."
use Rattle.std.specs.Prelude.{ℕ, zero, suc, List, [], ◌∷◌, ◌++◌, Option, Some, None, get_or, Result, Ok, Err}
use Rattle.fields.specs.Fields.{span_word, server_word, dash}
use Rattle.putting.specs.Decimal.{field, signed, feed}
use Rattle.refusals.specs.declared.Refusal.{Refusal}
use Rattle.answers.specs.Answers.{no_server_answer, no_task_answer}
use Rattle.answers.specs.declared.Response.{Response}
use Rattle.answers.specs.declared.Response.TheVariants as response
use Rattle.answers.specs.declared.ServerAnswer.{ServerAnswer}
use Rattle.answers.specs.declared.Analysis.{Analysis}

-- ---- the words refused, task, worst, unfinished, none; span and server are those of a table's text

abbrev pub refused_word : List ℕ
refused_word = 114 ∷ 101 ∷ 102 ∷ 117 ∷ 115 ∷ 101 ∷ 100 ∷ []

abbrev pub task_word : List ℕ
task_word = 116 ∷ 97 ∷ 115 ∷ 107 ∷ []

abbrev pub worst_word : List ℕ
worst_word = 119 ∷ 111 ∷ 114 ∷ 115 ∷ 116 ∷ []

abbrev pub unfinished_word : List ℕ
unfinished_word = 117 ∷ 110 ∷ 102 ∷ 105 ∷ 110 ∷ 105 ∷ 115 ∷ 104 ∷ 101 ∷ 100 ∷ []

abbrev pub none_word : List ℕ
none_word = 110 ∷ 111 ∷ 110 ∷ 101 ∷ []

-- ---- lines

-- "Refused: `refused`, number, line"; document 02, E2: "The `refused` line ends with the place"
unfoldable pub refused_line : Refusal → List ℕ
refused_line refusal = refused_word ++ (field refusal.number ++ (field refusal.line ++ (field refusal.place ++ feed)))

-- "Otherwise `span` and H"
unfoldable pub span_line : ℕ → List ℕ
span_line H = span_word ++ (field H ++ feed)

-- "the first short one (from 0) or `-`"
unfoldable pub short_field : Option ℕ → List ℕ
short_field (Some k) = field k
short_field None = 9 ∷ dash

-- "for each server `server`, number, count of full periods, the first short one (from 0) or `-`"
unfoldable pub server_line : ℕ → ServerAnswer → List ℕ
server_line number answer = server_word ++ (field number ++ (field answer.full ++ (short_field answer.short ++ feed)))

-- "`worst`, response, release of the first job that attains it, margin", "`unfinished`, release of the first job not ended at H", "`none`"
unfoldable pub response_fields : Response → List ℕ
response_fields (response.Worst w) = (9 ∷ worst_word) ++ (field w.response ++ (field w.release ++ signed w.margin))
response_fields (response.Unfinished release) = (9 ∷ unfinished_word) ++ field release
response_fields response.None = 9 ∷ none_word

-- "for each task, by number, .. `task`, number, .."
unfoldable pub task_line : ℕ → Response → List ℕ
task_line number answer = task_word ++ (field number ++ (response_fields answer ++ feed))

-- the lines of all entries of a list, the first of which has the place i; a number is one more than its place
unfoldable pub numbered : {A : Type 0} → (ℕ → A → List ℕ) → List A → ℕ → List ℕ
numbered line [] i = []
numbered line (a ∷ answers) i = line (suc i) a ++ numbered line answers (suc i)

-- the k lines from place i on; a number is one more than its place
unfoldable pub listed : {A : Type 0} → (ℕ → A → List ℕ) → A → List A → ℕ → ℕ → List ℕ
listed line none answers zero i = []
listed line none answers (suc k) i = line (suc i) (get_or answers i none) ++ listed line none answers k (suc i)

abbrev pub server_lines : List ServerAnswer → ℕ → ℕ → List ℕ
server_lines answers k i = listed server_line no_server_answer answers k i

abbrev pub task_lines : List Response → ℕ → ℕ → List ℕ
task_lines answers k i = listed task_line no_task_answer answers k i

-- ---- the report

unfoldable pub report_of : Result Analysis Refusal → List ℕ
report_of (Ok a) = span_line a.span ++ (server_lines a.servers a.servers_n 0 ++ task_lines a.tasks a.tasks_n 0)
report_of (Err refusal) = refused_line refusal
