-- What each exported call promises: its number, or its refusal (number, line and place) where it hands one out, and everything that is handed out or lent
-- as it is left. A value with a prime stands for afterwards.
use Rattle.std.specs.Prelude.{ℕ, ◌≡◌, List, Result, is_ok}
use Rattle.windows.specs.Windows.{add_up, cut_at, fit}
use Rattle.fitting.specs.declared.Counts.{Counts}
use Rattle.curves.specs.Refusals.{add_outcome, cut_outcome, fit_outcome, provide_outcome}
use Rattle.refusals.specs.Outcomes.{lent}
use Rattle.refusals.specs.declared.Refusal.{Refusal}
use Rattle.table.specs.declared.Table.{Table}
use Rattle.entries.specs.Entries.{table_from}
use Rattle.reading.specs.Reading.{reading_of}
use Rattle.writing.specs.Text.{text_of}
use Rattle.writing.specs.Writing.{write_outcome}
use Rattle.machine.specs.Machine.{step_of}
use Rattle.machine.specs.declared.State.{State}
use Rattle.opening.specs.Opening.{roomy}
use Rattle.scheduling.specs.Buffers.{Buffers}
use Rattle.scheduling.specs.Asking.{who_of}
use Rattle.scheduling.specs.Analysing.{analysis_of}
use Rattle.reporting.specs.Reporting.{report_for, report_outcome}
use Rattle.handing_tables.specs.Tables.{number_in, handed, Counted, HandsReading, step_for, HandsStep, unplaced}
use Rattle.handing.specs.Handing.{instant_or0, HandsWho, Listed, HandsAnalysis}

-- ---- the calls that write one result

-- by the outcome, the result and the buffer: the number, how much is written, and the buffer afterwards
pub record Wrote (outcome : Result ℕ Refusal) (result old : List ℕ) (count r count' : ℕ) (after : List ℕ) : Type 0 where
  pub number : r ≡ number_in outcome
  pub counted : count' ≡ handed (λ n. n) outcome count
  pub buffer : after ≡ lent outcome result old

abbrev pub Adds : (a b out : List ℕ) (count r count' : ℕ) (out' : List ℕ) → Type 0
Adds a b out = Wrote (add_outcome a b out) (add_up a b) out

abbrev pub Cuts : (curve : List ℕ) (period : ℕ) (out : List ℕ) (count r count' : ℕ) (out' : List ℕ) → Type 0
Cuts curve period out = Wrote (cut_outcome curve period out) (cut_at period curve) out

abbrev pub Reports : (text out : List ℕ) (count r count' : ℕ) (out' : List ℕ) → Type 0
Reports text out = Wrote (report_outcome text out) (report_for text) out

-- the table of a span, two counts and two arrays of rows
abbrev pub table_of : Counted → (servers tasks : List ℕ) → Table
table_of n servers tasks = table_from n.span n.servers n.tasks servers tasks

abbrev pub Writes : (n : Counted) (servers tasks out : List ℕ) (count r count' : ℕ) (out' : List ℕ) → Type 0
Writes n servers tasks out = Wrote (write_outcome (table_of n servers tasks) out) (text_of (table_of n servers tasks)) out

-- ---- the other calls on curves

pub record Fits (demand supply left served rest : List ℕ) (l s d r l' s' d' : ℕ) (left' served' rest' : List ℕ) : Type 0 where
  pub number : r ≡ number_in (fit_outcome demand supply left served rest)
  pub left_count : l' ≡ handed (λ (n : Counts). n.left) (fit_outcome demand supply left served rest) l
  pub served_count : s' ≡ handed (λ (n : Counts). n.served) (fit_outcome demand supply left served rest) s
  pub rest_count : d' ≡ handed (λ (n : Counts). n.rest) (fit_outcome demand supply left served rest) d
  pub left_buffer : left' ≡ lent (fit_outcome demand supply left served rest) (fit demand supply).left left
  pub served_buffer : served' ≡ lent (fit_outcome demand supply left served rest) (fit demand supply).served served
  pub rest_buffer : rest' ≡ lent (fit_outcome demand supply left served rest) (fit demand supply).rest rest

pub record Provides (curve : List ℕ) (amount instant r instant' : ℕ) : Type 0 where
  pub number : r ≡ number_in (provide_outcome curve amount)
  pub reached : instant' ≡ handed instant_or0 (provide_outcome curve amount) instant

-- ---- the calls on a table

-- what is read of a text
abbrev pub Reads : (text : List ℕ) (n : Counted) (servers tasks : List ℕ) (refusal : Refusal) (n' : Counted) (servers' tasks' : List ℕ) → Type 0
Reads text = HandsReading (reading_of text)

-- of a text and a state: "a refused step also hands back the state it got, with 0 for server and task"
abbrev pub Steps : (text : List ℕ) (before : State) (refusal : Refusal) (after : State) (holder' runner' : ℕ) → Type 0
Steps text before = HandsStep (step_for (reading_of text) before) before

-- the same of a table that is given by its rows: no text is read, so that there is no line and no place
abbrev pub StepsTable : (n : Counted) (servers tasks : List ℕ) (before : State) (r : ℕ) (after : State) (holder' runner' : ℕ) → Type 0
StepsTable n servers tasks before r = HandsStep (step_of (table_of n servers tasks) before) before (unplaced r)

-- ---- the calls on a text and six work buffers

-- who holds a tick: by the answer of the call on a text and a tick
pub record Tells (text : List ℕ) (tick : ℕ) (a b c d e f : List ℕ) (holder runner : ℕ) (refusal : Refusal) (holder' runner' : ℕ)
    (a' b' c' d' e' f' : List ℕ) : Type 0 where
  pub who : HandsWho (who_of text tick (roomy a b c d e f)) holder runner refusal holder' runner'
  pub buffers : Buffers (is_ok (who_of text tick (roomy a b c d e f))) a b c d e f a' b' c' d' e' f'

pub record Analyses (text : List ℕ) (a b c d e f : List ℕ) (n : Counted) (l : Listed) (refusal : Refusal) (n' : Counted) (l' : Listed)
    (a' b' c' d' e' f' : List ℕ) : Type 0 where
  pub answers : HandsAnalysis (analysis_of text (roomy a b c d e f)) n l refusal n' l'
  pub buffers : Buffers (is_ok (analysis_of text (roomy a b c d e f))) a b c d e f a' b' c' d' e' f'
