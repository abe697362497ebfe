-- Document 01: "Another public call takes a text and a tick and gives the same two numbers from the curves, with the analysis's refusals and
-- buffers."
use Rattle.std.specs.Prelude.{ℕ, ◌≡◌, List, Bool, Result, Ok, Err, is_ok, leb}
use Rattle.basics.specs.Choice.{pick}
use Rattle.table.specs.declared.Table.{Table}
use Rattle.schedule.specs.Curves.{holder_from, runner_from}
use Rattle.scheduling.specs.declared.Who.{Who}
use Rattle.refusals.specs.Refusals.{refused_for}
use Rattle.refusals.specs.declared.Ground.TheVariants.{OutOfStep}
use Rattle.refusals.specs.declared.Refusal.{Refusal}
use Rattle.opening.specs.Opening.{roomy, answer_of}
use Rattle.scheduling.specs.Buffers.{Buffers}

-- of an accepted table; 13: "tick asked is H or more, tested last"
abbrev pub at_tick : Table → ℕ → Result Who Refusal
at_tick table tick =
    pick (leb table.span tick) (Err (refused_for OutOfStep)) (Ok (record { holder = holder_from table tick; runner = runner_from table tick }))

-- the analysis's refusals, and 13 last: "A refusal hands back number and line only", and the place (document 02, E2)
abbrev pub who_of : List ℕ → ℕ → Bool → Result Who Refusal
who_of text tick room = answer_of Err (λ table. at_tick table tick) text room

-- of a text, a tick and six work buffers, the answer and the buffers afterwards
pub record Asks (text : List ℕ) (tick : ℕ) (a b c d e f : List ℕ) (r : Result Who Refusal) (a' b' c' d' e' f' : List ℕ) : Type 0 where
  pub answer : r ≡ who_of text tick (roomy a b c d e f)
  pub buffers : Buffers (is_ok r) a b c d e f a' b' c' d' e' f'
