-- Document 01, 'Numbers given on refusal': of the curve calls.
use Rattle.std.specs.Prelude.{ℕ, List, ◌&&◌, length, eqb, Option, Result, Ok, Err}
use Rattle.refusals.specs.Refusals.{refused_for}
use Rattle.refusals.specs.declared.Refusal.{Refusal}
use Rattle.refusals.specs.declared.Ground.TheVariants.{ArgumentZero, NotPlain, NoRoom}
use Rattle.walks.specs.Rooms.{fits_in}
use Rattle.fitting.specs.Steps.{fits_all}
use Rattle.fitting.specs.declared.Counts.{Counts}
use Rattle.basics.specs.Choice.{pick}
use Rattle.windows.specs.Windows.{is_plain, add_up, cut_at, Fit, fit, provide}

-- ---- the outcome of each call: "Curve calls: 12, 10, 11"

-- the answer of a call that writes one result
abbrev pub wrote : List ℕ → List ℕ → Result ℕ Refusal
wrote result out = pick (fits_in result (length out)) (Ok (length result)) (Err (refused_for NoRoom))

abbrev pub add_outcome : List ℕ → List ℕ → List ℕ → Result ℕ Refusal
add_outcome a b out = pick (is_plain a && is_plain b) (wrote (add_up a b) out) (Err (refused_for NotPlain))

abbrev pub cut_outcome : List ℕ → ℕ → List ℕ → Result ℕ Refusal
cut_outcome curve T out = pick (eqb T 0) (Err (refused_for ArgumentZero)) (pick (is_plain curve) (wrote (cut_at T curve) out) (Err (refused_for NotPlain)))

-- the instant, or none where it is not provided
abbrev pub provide_outcome : List ℕ → ℕ → Result (Option ℕ) Refusal
provide_outcome curve n = pick (eqb n 0) (Err (refused_for ArgumentZero)) (pick (is_plain curve) (Ok (provide curve n)) (Err (refused_for NotPlain)))

-- how many numbers each of fitting's results has
abbrev pub lengths_of : Fit → Counts
lengths_of o = record { left = length o.left; served = length o.served; rest = length o.rest }

abbrev pub fit_outcome : List ℕ → List ℕ → List ℕ → List ℕ → List ℕ → Result Counts Refusal
fit_outcome demand supply left served rest =
    pick (is_plain demand && is_plain supply)
    (pick (fits_all (fit demand supply) (length left) (length served) (length rest)) (Ok (lengths_of (fit demand supply))) (Err (refused_for NoRoom)))
    (Err (refused_for NotPlain))
