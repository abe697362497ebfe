-- What each public call promises: its outcome, and every lent buffer as it is left.
use Rattle.std.specs.Prelude.{ℕ, ◌≡◌, List, Option, Result}
use Rattle.windows.specs.Windows.{add_up, cut_at, fit}
use Rattle.curves.specs.Refusals.{add_outcome, cut_outcome, provide_outcome, fit_outcome}
use Rattle.refusals.specs.Outcomes.{lent, Leaves}
use Rattle.refusals.specs.declared.Refusal.{Refusal}
use Rattle.fitting.specs.declared.Counts.{Counts}

-- of two curves and a buffer, the answer and the buffer afterwards
abbrev pub Adds : List ℕ → List ℕ → List ℕ → Result ℕ Refusal → List ℕ → Type 0
Adds a b out r after = Leaves (add_outcome a b out) (add_up a b) out r after

-- of a curve, a period and a buffer, the answer and the buffer afterwards
abbrev pub Cuts : List ℕ → ℕ → List ℕ → Result ℕ Refusal → List ℕ → Type 0
Cuts curve T out r after = Leaves (cut_outcome curve T out) (cut_at T curve) out r after

-- of a demand, a supply and three buffers, the answer and the buffers afterwards
abbrev pub Fits : List ℕ → List ℕ → List ℕ → List ℕ → List ℕ → Result Counts Refusal → List ℕ → List ℕ → List ℕ → Type 0
Fits demand supply left served rest r left' served' rest' =
    (r ≡ fit_outcome demand supply left served rest)
    × (left' ≡ lent (fit_outcome demand supply left served rest) (fit demand supply).left left)
    × (served' ≡ lent (fit_outcome demand supply left served rest) (fit demand supply).served served)
    × (rest' ≡ lent (fit_outcome demand supply left served rest) (fit demand supply).rest rest)

-- of a curve and an amount, the answer
abbrev pub Provides : List ℕ → ℕ → Result (Option ℕ) Refusal → Type 0
Provides curve n r = r ≡ provide_outcome curve n
