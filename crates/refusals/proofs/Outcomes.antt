-- A call that writes one result has one outcome. Assumes nothing.
use Prim.Native.Nat.{ℕ}
use mathlib.Core.Path.{◌≡◌, sym, ◌∙◌}
use mathlib.Core.List.{List}
use Rattle.std.specs.Prelude.{Result}
use Rattle.refusals.specs.Outcomes.{Leaves}
use Rattle.refusals.specs.declared.Refusal.{Refusal}

-- two outcomes that the contract permits are equal
pub leaves_once : (outcome : Result ℕ Refusal) (result old : List ℕ) {r q : Result ℕ Refusal} {a b : List ℕ}
    → Leaves outcome result old r a → Leaves outcome result old q b → (r ≡ q) × (a ≡ b)
leaves_once outcome result old p o = (p.answer_is ∙ sym o.answer_is, p.buffer ∙ sym o.buffer)
