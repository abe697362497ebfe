-- The report call has one outcome. Assumes nothing.
use Prim.Native.Nat.{ℕ}
use mathlib.Core.Path.{◌≡◌}
use mathlib.Core.List.{List}
use Rattle.std.specs.Prelude.{Result}
use Rattle.refusals.specs.declared.Refusal.{Refusal}
use Rattle.refusals.proofs.Outcomes.{leaves_once}
use Rattle.reporting.specs.Reporting.{report_for, report_outcome, Reports}

-- two outcomes that the contract permits are equal
pub reports_once : (text out : List ℕ) {r q : Result ℕ Refusal} {a b : List ℕ} → Reports text out r a → Reports text out q b → (r ≡ q) × (a ≡ b)
reports_once text out = leaves_once (report_outcome text out) (report_for text) out
