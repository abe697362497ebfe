-- there is room for every report, so the call is not refused
use Rattle.std.proofs.Common.{◌≡◌, refl, arith, ℕ, Result, Ok, Err, IsOk, rules}
use Rattle.refusals.specs.declared.Refusal.{Refusal}
use Rattle.reporting.proofs.Lengths.{report_not_refused}
use Rattle.report.proofs.answer.Goals as goal

accepted : (r : Result ℕ Refusal) → ((refusal : Refusal) → r ≡ Err refusal → ⊥) → IsOk r
accepted (Ok count) h = search rules
accepted (Err refusal) h = absurd (h refusal refl)

pub unwrap-count-requires : goal.unwrap-count-requires
unwrap-count-requires c = accepted c.report.result (report_not_refused c.args.text.now _ (omega arith) c.report.ensures)
