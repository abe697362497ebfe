-- How long a report can be, and that a buffer of so many bytes is never refused. Assumes nothing.
use Prim.Native.Nat.{ℕ, ◌≤◌}
use mathlib.Core.Path.{◌≡◌, refl}
use mathlib.Core.List.{List}
use mathlib.Core.Bool.{true}
use native.Mathlib.Omega.{arith}
use lib.ListN.{length}
use Rattle.refusals.specs.declared.Refusal.{Refusal}
use Rattle.std.specs.Prelude.{Result, Ok, Err}
use Rattle.answers.specs.declared.Analysis.{Analysis}
use Rattle.putting.proofs.Rooms.{room_not_refused}
use Rattle.scheduling.specs.Analysing.{analysis_of}
use Rattle.scheduling.proofs.Analyses.{analysis_sized, analysis_within, refusal_within}
use Rattle.printing.specs.Report.{report_of}
use Rattle.printing.proofs.Lengths.{report_most, refused_report_most}
use Rattle.reporting.specs.Reporting.{report_for, Reports}

-- the report of any text has at most 2,475 bytes
pub report_short : (text : List ℕ) → length (report_for text) ≤ 2475
report_short text = go (analysis_of text true) refl
  where
    go : (x : Result Analysis Refusal) → analysis_of text true ≡ x → length (report_of (analysis_of text true)) ≤ 2475
    go (Ok a) e = let sized = analysis_sized text a e in rw e (report_most a (analysis_within text a e) sized.servers_most sized.tasks_most)
    go (Err refusal) e = rw e (refused_report_most refusal (refusal_within text refusal e))

-- where so many bytes are lent, the report is written
pub report_not_refused : (text out : List ℕ) {r : Result ℕ Refusal} {after : List ℕ} → 2475 ≤ length out → Reports text out r after → (refusal : Refusal) → r ≡ Err refusal → ⊥
report_not_refused text out room p = room_not_refused (report_for text) out (omega (arith, report_short text)) p
