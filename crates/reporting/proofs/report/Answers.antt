-- An analysis has no more entries than there are places.
use Rattle.std.proofs.Common.{◌≡◌, sym, ◌≤◌, ℕ, List, true, IfOk, Result, Ok, Err, rules}
use Rattle.answers.specs.declared.Analysis.{Analysis}
use Rattle.refusals.specs.declared.Refusal.{Refusal}
use Rattle.scheduling.specs.Analysing.{analysis_of}
use Rattle.scheduling.proofs.Analyses.{analysis_sized}
use Rattle.reporting.proofs.report.Goals as goal

few : (text : List ℕ) (x : Result Analysis Refusal) → x ≡ analysis_of text true → IfOk x (λ a. (a.servers_n ≤ 16) × (a.tasks_n ≤ 64))
few text (Ok a) e = let sized = analysis_sized text a (sym e) in (sized.servers_most, sized.tasks_most)
few text (Err refusal) e = search rules

pub count-n-requires : goal.count-n-requires
count-n-requires c = few c.args.text.now c.analysed-analysis.result c.analysed-analysis.ensures

pub put_report-requires : goal.put_report-requires
put_report-requires c = few c.args.text.now c.analysed-analysis.result c.analysed-analysis.ensures
