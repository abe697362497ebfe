-- The answers have room in the arrays.
use Rattle.grodvejas.proofs.Texts.{analysis_fits}
use Rattle.grodvejas.proofs.grod_analyse.Goals as goal

pub hand_analysis-requires : goal.hand_analysis-requires
hand_analysis-requires c = rw c.analyse-analysed.ensures.answer (analysis_fits c.args.text.now _)
