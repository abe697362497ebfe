use Rattle.std.proofs.Common.{rules, w32}
use mir.Val.{SFits}
use mir.Facts.{to_z-of_z}
use Rattle.putting.proofs.Pages.{adds_more}
use Rattle.printing.specs.Report.{response_fields}
use Rattle.printing.proofs.put_worst.Goals as goal

pub returns-clause-adds : goal.returns-clause-adds
unfolding response_fields
returns-clause-adds c =
    let fits : SFits w32 c.args.worst.margin = search rules in
    let margin = rw (to_z-of_z fits) at c.put_margin.ensures.adds in
    adds_more c.put_labelled.ensures.adds (adds_more c.put_field.ensures.adds margin)
