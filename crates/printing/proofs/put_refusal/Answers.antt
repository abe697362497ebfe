use Rattle.putting.proofs.Pages.{adds_more}
use Rattle.printing.specs.Report.{refused_line}
use Rattle.printing.proofs.put_refusal.Goals as goal

pub returns-clause-adds : goal.returns-clause-adds
unfolding refused_line
returns-clause-adds c =
    adds_more c.put_labelled.ensures.adds (adds_more c.put_field.ensures.adds (adds_more c.put_field-2.ensures.adds c.put_byte.ensures))
