use Rattle.putting.proofs.Pages.{adds_more}
use Rattle.printing.specs.Report.{server_line}
use Rattle.printing.proofs.ServerAnswerEntry.put.Goals as goal

pub returns-clause-adds : goal.returns-clause-adds
unfolding server_line
returns-clause-adds c =
    adds_more c.put_labelled.ensures.adds (adds_more c.put_field.ensures.adds (adds_more c.put_short.ensures.adds c.put_byte.ensures))
