use Rattle.putting.proofs.Pages.{adds_more}
use Rattle.printing.specs.Report.{span_line}
use Rattle.printing.proofs.put_span.Goals as goal

pub returns-clause-adds : goal.returns-clause-adds
unfolding span_line
returns-clause-adds c = adds_more c.put_labelled.ensures.adds c.put_byte.ensures
