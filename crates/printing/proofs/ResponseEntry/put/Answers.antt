use Rattle.putting.proofs.Pages.{adds_more}
use Rattle.printing.specs.Report.{task_line}
use Rattle.printing.proofs.ResponseEntry.put.Goals as goal

pub returns-clause-adds : goal.returns-clause-adds
unfolding task_line
returns-clause-adds c = adds_more c.put_labelled.ensures.adds (adds_more c.put_response.ensures.adds c.put_byte.ensures)
