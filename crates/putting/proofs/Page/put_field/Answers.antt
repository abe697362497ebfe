use Rattle.putting.proofs.Pages.{adds_more}
use Rattle.putting.proofs.Page.put_field.Goals as goal

pub returns-clause-adds : goal.returns-clause-adds
returns-clause-adds c = adds_more c.put_byte.ensures c.put_number.ensures.adds
