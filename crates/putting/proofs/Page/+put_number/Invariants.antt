-- `putting::Page::put_number` ends: the value falls.
use Rattle.putting.proofs.Page.+put_number.Given as goal

abbrev pub decreases-put_number : goal.decreases-put_number
decreases-put_number l = l.value
