-- Below zero a minus sign stands in front of the digits.
use Rattle.putting.proofs.Pages.{adds_more}
use Rattle.putting.proofs.Signs.{signed_below}
use Rattle.putting.proofs.Page.put_margin.Goals as goal

pub returns-then-margin-lt0-clause-adds : goal.returns-then-margin-lt0-clause-adds
returns-then-margin-lt0-clause-adds c =
    rw (signed_below _ c.ranges.margin c.if-margin-lt0.true c.unsigned_abs-ticks.ensures.value) at (adds_more c.put_word.ensures c.put_number.ensures.adds)
