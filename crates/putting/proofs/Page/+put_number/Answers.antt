-- The digits of the tenth, if the number has more than one, then the last one.
use Rattle.std.proofs.Common.{arith}
use Rattle.putting.proofs.Numbers.{number_small, number_room, number_more, number_most}
use Rattle.putting.proofs.Page.+put_number.Goals as goal
use Rattle.putting.proofs.Page.+put_number.Goals.{then-value-ge10, else-value-ge10}

pub put_byte-requires : goal.put_byte-requires
put_byte-requires t c = elim c.if-value-ge10.branch [
  | then-value-ge10 w ↦ rw w.self-is (omega (arith, number_room _ w.if-value-ge10.true c.ranges.value w.put_number.ensures.adds))
  | else-value-ge10 w ↦ rw w.self-is (omega arith)
]

pub returns-clause-adds : goal.returns-clause-adds
returns-clause-adds t c = elim c.if-value-ge10.branch [
  | then-value-ge10 w ↦ number_more _ w.if-value-ge10.true w.put_number.ensures.adds (rw w.self-is at c.put_byte.ensures)
  | else-value-ge10 w ↦ number_small _ w.if-value-ge10.false (rw w.self-is at c.put_byte.ensures)
]

pub returns-clause-most : goal.returns-clause-most
returns-clause-most t c = number_most _ c.ranges.value (returns-clause-adds t c)
