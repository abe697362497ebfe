-- One byte of the word more.
use Rattle.putting.proofs.Pages.{adds_next}
use Rattle.putting.proofs.Page.put_word.Goals as goal

pub loop-byte-preserved : goal.loop-byte-preserved
loop-byte-preserved c = adds_next _ _ c.loop-byte-test.true c.loop-byte.invariant c.put_byte.ensures
