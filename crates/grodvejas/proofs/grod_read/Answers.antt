-- A table that is read has room in the arrays.
use Rattle.grodvejas.proofs.Texts.{reading_fits}
use Rattle.grodvejas.proofs.grod_read.Goals as goal

pub hand_reading-requires : goal.hand_reading-requires
hand_reading-requires c = rw c.read-read.ensures (reading_fits c.args.text.now)
