-- The digits of some numbers and margins, computed.
use mathlib.Core.Path.{refl}
use Rattle.putting.specs.Decimal.{digits}
use Rattle.putting.specs.Examples.{Checked}

pub checked : Checked
unfolding digits
checked = record { numbers = (refl, refl, refl); margins = (refl, refl, refl) }
