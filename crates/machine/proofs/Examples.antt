-- The ticks of tables A, B and C, computed.
use mathlib.Core.Path.{refl}
use Rattle.machine.specs.Machine.{along, ready, holder, runner, next}
use Rattle.table.specs.Places.{first_of}
use Rattle.machine.specs.Run.{state_before}
use Rattle.machine.specs.Examples.{ticks, Checked}

pub checked : Checked
unfolding along first_of ready holder runner next state_before ticks
checked = record { a = refl; b = refl; c = refl }
