-- What a server would hold, whatever its kind: a step between 01's two sentences and the one walk that holds.
use Rattle.std.specs.Prelude.{ℕ, List, []}
use Rattle.windows.specs.Windows.{window}
use Rattle.table.specs.Places.{server_at}
use Rattle.table.specs.declared.Kind.{Kind}
use Rattle.table.specs.declared.Kind.TheVariants.{Deferrable, Periodic}
use Rattle.table.specs.declared.Table.{Table}
use Rattle.schedule.specs.Curves.{summed}

-- what a server would hold: its tasks' summed demand, or the whole span
abbrev pub wanted_by : Kind → Table → ℕ → List ℕ
wanted_by Deferrable table i = summed table i
wanted_by Periodic table i = window 0 table.span []

abbrev pub wanted_of : Table → ℕ → List ℕ
wanted_of table i = wanted_by (server_at table i).kind table i
