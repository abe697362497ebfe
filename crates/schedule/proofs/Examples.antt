-- The ticks of tables A, B and C, computed from the curves.
use mathlib.Core.Path.{refl}
use Rattle.windows.specs.Windows.{inside, cover, end_of, window, join, runs, upto, waiting, done, fit_in, fit}
use Rattle.windows.specs.Servers.{before, held}
use Rattle.table.specs.Places.{first_of}
use Rattle.schedule.specs.Curves.{below, releases_from, with_releases, demand_of, summed_below, held_in, free_of, left_below, running_of}
use Rattle.schedule.specs.Examples.{ticks_from, Checked}

pub checked : Checked
unfolding inside cover end_of window join runs upto waiting done fit_in fit before held first_of below releases_from with_releases demand_of summed_below held_in free_of left_below running_of ticks_from
checked = record { a = refl; b = refl; c = refl }
