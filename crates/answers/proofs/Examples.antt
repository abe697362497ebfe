-- The answers of tables A, B and C, computed.
use mathlib.Core.Path.{refl}
use Rattle.windows.specs.Windows.{inside, cover, end_of, window, join, runs, upto, waiting, done, fit_in, fit, first_given}
use Rattle.windows.specs.Servers.{before, held}
use Rattle.table.specs.Places.{first_of}
use Rattle.schedule.specs.Curves.{below, releases_from, with_releases, demand_of, summed_below, held_in, free_of, left_below, running_of}
use Rattle.answers.specs.Answers.{judged, verdict_of}
use Rattle.answers.specs.Examples.{Checked}

pub checked : Checked
unfolding inside cover end_of window join runs upto waiting done fit_in fit first_given before held first_of below releases_from with_releases demand_of summed_below held_in free_of left_below running_of judged verdict_of
checked = record {
  a_one = refl;
  a_two = refl;
  a_three = refl;
  a_full = (refl, refl);
  a_short = (refl, refl);
  b_one = refl;
  b_two = refl;
  b_full = (refl, refl);
  b_short = (refl, refl);
  c_one = refl;
  c_two = refl;
  margins = (refl, refl, refl);
}
