-- Examples 1 to 10 of document 01, by computing. Assumes nothing.
use mathlib.Core.Path.{refl}
use Rattle.windows.specs.Windows.{inside, cover, end_of, window, join, runs, upto, waiting, done, parted, cut_at, fit_in, fit, first_given}
use Rattle.windows.specs.Examples.{Checked}

pub checked : Checked
unfolding inside cover end_of window join runs upto waiting done parted cut_at fit_in fit first_given
checked = record {
  one = refl;
  two = refl;
  three = refl;
  four = refl;
  five = refl;
  six = refl;
  seven = refl;
  eight = refl;
  nine = refl;
  ten = refl;
}
