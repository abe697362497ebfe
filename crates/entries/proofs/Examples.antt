-- The rows of the examples and what they make, computed.
use mathlib.Core.Path.{refl}
use Rattle.entries.specs.Entries.{rows, server_in, task_in}
use Rattle.entries.specs.Examples.{Checked}

pub checked : Checked
unfolding rows server_in task_in
checked = record {
  servers = refl;
  tasks = refl;
  server_back = (refl, refl);
  task_back = (refl, refl);
  once_back = refl;
  no_kind = (refl, refl);
  no_release = (refl, refl);
}
