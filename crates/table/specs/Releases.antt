-- Document 01, 'The table text': when a task is released.
use Rattle.std.specs.Prelude.{ℕ, ◌-◌, ◌%◌, Bool, ◌&&◌, leb, eqb}
use Rattle.basics.specs.Choice.{pick}
use Rattle.table.specs.declared.Release.{Release}
use Rattle.table.specs.declared.Release.TheVariants.{Once, Every}
use Rattle.table.specs.declared.Task.{Task}

-- "once, at its instant, or at its offset and every period after it"
abbrev pub released_at : Release → ℕ → Bool
released_at (Once instant) t = eqb t instant
released_at (Every offset period) t = leb offset t && eqb ((t - offset) % period) 0

abbrev pub gains : Task → ℕ → ℕ
gains task t = pick (released_at task.release t) task.work 0
