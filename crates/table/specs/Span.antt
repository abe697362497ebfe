-- Document 01, 'The table text': "`-` in `span` means the least common multiple of all server periods and all `every` periods".
use Rattle.std.specs.Prelude.{ℕ, zero, suc, ◌%◌, List, ◌++◌, map, Bool, eqb, Option, Some, None}
use Rattle.std.specs.List.{filter_map}
use Rattle.basics.specs.Choice.{pick}
use Rattle.table.specs.Rules.{all}
use Rattle.table.specs.declared.Server.{Server}
use Rattle.table.specs.declared.Task.{Task}
use Rattle.table.specs.declared.Release.{Release}
use Rattle.table.specs.declared.Release.TheVariants.{Once, Every}

unfoldable pub server_periods : List Server → List ℕ
server_periods servers = map (λ s. s.period) servers

-- the period, of a release that has one
abbrev pub period_of : Release → Option ℕ
period_of (Once instant) = None
period_of (Every offset period) = Some period

unfoldable pub task_periods : List Task → List ℕ
task_periods tasks = filter_map (λ k. period_of k.release) tasks

abbrev pub periods_of : List Server → List Task → List ℕ
periods_of servers tasks = server_periods servers ++ task_periods tasks

-- every period divides n
abbrev pub is_multiple : List ℕ → ℕ → Bool
is_multiple periods n = all (λ p. eqb (n % p) 0) periods

-- the first common multiple, of the k numbers from n on
unfoldable pub first_multiple : List ℕ → ℕ → ℕ → Option ℕ
first_multiple periods zero n = None
first_multiple periods (suc k) n = pick (is_multiple periods n) (Some n) (first_multiple periods k (suc n))

-- the least common multiple above 0, or none if it is above 16,000
abbrev pub span_of : List ℕ → Option ℕ
span_of periods = first_multiple periods 16000 1
