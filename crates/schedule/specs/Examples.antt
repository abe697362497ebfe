-- Document 01, tables A, B and C: who holds each tick and who runs in it, read from the curves.
use Rattle.std.specs.Prelude.{ℕ, zero, suc, ◌+◌, ◌*◌, ◌≡◌, List, [], ◌∷◌}
use Rattle.table.specs.declared.Table.{Table}
use Rattle.machine.specs.Examples.{table_a, table_b, table_c}
use Rattle.schedule.specs.Curves.{holder_from, runner_from}

-- of each of the k ticks from t on, 10 times the holder and the runner
unfoldable pub ticks_from : Table → ℕ → ℕ → List ℕ
ticks_from table zero t = []
ticks_from table (suc k) t = (10 * holder_from table t + runner_from table t) ∷ ticks_from table k (suc t)

pub record Checked : Type 0 where
  pub a : ticks_from table_a 40 0
      ≡ 11 ∷ 22 ∷ 23 ∷ 0 ∷ 11 ∷ 22 ∷ 23 ∷ 0 ∷ 11 ∷ 23 ∷ 22 ∷ 0 ∷ 11 ∷ 23 ∷ 0 ∷ 22 ∷ 11 ∷ 23 ∷ 23 ∷ 0 ∷ 11 ∷ 22 ∷ 0 ∷ 0 ∷ 11 ∷ 22 ∷ 23 ∷ 0 ∷ 11 ∷ 23 ∷ 22 ∷ 0 ∷ 11 ∷ 23 ∷ 23 ∷ 0 ∷ 11 ∷ 22 ∷ 0 ∷ 0 ∷ []
  pub b : ticks_from table_b 8 0 ≡ 22 ∷ 0 ∷ 0 ∷ 11 ∷ 11 ∷ 11 ∷ 11 ∷ 22 ∷ []
  pub c : ticks_from table_c 8 0 ≡ 10 ∷ 10 ∷ 22 ∷ 0 ∷ 0 ∷ 0 ∷ 11 ∷ 10 ∷ []
