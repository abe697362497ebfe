-- Document 01, 'What the report program prints' and 'Checked examples': who holds each tick of tables A, B and C, and who runs in it.
use Rattle.std.specs.Prelude.{ℕ, zero, suc, ◌+◌, ◌*◌, ◌≡◌, List, [], ◌∷◌}
use Rattle.table.specs.declared.Kind.TheVariants.{Deferrable, Periodic}
use Rattle.table.specs.declared.Release.TheVariants.{Once, Every}
use Rattle.table.specs.declared.Table.{Table}
use Rattle.machine.specs.Run.{holder_at, runner_at}

abbrev pub table_a : Table
table_a = record {
  span = 40;
  servers_n = 2;
  tasks_n = 3;
  servers = record { kind = Deferrable; capacity = 3; period = 10 } ∷ record { kind = Deferrable; capacity = 2; period = 4 } ∷ [];
  tasks =
      record { server = 1; work = 1; release = Every 0 4; deadline = 4 }
      ∷ record { server = 2; work = 1; release = Every 0 5; deadline = 5 }
      ∷ record { server = 2; work = 2; release = Every 0 8; deadline = 8 }
      ∷ [];
}

abbrev pub table_b : Table
table_b = record {
  span = 8;
  servers_n = 2;
  tasks_n = 2;
  servers = record { kind = Deferrable; capacity = 2; period = 5 } ∷ record { kind = Deferrable; capacity = 2; period = 4 } ∷ [];
  tasks = record { server = 1; work = 4; release = Once 3; deadline = 5 } ∷ record { server = 2; work = 1; release = Every 0 4; deadline = 4 } ∷ [];
}

abbrev pub table_c : Table
table_c = record {
  span = 8;
  servers_n = 2;
  tasks_n = 2;
  servers = record { kind = Periodic; capacity = 2; period = 6 } ∷ record { kind = Deferrable; capacity = 1; period = 3 } ∷ [];
  tasks = record { server = 1; work = 1; release = Once 3; deadline = 5 } ∷ record { server = 2; work = 1; release = Once 0; deadline = 2 } ∷ [];
}

-- of each of the k ticks from t on, 10 times the holder and the runner
unfoldable pub ticks : Table → ℕ → ℕ → List ℕ
ticks table zero t = []
ticks table (suc k) t = (10 * holder_at table t + runner_at table t) ∷ ticks table k (suc t)

pub record Checked : Type 0 where
  pub a : ticks table_a 40 0
      ≡ 11 ∷ 22 ∷ 23 ∷ 0 ∷ 11 ∷ 22 ∷ 23 ∷ 0 ∷ 11 ∷ 23 ∷ 22 ∷ 0 ∷ 11 ∷ 23 ∷ 0 ∷ 22 ∷ 11 ∷ 23 ∷ 23 ∷ 0 ∷ 11 ∷ 22 ∷ 0 ∷ 0 ∷ 11 ∷ 22 ∷ 23 ∷ 0 ∷ 11 ∷ 23 ∷ 22 ∷ 0 ∷ 11 ∷ 23 ∷ 23 ∷ 0 ∷ 11 ∷ 22 ∷ 0 ∷ 0 ∷ []
  pub b : ticks table_b 8 0 ≡ 22 ∷ 0 ∷ 0 ∷ 11 ∷ 11 ∷ 11 ∷ 11 ∷ 22 ∷ []
  pub c : ticks table_c 8 0 ≡ 10 ∷ 10 ∷ 22 ∷ 0 ∷ 0 ∷ 0 ∷ 11 ∷ 10 ∷ []
