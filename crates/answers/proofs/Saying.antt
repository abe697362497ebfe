-- What the answers of tasks and servers say of the machine's run. Assumes nothing.
use Prim.Native.Nat.{ℕ, zero, suc, ◌≤◌, ◌<◌}
use mathlib.Core.Path.{◌≡◌, refl}
use mathlib.Core.Bool.{Bool, true, false}
use native.Mathlib.Omega.{arith}
use lib.Dec.{ltb}
use borrow.Author.Tests.{ltb-true, ltb-false}
use Rattle.table.specs.declared.Table.{Table}
use Rattle.table.specs.Places.{server_at, task_at, first_of, Obeyed}
use Rattle.table.proofs.Places.{first_is, first_not}
use Rattle.answers.specs.Answers.{Verdict, worst, unfinished, none, response_of, verdict_of, task_answer, full_periods, free_in, first_short, short_of, server_answer}
use Rattle.answers.specs.Jobs.{TaskSays, unheld_in, ShortSays, ServerSays}
use Rattle.answers.proofs.Responses.{worst_is, unfinished_is, none_is}
use Rattle.answers.proofs.FreeTicks.{full_ends, ends_full, free_counts}

-- ---- a task

pub task_says : (table : Table) → Obeyed table → (k : ℕ) → k < table.tasks_n → TaskSays table k (task_answer table k)
task_says table ok k h = go (verdict_of table k) refl
  where
    go : (x : Verdict) → verdict_of table k ≡ x → TaskSays table k (response_of (task_at table k).deadline x)
    go (worst n r) e = (worst_is table ok k h n r e, refl)
    go (unfinished r) e = unfinished_is table ok k h r e
    go none e = none_is table ok k h e

-- ---- a server

module _ (table : Table) (ok : Obeyed table) (i : ℕ) (h : i < table.servers_n) where
  abbrev C : ℕ
  C = (server_at table i).capacity

  abbrev full : ℕ
  full = full_periods table i

  abbrev is_short : ℕ → Bool
  is_short k = ltb (free_in table i k) C

  -- a full period that is short, or not, is so in the machine
  short_unheld : (k : ℕ) → k < full → is_short k ≡ true → unheld_in table i k < C
  short_unheld k l e = omega (arith, ltb-true (free_in table i k) C e, free_counts table ok i h k l)

  enough_unheld : (k : ℕ) → k < full → is_short k ≡ false → C ≤ unheld_in table i k
  enough_unheld k l e = omega (arith, ltb-false (free_in table i k) C e, free_counts table ok i h k l)

  -- the first short one, or none
  short_says : (n : ℕ) → first_of is_short full 0 ≡ n → ShortSays table i full (short_of n)
  short_says zero e = λ u l. enough_unheld u l (first_not is_short full 0 e u (omega arith) (omega arith))
  short_says (suc k) e =
      let f = first_is is_short full 0 k e in
      let l : k < full = omega (arith, f.below) in
      (l, short_unheld k l f.passes, λ u b. enough_unheld u (omega arith) (f.before u (omega arith) b))

  pub server_says : ServerSays table i (server_answer table i)
  server_says = record { full = full_ends table ok i h; no_more = ends_full table ok i h; first_short = short_says (first_short table i) refl }
