-- Demand 3: for every table that obeys the rules and every tick of its span, the server that holds the tick and the task that runs in it, read
-- from the curves, are the machine's. Assumes nothing.
use Prim.Native.Nat.{ℕ, zero, suc, ◌+◌, ◌≤◌, ◌<◌}
use mathlib.Core.Path.{◌≡◌, refl, ap, ◌∙◌}
use mathlib.Core.Bool.{Bool, true, false}
use native.Mathlib.Omega.{arith}
use native.Mathlib.Decide.{dec_lt, ℕ_discrete}
use lib.Dec.{ltb, eqb}
use borrow.Author.Tests.{eq-eqb, ne_eqb, eqb-true}
use Rattle.basics.specs.Choice.{pick}
use Rattle.windows.specs.Windows.{cover}
use Rattle.table.specs.declared.Table.{Table}
use Rattle.table.specs.Places.{first_of, Obeyed}
use Rattle.machine.specs.Machine.{ready, holder, runner}
use Rattle.machine.specs.Run.{state_before, holder_at, runner_at}
use Rattle.table.proofs.Places.{is_first, none_of_lem}
use Rattle.machine.proofs.OneTick.{holder_server, runner_task}
use Rattle.machine.proofs.WholeRun.{mark}
use Rattle.schedule.specs.Curves.{free_of, held_of, running_of, holder_from, runner_from}
use Rattle.schedule.specs.Ticks.{free_ticks}
use Rattle.schedule.proofs.FromCurves.{free_cover, held_inside, held_cover, held_free, free_next, running_cover}
use Rattle.schedule.proofs.AsMachine.{held_is_machine, run_is_machine}

-- ---- the first place that is marked with a number is the number's own

-- a mark, told by a test
mark_test : (n i : ℕ) → ltb 0 (mark n i) ≡ eqb n (suc i)
mark_test n i = go (eqb n (suc i))
  where
    go : (b : Bool) → ltb 0 (pick b 1 0) ≡ b
    go true = refl
    go false = refl

first_marked_lem : (p : ℕ → Bool) (k n : ℕ) → ((m : ℕ) → n ≡ suc m → m < k) → ((i : ℕ) → i < k → p i ≡ eqb n (suc i)) → first_of p k 0 ≡ n
first_marked_lem p k zero below e = eqb-true (first_of p k 0) 0 (none_of_lem p k (λ i h. e i h ∙ ne_eqb 0 (suc i) (λ q. omega arith)))
first_marked_lem p k (suc m) below e =
    is_first p k 0 m
    (record {
      from = omega arith;
      below = omega (arith, below m refl);
      passes = e m (below m refl) ∙ eq-eqb (suc m) (suc m) refl;
      before = λ u a b. e u (omega (arith, below m refl)) ∙ ne_eqb (suc m) (suc u) (λ q. omega arith);
    })

-- ---- demand 3

module _ (table : Table) (ok : Obeyed table) (t : ℕ) (h : t < table.span) where
  pub holder_agrees : holder_from table t ≡ holder_at table t
  unfolding holder
  holder_agrees =
      first_marked_lem (λ i. ltb 0 (cover (held_of table i) t)) table.servers_n (holder_at table t)
      (λ m e. holder_server table (ready table (state_before table t)) m e)
      (λ i k. ap (ltb 0) (held_cover table ok i k t h ∙ held_is_machine table ok i k t) ∙ mark_test (holder_at table t) i)

  pub runner_agrees : runner_from table t ≡ runner_at table t
  unfolding runner
  runner_agrees =
      first_marked_lem (λ j. ltb 0 (cover (running_of table j) t)) table.tasks_n (runner_at table t)
      (λ m e. runner_task table (ready table (state_before table t)) (holder_at table t) m e)
      (λ j k. ap (ltb 0) (running_cover table ok j k t h ∙ run_is_machine table ok j k t) ∙ mark_test (runner_at table t) j)

-- ---- free and held ticks share the span

-- how many of the servers above place i hold the tick
unfoldable pub held_above : Table → ℕ → ℕ → ℕ
held_above table zero t = 0
held_above table (suc i) t = held_above table i t + cover (held_of table i) t

module _ (table : Table) (ok : Obeyed table) where
  -- a tick of the span is free for a server just if no server above it holds it
  pub free_and_held : (i : ℕ) → i ≤ table.servers_n → (t : ℕ) → t < table.span → cover (free_of table i) t + held_above table i t ≡ 1
  unfolding held_above free_ticks
  free_and_held zero k t h = omega (arith, free_cover table ok 0 k t h)
  free_and_held (suc i) k t h = omega (arith, free_and_held i (omega arith) t h, free_next table ok i k t)

  held_above_lem : (i k : ℕ) → i < k → (t : ℕ) → cover (held_of table i) t ≤ held_above table k t
  unfolding held_above
  held_above_lem i zero h t = absurd (omega arith)
  held_above_lem i (suc k) h t = go (ℕ_discrete i k) (held_above_lem i k)
    where
      go : Dec (i ≡ k) → (i < k → (t : ℕ) → cover (held_of table i) t ≤ held_above table k t) → cover (held_of table i) t ≤ held_above table k t + cover (held_of table k) t
      go (yes e) ih = rw e (omega arith)
      go (no e) ih = omega (arith, ih (omega arith) t)

  -- the held ticks of two servers share none
  pub held_share_none : (i k : ℕ) → i < k → k < table.servers_n → (t : ℕ) → cover (held_of table i) t + cover (held_of table k) t ≤ 1
  held_share_none i k h l t = go (dec_lt t table.span)
    where
      go : Dec (t < table.span) → cover (held_of table i) t + cover (held_of table k) t ≤ 1
      go (yes e) = omega (arith, free_and_held k (omega arith) t e, held_above_lem i k h t, held_free table ok k l t)
      go (no e) = omega (arith, (held_inside table ok i (omega arith)).over t (omega arith), (held_inside table ok k l).over t (omega arith))
