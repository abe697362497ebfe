-- Short periods, tied to the machine's free ticks. Assumes nothing.
use Prim.Native.Nat.{ℕ, zero, suc, ◌-◌, ◌*◌, ◌≤◌, ◌<◌}
use mathlib.Core.Path.{◌≡◌, refl, ap, ap₂, ◌∙◌}
use mathlib.Core.Bool.{false}
use native.Mathlib.Omega.{arith}
use native.Mathlib.Nat.{le-div_iff_mul-le, mul-le-mul_right}
use native.Mathlib.Decide.{dec_lt}
use lib.Dec.{ltb, eqb}
use borrow.Author.Tests.{lt-ltb, le-ltb, ne_eqb}
use Rattle.basics.specs.Choice.{pick}
use Rattle.windows.specs.Windows.{cover, upto}
use Rattle.windows.proofs.Counts.{upto_same}
use Rattle.table.specs.declared.Table.{Table}
use Rattle.table.specs.Places.{server_at, Obeyed}
use Rattle.machine.specs.Run.{holder_at}
use Rattle.table.proofs.Obeyed.{server_period}
use Rattle.schedule.specs.Curves.{free_of}
use Rattle.schedule.proofs.Marks.{mark_other, unmarked, unmarked_before, unmarked_behind}
use Rattle.schedule.proofs.FromCurves.{free_cover}
use Rattle.schedule.proofs.AsServers.{free_same}
use Rattle.answers.specs.Answers.{full_periods, free_in}
use Rattle.answers.specs.Jobs.{unheld, unheld_in}

-- where there is no number, no place is its own
unmarked_zero : (i : ℕ) → unmarked 0 i ≡ 1
unfolding unmarked
unmarked_zero zero = refl
unmarked_zero (suc i) = omega (arith, unmarked_zero i, mark_other 0 i (λ e. omega arith))

-- no place below i is the number's own just if there is no number, or i is below it
unmarked_is : (n i : ℕ) → unmarked n i ≡ pick (eqb n 0) 1 (pick (ltb i n) 1 0)
unmarked_is zero i = unmarked_zero i
unmarked_is (suc m) i = go (dec_lt i (suc m))
  where
    some : eqb (suc m) 0 ≡ false
    some = ne_eqb (suc m) 0 (λ e. omega arith)

    go : Dec (i < suc m) → unmarked (suc m) i ≡ pick (eqb (suc m) 0) 1 (pick (ltb i (suc m)) 1 0)
    go (yes h) = rw (some, lt-ltb i (suc m) h) (unmarked_before (suc m) i h)
    go (no h) = rw (some, le-ltb i (suc m) (omega arith)) (unmarked_behind m i (omega arith))

module _ (table : Table) (ok : Obeyed table) (i : ℕ) (h : i < table.servers_n) where
  -- a tick of the span is free for the server just if no server above it holds it
  pub free_unheld : (t : ℕ) → t < table.span → cover (free_of table i) t ≡ unheld table i t
  free_unheld t k =
      free_cover table ok i (omega arith) t k
      ∙ ap (λ (f : ℕ → ℕ). f t) (free_same table ok i (omega arith))
      ∙ unmarked_is (holder_at table t) i

  -- its free ticks below an instant of the span, counted
  unheld_counts : (t : ℕ) → t ≤ table.span → upto (cover (free_of table i)) t ≡ upto (unheld table i) t
  unheld_counts t k = upto_same (cover (free_of table i)) (unheld table i) t (λ u l. free_unheld u (omega arith))

  -- a period is full just if it ends in the span
  pub full_ends : (k : ℕ) → k < full_periods table i → suc k * (server_at table i).period ≤ table.span
  full_ends k l = (le-div_iff_mul-le (server_period table ok i h)).0 l

  pub ends_full : (k : ℕ) → suc k * (server_at table i).period ≤ table.span → k < full_periods table i
  ends_full k l = (le-div_iff_mul-le (server_period table ok i h)).1 l

  -- the free ticks of a full period are those of the machine
  pub free_counts : (k : ℕ) → k < full_periods table i → free_in table i k ≡ unheld_in table i k
  free_counts k l =
      let T = (server_at table i).period in
      let e : suc k * T ≤ table.span = full_ends k l in
      let s : k * T ≤ suc k * T = mul-le-mul_right T (omega arith) in
      ap₂ ◌-◌ (unheld_counts (suc k * T) e) (unheld_counts (k * T) (omega arith))
