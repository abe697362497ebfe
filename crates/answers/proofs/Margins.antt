-- "Margin is deadline minus response, .. from −15,999 to 15,999". Assumes nothing.
use Prim.Native.Nat.{ℕ, zero, suc, ◌-◌, ◌≤◌, ◌<◌}
use mathlib.Core.Path.{◌≡◌}
use mathlib.Core.Bool.{Bool, true, false, cond}
use native.Mathlib.Omega.{arith}
use lib.Dec.{ltb}
use lib.IntN.{pos, negsuc, nat_abs, ◌-ℤ◌}
use Rattle.table.specs.declared.Table.{Table}
use Rattle.table.specs.Places.{task_at, Obeyed}
use Rattle.table.proofs.Obeyed.{span_most, task_deadline}
use Rattle.answers.specs.Answers.{worst, verdict_of, margin_of}
use Rattle.answers.proofs.Responses.{worst_is}
use Rattle.answers.proofs.AfterRelease.{ends_after_release}

-- the difference of two numbers from 1 to 16,000
pub difference_within : (d n : ℕ) → 1 ≤ d → d ≤ 16000 → 1 ≤ n → n ≤ 16000 → nat_abs (pos d -ℤ pos n) ≤ 15999
difference_within d zero a b p q = absurd (omega arith)
difference_within d (suc n) a b p q = go (ltb d (suc n))
  where
    go : (t : Bool) → nat_abs (cond t (negsuc (suc n - suc d)) (pos (d - suc n))) ≤ 15999
    go true = omega arith
    go false = omega arith

module _ (table : Table) (ok : Obeyed table) (k : ℕ) (h : k < table.tasks_n) where
  -- a worst response is from 1 to 16,000
  pub worst_within : (n q : ℕ) → verdict_of table k ≡ worst n q → (1 ≤ n) × (n ≤ 16000)
  worst_within n q e =
      let w = worst_is table ok k h n q e in
      let x = w.all w.job q w.released in
      let after = ends_after_release table ok k h w.job q x.instant w.released x.ends in
      (omega (arith, after, w.attains), omega (arith, w.attains, x.ends.within, span_most table ok))

  pub margin_within : (n q : ℕ) → verdict_of table k ≡ worst n q → nat_abs (margin_of (task_at table k).deadline n) ≤ 15999
  margin_within n q e =
      let r = worst_within n q e in
      let d = task_deadline table ok k h in
      difference_within (task_at table k).deadline n d.0 d.1 r.0 r.1
