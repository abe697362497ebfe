-- A task's demand fitted into the ticks that are left to it: with no limit in a period, the walk that holds is fitting. Assumes nothing.
use Prim.Native.Nat.{ℕ, ◌≤◌}
use mathlib.Core.Path.{◌≡◌, ap, sym, ◌∙◌}
use mathlib.Core.List.{List}
use mathlib.Core.Bool.{true}
use native.Mathlib.Omega.{arith}
use lib.ListN.{take}
use Rattle.windows.specs.Windows.{cover, is_plain, fit}
use Rattle.windows.proofs.Ticks.{plain_apart, cover_one}
use Rattle.windows.proofs.Capacity.{held_unlimited}
use Rattle.windows.proofs.Fitting.{fit_ticks, fit_leaves, fit_served_plain, fit_left_plain}
use Rattle.table.specs.declared.Task.{Task}
use Rattle.schedule.specs.Curves.{demand_of}
use Rattle.buffers.specs.Parts.{PlainBelow, Curve, Drawn, Wrote}
use Rattle.demands.specs.Walks.{TaskObeyed}
use Rattle.demands.proofs.Additions.{plain_higher, demand_plain}
use Rattle.holding.specs.Pieces.{held_from, left_from}
use Rattle.serving.proofs.ServerTicks.{drawn_is}

module _ (d s : List ℕ) (p : is_plain d ≡ true) (q : is_plain s ≡ true) where
  -- what is served is what is held
  served_covers : (t : ℕ) → cover (fit d s).served t ≡ held_from 16000 16000 d s t
  served_covers t =
      ap (λ (f : ℕ → ℕ). f t)
      (fit_ticks d s p q ∙ sym (held_unlimited 16000 16000 (cover d) (cover s) (omega arith) (λ u. cover_one s 0 u (plain_apart 0 s q)) (omega arith)))

  -- and the rest is left
  left_covers : (t : ℕ) → cover (fit d s).left t ≡ left_from 16000 16000 d s t
  left_covers t = omega (arith, fit_leaves d s p q t, served_covers t)

-- a task's demand at the front of one buffer, and what is left to it at the front of another
module _ {task : Task} {span m n : ℕ} {first part held : List ℕ} (ok : TaskObeyed task) (h : span ≤ 16000)
    (w : Wrote first part m (demand_of span task)) (c : Curve held n span) where
  -- the demand lies below the span
  demand_below : PlainBelow span (take m part)
  demand_below = rw w.front (demand_plain task span ok h)

  -- both curves can be walked along
  pub share_demand : PlainBelow 16000 (take m part)
  share_demand = plain_higher span 16000 _ h demand_below

  pub share_supply : PlainBelow 16000 (take n held)
  share_supply = plain_higher span 16000 _ h c.curve

  -- what the walk writes is what fitting serves
  pub share_serves : {old new : List ℕ} {k : ℕ} → Drawn old new k (held_from 16000 16000 (take m part) (take n held))
      → Wrote old new k (fit (demand_of span task) (take n held)).served
  share_serves v =
      rw w.front at
      (drawn_is (fit (take m part) (take n held)).served (fit_served_plain _ _ demand_below.plain c.curve.plain)
      (served_covers _ _ demand_below.plain c.curve.plain) v)

  -- and what it leaves
  pub share_leaves : {old new : List ℕ} {k : ℕ} → Drawn old new k (left_from 16000 16000 (take m part) (take n held))
      → Wrote old new k (fit (demand_of span task) (take n held)).left
  share_leaves v =
      rw w.front at
      (drawn_is (fit (take m part) (take n held)).left (fit_left_plain _ _ demand_below.plain c.curve.plain)
      (left_covers _ _ demand_below.plain c.curve.plain) v)
