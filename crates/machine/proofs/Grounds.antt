-- A step is refused on one of its four grounds, and on no other; and what it answers is one outcome. Assumes nothing.
use Prim.Native.Nat.{ℕ, zero, suc, ◌≤◌, ◌<◌}
use mathlib.Core.Path.{◌≡◌, refl, sym, ◌∙◌}
use mathlib.Core.Bool.{Bool, true, false, true≢false, ◌&&◌}
use native.Mathlib.Omega.{arith}
use lib.ListN.{get_or}
use lib.Dec.{ltb}
use borrow.Author.Tests.{lt-ltb, ltb-true, ltb-false}
use Rattle.table.specs.Rules.{obeys}
use Rattle.table.specs.declared.Table.{Table}
use Rattle.machine.specs.declared.State.{State}
use Rattle.std.specs.Prelude.{Result, Ok, Err}
use Rattle.refusals.specs.declared.Refusal.{Refusal}
use Rattle.machine.specs.declared.Step.{Step}
use Rattle.table.specs.Places.{server_at, first_of, none_of}
use Rattle.machine.specs.Machine.{over_budget, over_work, accepts, stepped, refusal, step_of, handed_back}
use Rattle.table.proofs.Places.{first_is, none_at}
use Rattle.machine.proofs.Stepping.{accepted_rules, accepted_tick, accepted_budgets, accepted_work}

-- 13: "table breaks the rules above, or tick is H or more, or a budget above its C, or waiting work above 300,000,000"
pub data Ground (table : Table) (s : State) : Type 0 where
  rules_broken : obeys table ≡ false → Ground table s
  tick_over : table.span ≤ s.tick → Ground table s
  budget_over : (i : ℕ) → i < table.servers_n → (server_at table i).capacity < get_or s.budgets i 0 → Ground table s
  work_over : (j : ℕ) → j < table.tasks_n → 300000000 < get_or s.waiting j 0 → Ground table s

-- where some place below n passes a test, one can be named
some_place : (p : ℕ → Bool) (n : ℕ) → none_of p n ≡ false → (A : Type 0) → ((i : ℕ) → i < n → p i ≡ true → A) → A
some_place p n e A k = go (first_of p n 0) refl
  where
    go : (m : ℕ) → first_of p n 0 ≡ m → A
    go zero d = absurd (true≢false (sym (rw d) ∙ e))
    go (suc i) d = let f = first_is p n 0 i d in k i (omega (arith, f.below)) f.passes

module _ (table : Table) (s : State) where
  pub refused_ground : accepts table s ≡ false → Ground table s
  unfolding accepts
  refused_ground e = by_rules (obeys table) refl e
    where
      by_work : none_of (over_work s) table.tasks_n ≡ false → Ground table s
      by_work d = some_place (over_work s) table.tasks_n d (Ground table s) (λ j h p. work_over j h (ltb-true 300000000 (get_or s.waiting j 0) p))

      by_budget : (b : Bool) → none_of (over_budget table s) table.servers_n ≡ b → (b && none_of (over_work s) table.tasks_n) ≡ false → Ground table s
      by_budget false d f =
          some_place (over_budget table s) table.servers_n d (Ground table s)
          (λ i h p. budget_over i h (ltb-true (server_at table i).capacity (get_or s.budgets i 0) p))
      by_budget true d f = by_work f

      by_tick : (b : Bool) → ltb s.tick table.span ≡ b
          → (b && (none_of (over_budget table s) table.servers_n && none_of (over_work s) table.tasks_n)) ≡ false → Ground table s
      by_tick false d f = tick_over (ltb-false s.tick table.span d)
      by_tick true d f = by_budget (none_of (over_budget table s) table.servers_n) refl f

      by_rules : (b : Bool) → obeys table ≡ b
          → (b && (ltb s.tick table.span && (none_of (over_budget table s) table.servers_n && none_of (over_work s) table.tasks_n))) ≡ false → Ground table s
      by_rules false d f = rules_broken d
      by_rules true d f = by_tick (ltb s.tick table.span) refl f

  -- what a step that is not refused shows contradicts each ground
  no_ground : accepts table s ≡ true → Ground table s → ⊥
  no_ground e (rules_broken d) = true≢false (sym (accepted_rules table s e) ∙ d)
  no_ground e (tick_over h) = absurd (omega (arith, h, accepted_tick table s e))
  no_ground e (budget_over i h k) =
      let none = none_at (over_budget table s) table.servers_n (accepted_budgets table s e) i h in
      true≢false (sym (lt-ltb (server_at table i).capacity (get_or s.budgets i 0) k) ∙ none)
  no_ground e (work_over j h k) =
      let none = none_at (over_work s) table.tasks_n (accepted_work table s e) j h in
      true≢false (sym (lt-ltb 300000000 (get_or s.waiting j 0) k) ∙ none)

  pub ground_refuses : Ground table s → accepts table s ≡ false
  ground_refuses g = go (accepts table s) refl
    where
      go : (b : Bool) → accepts table s ≡ b → b ≡ false
      go true e = absurd (no_ground e g)
      go false e = refl

  -- the answer of a step
  pub step_refused : accepts table s ≡ false → step_of table s ≡ Err refusal
  unfolding step_of
  step_refused e = rw e

  pub step_accepted : accepts table s ≡ true → step_of table s ≡ Ok (stepped table s)
  unfolding step_of
  step_accepted e = rw e

  -- of a refused one, the state that it got and 0 are handed back
  pub refused_back : accepts table s ≡ false → handed_back s (step_of table s) ≡ record { next = s; holder = 0; runner = 0 }
  refused_back e = rw (step_refused e)

  -- two outcomes that the contract of the step permits are equal
  pub step_once : (r q : Result Step Refusal) → r ≡ step_of table s → q ≡ step_of table s → r ≡ q
  step_once r q d e = d ∙ sym e
