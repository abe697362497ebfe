-- Budgets above the capacity and waiting work above the limit, by the library's test of all entries. Assumes nothing.
use Prim.Native.Nat.{ℕ, ◌+◌, ◌≤◌, ◌<◌}
use mathlib.Core.Path.{◌≡◌, ◌∙◌}
use mathlib.Core.Bool.{Bool, true}
use native.Mathlib.Omega.{arith}
use mathlib.Core.List.{List}
use lib.ListN.{length, get_or, take}
use lib.Seq.{get_or-take, length-take-le}
use borrow.Author.Tests.{lt-ltb, le-ltb, ltb-false}
use Rattle.std.specs.Bool.{MatchBool}
use Rattle.std.specs.List.{AllWithin, HoldsAt, zip}
use Rattle.std.proofs.lemmas.Slice.Zip.{get_or-zip, length-zip}
use Rattle.table.specs.Rules.{no_server, servers_of}
use Rattle.table.specs.declared.Server.{Server}
use Rattle.table.specs.Places.{server_at, none_of}
use Rattle.table.specs.declared.Task.{Task}
use Rattle.table.specs.declared.Table.{Table}
use Rattle.table.proofs.Places.{none_at, none_from_all}
use Rattle.machine.specs.declared.State.{State}
use Rattle.machine.specs.Machine.{over_budget, over_work}

module _ (s : State) (n : ℕ) (r : Bool) (h : n ≤ length s.waiting) where
  pub work_none : MatchBool r (AllWithin (λ w. w ≤ 300000000) (take n s.waiting) 0 (length (take n s.waiting))) ((k : ℕ) × (k < length (take n s.waiting)) × HoldsAt (λ w. 300000000 < w) (take n s.waiting) k) → r ≡ none_of (over_work s) n
  work_none m =
      let l : length (take n s.waiting) ≡ n = length-take-le n s.waiting h in
      rw l at (none_from_all (take n s.waiting) 0 (over_work s) (λ w. w ≤ 300000000) (λ w. 300000000 < w)
      (λ i k e. rw (get_or-take n s.waiting i 0 (omega arith)) at (le-ltb 300000000 _ e)) (λ i k e. rw (get_or-take n s.waiting i 0 (omega arith)) at (lt-ltb 300000000 _ e)) r m)

module _ (table : Table) (s : State) (r : Bool) (h : table.servers_n ≤ length table.servers) (b : table.servers_n ≤ length s.budgets) where
  abbrev pub beside : List (Server × ℕ)
  beside = zip (servers_of table) s.budgets

  pub budgets_none : MatchBool r (AllWithin (λ p. p.1 ≤ p.0.capacity) beside 0 (length beside)) ((k : ℕ) × (k < length beside) × HoldsAt (λ p. p.0.capacity < p.1) beside k) → r ≡ none_of (over_budget table s) table.servers_n
  budgets_none m =
      let n : length (servers_of table) ≡ table.servers_n = length-take-le table.servers_n table.servers h in
      let l : length beside ≡ table.servers_n = omega (arith, length-zip (servers_of table) s.budgets) in
      let at : (i : ℕ) → i < table.servers_n → get_or beside i (no_server, 0) ≡ (get_or table.servers i no_server, get_or s.budgets i 0) =
      λ i k. get_or-zip (servers_of table) s.budgets i (no_server, 0) (omega arith) (omega arith) ∙ rw (get_or-take table.servers_n table.servers i no_server k) in
      rw l at (none_from_all beside (no_server, 0) (over_budget table s) (λ p. p.1 ≤ p.0.capacity) (λ p. p.0.capacity < p.1)
      (λ i k e. le-ltb (server_at table i).capacity (get_or s.budgets i 0) (rw (at i (omega arith)) at e)) (λ i k e. lt-ltb (server_at table i).capacity (get_or s.budgets i 0) (rw (at i (omega arith)) at e)) r m)

-- what waits and what is gained are within a number's range
pub sum_fits : (s : State) (n j w m : ℕ) (task : Task) → none_of (over_work s) n ≡ true → j < n → w ≡ get_or s.waiting j 0 → m ≤ task.work → task.work ≤ 16000
    → w + m ≤ 300016000
sum_fits s n j w m task none h e f g = omega (arith, ltb-false 300000000 (get_or s.waiting j 0) (none_at (over_work s) n none j h))
