-- The first server that may hold the tick, by the library's search. Assumes nothing.
use Prim.Native.Nat.{ℕ, ◌<◌}
use mathlib.Core.Path.{◌≡◌, ◌∙◌}
use mathlib.Core.Bool.{Bool, true, false}
use mathlib.Core.List.{List}
use native.Mathlib.Omega.{arith}
use lib.ListN.{length, get_or}
use lib.Seq.{get_or-take, length-take-le}
use Rattle.std.specs.Prelude.{Option, MatchOption}
use Rattle.std.specs.List.{AllWithin, HoldsAt, zip}
use Rattle.std.proofs.lemmas.Slice.Zip.{get_or-zip, length-zip}
use Rattle.table.specs.Rules.{no_server, servers_of}
use Rattle.table.specs.Places.{Obeyed}
use Rattle.table.specs.declared.Server.{Server}
use Rattle.table.specs.declared.Table.{Table}
use Rattle.table.proofs.Obeyed.{servers_most}
use Rattle.table.proofs.Places.{number_from, first_from_position}
use Rattle.machine.specs.declared.State.{State}
use Rattle.machine.specs.Machine.{may_hold, qualifies, holder_of}
use Rattle.machine.specs.Parts.{Firsts}

-- a server, its budget and its first task
abbrev pub Offered : Type 0
Offered = (Server × ℕ) × ℕ

abbrev pub holds_it : Offered → Bool
holds_it o = may_hold o.0.1 o.0.0.kind o.1

module _ (table : Table) (s : State) (firsts : List ℕ) where
  abbrev pub offered : List Offered
  offered = zip (zip (servers_of table) s.budgets) firsts

  module _ (ok : Obeyed table) (is : Firsts table s firsts) (b : length s.budgets ≡ 16) (f : length firsts ≡ 16) where
    beside : length (zip (servers_of table) s.budgets) ≡ table.servers_n
    beside = omega (arith, length-zip (servers_of table) s.budgets, length-take-le table.servers_n table.servers ok.servers, servers_most table ok)

    long : length offered ≡ table.servers_n
    long = omega (arith, beside, length-zip (zip (servers_of table) s.budgets) firsts, servers_most table ok)

    asked : (i : ℕ) → i < table.servers_n → qualifies table s i ≡ holds_it (get_or offered i ((no_server, 0), 0))
    asked i h =
        let few : i < 16 = omega (arith, servers_most table ok) in
        let n : length (servers_of table) ≡ table.servers_n = length-take-le table.servers_n table.servers ok.servers in
        rw (
          get_or-zip (zip (servers_of table) s.budgets) firsts i ((no_server, 0), 0) (omega (arith, beside)) (omega arith),
          get_or-zip (servers_of table) s.budgets i (no_server, 0) (omega arith) (omega arith),
          get_or-take table.servers_n table.servers i no_server h,
          is i few,
        )

    pub server_found : (r : Option ℕ) → MatchOption r (AllWithin (λ o. holds_it o ≡ false) offered 0 (length offered)) (λ i. (i < length offered) × HoldsAt (λ o. holds_it o ≡ true) offered i × AllWithin (λ o. holds_it o ≡ false) offered 0 i)
        → number_from r ≡ holder_of table s
    server_found r m =
        rw long at (first_from_position offered ((no_server, 0), 0) (qualifies table s) (λ o. holds_it o ≡ true) (λ o. holds_it o ≡ false)
        (λ i h e. asked i (omega (arith, long)) ∙ e) (λ i h e. asked i (omega (arith, long)) ∙ e) r m)
