-- Each server's first task with waiting work, noted on one walk up the tasks from the last. Assumes nothing.
use Prim.Native.Nat.{ℕ, zero, suc, ◌+◌, ◌-◌, ◌≤◌, ◌<◌}
use mathlib.Core.Path.{◌≡◌, refl, ap, ◌∙◌}
use mathlib.Core.Logic.{◌≢◌}
use mathlib.Core.List.{List}
use mathlib.Core.Bool.{false}
use native.Mathlib.Omega.{arith}
use native.Mathlib.Decide.{ℕ_discrete}
use lib.ListN.{length, get_or, set, length-set, replicate, get_or-replicate}
use Rattle.std.proofs.lemmas.List.{set-get_or}
use lib.Seq.{get_or-set_same, get_or-set_other}
use lib.Dec.{ltb}
use borrow.Author.Tests.{eq-eqb, ne_eqb, lt-ltb, le-ltb}
use Rattle.basics.specs.Choice.{pick}
use Rattle.table.specs.Rules.{no_task}
use Rattle.table.specs.declared.Table.{Table}
use Rattle.machine.specs.declared.State.{State}
use Rattle.table.specs.Places.{first_of, Obeyed}
use Rattle.table.proofs.Obeyed.{servers_most, task_server}
use Rattle.machine.specs.Machine.{waits}
use Rattle.machine.specs.Parts.{Firsts, noted}

-- the walk has come up to place j: what is noted for each server is its first task from there on
abbrev pub NotedFrom : Table → State → List ℕ → ℕ → Type 0
NotedFrom table s firsts j = (i : ℕ) → i < 16 → get_or firsts i 0 ≡ first_of (waits table s (suc i)) (table.tasks_n - j) j

pub noted_none : (table : Table) (s : State) (firsts : List ℕ) → ((i : ℕ) → i < 16 → get_or firsts i 0 ≡ 0) → NotedFrom table s firsts table.tasks_n
unfolding first_of
noted_none table s firsts h i k = let e : table.tasks_n - table.tasks_n ≡ 0 = omega arith in rw e (h i k)

pub noted_all : (table : Table) (s : State) (firsts : List ℕ) (j : ℕ) → j ≡ 0 → NotedFrom table s firsts j → Firsts table s firsts
noted_all table s firsts j z h i k = let e : table.tasks_n - 0 ≡ table.tasks_n = omega arith in rw (z, e) at (h i k)

-- the task at place j, of the server at place own, is looked at
module _ (table : Table) (s : State) (firsts : List ℕ) (j own : ℕ) (at : (get_or table.tasks j no_task).server ≡ suc own) where
  some_left : j < table.tasks_n → table.tasks_n - j ≡ suc (table.tasks_n - suc j)
  some_left h = omega arith

  -- its own server
  waits_own : waits table s (suc own) j ≡ ltb 0 (get_or s.waiting j 0)
  waits_own = rw (eq-eqb (get_or table.tasks j no_task).server (suc own) at)

  -- another server
  waits_other : (i : ℕ) → i ≢ own → waits table s (suc i) j ≡ false
  waits_other i h = rw (ne_eqb (get_or table.tasks j no_task).server (suc i) (λ e. h (omega arith)))

  pub noted_more : j < table.tasks_n → own < length firsts → NotedFrom table s firsts (suc j)
      → NotedFrom table s (set firsts own (noted (get_or s.waiting j 0) (suc j) (get_or firsts own 0))) j
  unfolding first_of
  noted_more h k from i l = go (ℕ_discrete i own)
    where
      go : Dec (i ≡ own) → get_or (set firsts own (noted (get_or s.waiting j 0) (suc j) (get_or firsts own 0))) i 0 ≡ first_of (waits table s (suc i)) (table.tasks_n - j) j
      go (yes e) = rw (e, get_or-set_same firsts own (noted (get_or s.waiting j 0) (suc j) (get_or firsts own 0)) 0 k, some_left h, waits_own) (ap (pick (ltb 0 (get_or s.waiting j 0)) (suc j)) (rw e at (from i l)))
      go (no d) = get_or-set_other firsts own i (noted (get_or s.waiting j 0) (suc j) (get_or firsts own 0)) 0 d ∙ from i l ∙ rw (some_left h, waits_other i d)

-- one turn of the walk, which looks at the task of number j
pub noted_turn : (table : Table) (s : State) (firsts : List ℕ) (j b : ℕ) → 0 < j → j ≤ table.tasks_n
    → 1 ≤ (get_or table.tasks (j - 1) no_task).server → (get_or table.tasks (j - 1) no_task).server ≤ length firsts
    → b ≡ noted (get_or s.waiting (j - 1) 0) j (get_or firsts ((get_or table.tasks (j - 1) no_task).server - 1) 0)
    → NotedFrom table s firsts j → NotedFrom table s (set firsts ((get_or table.tasks (j - 1) no_task).server - 1) b) (j - 1)
noted_turn table s firsts zero b z h p q e from = absurd (omega arith)
noted_turn table s firsts (suc j) b z h p q e from =
    let d : suc j - 1 ≡ j = omega arith in
    rw (e, d)
    (noted_more table s firsts j ((get_or table.tasks j no_task).server - 1) (omega (arith, rw d at p)) (omega arith) (omega (arith, rw d at p, rw d at q)) from)

pub record Noted (table : Table) (s : State) (firsts : List ℕ) (j : ℕ) : Type 0 where
  pub long : length firsts ≡ 16
  pub from : NotedFrom table s firsts j

-- the same, as the code has it: a task with waiting work is noted, and without it nothing changes
module _ (table : Table) (ok : Obeyed table) (j : ℕ) (z : 0 < j) (h : j ≤ table.tasks_n) where
  pub own_some : 1 ≤ (get_or table.tasks (j - 1) no_task).server
  own_some = (task_server table ok (j - 1) (omega arith)).0

  own_most : (get_or table.tasks (j - 1) no_task).server ≤ 16
  own_most = omega (arith, (task_server table ok (j - 1) (omega arith)).1, servers_most table ok)

  pub own_below : (get_or table.tasks (j - 1) no_task).server - 1 < 16
  own_below = omega (arith, own_some, own_most)

  module _ (s : State) (firsts : List ℕ) (n : Noted table s firsts j) where
    turn : (b : ℕ) → b ≡ noted (get_or s.waiting (j - 1) 0) j (get_or firsts ((get_or table.tasks (j - 1) no_task).server - 1) 0)
        → Noted table s (set firsts ((get_or table.tasks (j - 1) no_task).server - 1) b) (j - 1)
    turn b e =
        record {
          long = length-set firsts ((get_or table.tasks (j - 1) no_task).server - 1) b ∙ n.long;
          from = noted_turn table s firsts j b z h own_some (omega (arith, own_most, n.long)) e n.from;
        }

    pub noted_waits : 0 < get_or s.waiting (j - 1) 0 → Noted table s (set firsts ((get_or table.tasks (j - 1) no_task).server - 1) (j - 1 + 1)) (j - 1)
    noted_waits w = turn (j - 1 + 1) (rw (lt-ltb 0 (get_or s.waiting (j - 1) 0) w) (omega arith))

    pub noted_rests : get_or s.waiting (j - 1) 0 ≤ 0 → Noted table s firsts (j - 1)
    noted_rests w =
        let own = (get_or table.tasks (j - 1) no_task).server - 1 in
        let same : set firsts own (get_or firsts own 0) ≡ firsts = set-get_or firsts own 0 in
        rw same at (turn (get_or firsts own 0) (rw (le-ltb 0 (get_or s.waiting (j - 1) 0) w)))

pub noted_starts : (table : Table) (s : State) → Noted table s (replicate 16 0) table.tasks_n
noted_starts table s = record { long = refl; from = noted_none table s (replicate 16 0) (λ i h. get_or-replicate 16 i 0 0 h) }
