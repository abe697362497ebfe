-- Answers that are noted place by place, until all are there. Assumes nothing.
use Prim.Native.Nat.{ℕ, zero, suc, ◌+◌, ◌≤◌, ◌<◌}
use mathlib.Core.Path.{◌≡◌, refl, sym, ap, ◌∙◌}
use mathlib.Core.List.{List}
use mathlib.Core.Bool.{Bool, true, false, ◌&&◌, ◌||◌}
use native.Mathlib.Omega.{arith}
use native.Mathlib.Decide.{ℕ_discrete}
use lib.ListN.{length, get_or, set, replicate}
use lib.Seq.{get_or-set_same, get_or-set_other}
use lib.Dec.{ltb, eqb}
use borrow.Author.Tests.{lt-ltb, le-ltb, eq-eqb, ne_eqb, ltb-true, ltb-false}
use Rattle.basics.specs.Choice.{pick}
use Rattle.table.specs.declared.Table.{Table}
use Rattle.table.specs.Places.{task_at}
use Rattle.answers.specs.Answers.{entries}
use Rattle.answers.proofs.Entries.{entries_are}
use Rattle.noting.specs.Noted.{Noted, of_below}

-- ---- lists

-- nothing else stands in a list of empty entries
empty_all : {A : Type 0} (n : ℕ) (a : A) (k : ℕ) → get_or (replicate n a) k a ≡ a
empty_all zero a k = refl
empty_all (suc n) a zero = refl
empty_all (suc n) a (suc k) = empty_all n a k

module _ {A : Type 0} (f : ℕ → A) (empty : A) where
  pub noted_none : (n : ℕ) (test : ℕ → Bool) → ((k : ℕ) → test k ≡ false) → Noted f empty test (replicate n empty)
  noted_none n test never = record { each = λ k. empty_all n empty k ∙ ap (λ b. pick b (f k) empty) (sym (never k)) }

  -- a test that says the same
  pub noted_same : {test other : ℕ → Bool} {l : List A} → ((k : ℕ) → test k ≡ other k) → Noted f empty test l → Noted f empty other l
  noted_same same w = record { each = λ k. w.each k ∙ ap (λ b. pick b (f k) empty) (same k) }

  -- one place more
  pub noted_more : {test other : ℕ → Bool} (l : List A) (j : ℕ) (a : A) → ((k : ℕ) → ¬ (k ≡ j) → test k ≡ other k) → other j ≡ true → j < length l → a ≡ f j
      → Noted f empty test l → Noted f empty other (set l j a)
  noted_more {test} {other} l j a same yes-j h e w = record { each = λ k. go k (ℕ_discrete k j) }
    where
      go : (k : ℕ) → Dec (k ≡ j) → get_or (set l j a) k empty ≡ pick (other k) (f k) empty
      go k (yes d) = rw (d, yes-j) (get_or-set_same l j a empty h ∙ e)
      go k (no d) = get_or-set_other l j k a empty d ∙ w.each k ∙ ap (λ b. pick b (f k) empty) (same k d)

  -- where those below a count are noted, these are all
  pub noted_all : (count k : ℕ) (l : List A) → length l ≡ k → Noted f empty (λ u. ltb u count) l → l ≡ entries f empty count k 0
  noted_all count k l n w = entries_are f empty count l 0 (λ u. rw (zero_plus u) (w.each u)) ∙ ap (λ m. entries f empty count m 0) n
    where
      zero_plus : (u : ℕ) → 0 + u ≡ u
      zero_plus u = omega arith

-- ---- the servers, place by place

pub below_next : (i k : ℕ) → ¬ (k ≡ i) → ltb k i ≡ ltb k (i + 1)
below_next i k d = go (ltb k i) refl
  where
    go : (b : Bool) → ltb k i ≡ b → b ≡ ltb k (i + 1)
    go true e = sym (lt-ltb k (i + 1) (omega (arith, ltb-true k i e)))
    go false e = sym (le-ltb k (i + 1) (omega (arith, ltb-false k i e)))

-- ---- the tasks, server by server and, in a server, place by place

-- of the servers below s, and of server s those below place j
abbrev pub reached : Table → ℕ → ℕ → ℕ → Bool
reached table s j k = ltb k table.tasks_n && (ltb (task_at table k).server s || (eqb (task_at table k).server s && ltb k j))

module _ (table : Table) (s : ℕ) where
  or_none : (a b : Bool) → (a || (b && false)) ≡ a
  or_none true b = refl
  or_none false true = refl
  or_none false false = refl

  -- none of server s
  pub reached_none : (k : ℕ) → of_below table s k ≡ reached table s 0 k
  reached_none k =
      let z : ltb k 0 ≡ false = le-ltb k 0 (omega arith) in
      ap (λ b. ltb k table.tasks_n && b) (sym (or_none (ltb (task_at table k).server s) (eqb (task_at table k).server s)))
      ∙ ap (λ b. ltb k table.tasks_n && (ltb (task_at table k).server s || (eqb (task_at table k).server s && b))) (sym z)

  -- a place that is not the next one
  pub reached_apart : (j k : ℕ) → ¬ (k ≡ j) → reached table s j k ≡ reached table s (j + 1) k
  reached_apart j k d =
      ap (λ b. ltb k table.tasks_n && (ltb (task_at table k).server s || (eqb (task_at table k).server s && b))) (below_next j k d)

  -- a task of another server
  pub reached_other : (j : ℕ) → ¬ ((task_at table j).server ≡ s) → (k : ℕ) → reached table s j k ≡ reached table s (j + 1) k
  reached_other j d k = go (ℕ_discrete k j)
    where
      go : Dec (k ≡ j) → reached table s j k ≡ reached table s (j + 1) k
      go (yes e) = rw (e, ne_eqb (task_at table j).server s d)
      go (no e) = reached_apart j k e

  -- a task of server s
  pub reached_own : (j : ℕ) → j < table.tasks_n → (task_at table j).server ≡ s → reached table s (j + 1) j ≡ true
  reached_own j h e =
      rw (lt-ltb j table.tasks_n h, eq-eqb (task_at table j).server s e, lt-ltb j (j + 1) (omega arith), or_yes (ltb (task_at table j).server s))
    where
      or_yes : (a : Bool) → (a || true) ≡ true
      or_yes true = refl
      or_yes false = refl

  -- all of server s
  pub reached_all : (j : ℕ) → table.tasks_n ≤ j → (k : ℕ) → reached table s j k ≡ of_below table (s + 1) k
  reached_all j h k = go (ltb k table.tasks_n) refl
    where
      server : ℕ
      server = (task_at table k).server

      own : (b : Bool) → eqb server s ≡ b → (ltb server s || b) ≡ ltb server (s + 1)
      own b e = here (ℕ_discrete server s)
        where
          here : Dec (server ≡ s) → (ltb server s || b) ≡ ltb server (s + 1)
          here (yes d) = rw (sym e, eq-eqb server s d, le-ltb server s (omega arith), lt-ltb server (s + 1) (omega arith))
          here (no d) = rw (sym e, ne_eqb server s d) (or_no (ltb server s) ∙ below_next s server d)
            where
              or_no : (a : Bool) → (a || false) ≡ a
              or_no true = refl
              or_no false = refl

      and_yes : (b : Bool) → (b && true) ≡ b
      and_yes true = refl
      and_yes false = refl

      go : (b : Bool) → ltb k table.tasks_n ≡ b → (b && (ltb server s || (eqb server s && ltb k j))) ≡ (b && ltb server (s + 1))
      go false e = refl
      go true e =
          let l : ltb k j ≡ true = lt-ltb k j (omega (arith, ltb-true k table.tasks_n e)) in
          rw (l, and_yes (eqb server s)) (own (eqb server s) refl)
