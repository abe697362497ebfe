-- The free curve of each server, going down the servers. Assumes nothing.
use Prim.Native.Nat.{ℕ, suc, ◌+◌, ◌≤◌, ◌<◌}
use mathlib.Core.Path.{◌≡◌, refl, ap, ◌∙◌}
use mathlib.Core.List.{List}
use native.Mathlib.Omega.{arith}
use native.Mathlib.Numerals.{add-one}
use lib.ListN.{length, take, get_or}
use lib.Seq.{length-take-le, get_or-take}
use Rattle.table.specs.declared.Table.{Table}
use Rattle.table.specs.Rules.{no_server, servers_of}
use Rattle.table.specs.Places.{server_at, Obeyed}
use Rattle.table.proofs.Obeyed.{span_most}
use Rattle.schedule.specs.Curves.{free_of, held_in, held_of, without}
use Rattle.schedule.proofs.FromCurves.{free_inside}
use Rattle.buffers.specs.Parts.{Curve, Drawn, Wrote, with_window}
use Rattle.demands.proofs.Additions.{plain_below}
use Rattle.demands.proofs.Sums.{written_curve}
use Rattle.serving.proofs.ServerTicks.{span_drawn}

-- the first n numbers of a buffer are the free curve of the server at place i
pub record Freed (table : Table) (first free : List ℕ) (n i : ℕ) : Type 0 where
  pub within : i ≤ table.servers_n
  pub written : Wrote first free n (free_of table i)

-- at first the whole span is free
pub freed_starts : (table : Table) → Obeyed table → {old now : List ℕ} {n : ℕ} → Drawn old now n (with_window (take 0 old) 0 table.span) → Freed table now now n 0
unfolding free_of
freed_starts table ok d =
    let w = span_drawn table.span (span_most table ok) d in
    record { within = omega arith; written = record { same = refl; count = w.count; front = w.front } }

-- the servers within the count, one at a time
module _ (table : Table) (ok : Obeyed table) (i : ℕ) (h : i < length (servers_of table)) where
  pub counted : i < table.servers_n
  counted = omega (arith, length-take-le table.servers_n table.servers ok.servers)

  pub server_is : get_or (servers_of table) i no_server ≡ server_at table i
  server_is = get_or-take table.servers_n table.servers i no_server counted

-- what is known of a place is known of its number
pub own_place : (table : Table) (i : ℕ) (l : List ℕ) → i < table.servers_n → l ≡ held_of table i
    → (k : ℕ) → i + 1 ≡ suc k → (k < table.servers_n) × (l ≡ held_of table k)
own_place table i l h e k d = let same : i ≡ k = omega arith in (omega arith, e ∙ ap (held_of table) same)

module _ (table : Table) (ok : Obeyed table) (first free : List ℕ) (n i : ℕ) (w : Freed table first free n i) where
  pub freed_curve : 16000 ≤ length first → Curve free n table.span
  freed_curve room =
      written_curve table.span room w.written
      (plain_below table.span (free_of table i) (omega (arith, span_most table ok)) (free_inside table ok i w.within))

  -- the server's held ticks are written
  pub freed_held : {old new : List ℕ} {k : ℕ} → Wrote old new k (held_in table i (take n free)) → Wrote old new k (held_of table i)
  freed_held v = record { same = v.same; count = v.count; front = v.front ∙ ap (held_in table i) w.written.front }

  -- the next server has what it leaves
  pub freed_next : i < table.servers_n → {after : List ℕ} {m : ℕ} → Wrote free after m (without table.span (take n free) (held_in table i (take n free)))
      → Freed table first after m (i + 1)
  unfolding free_of
  freed_next h l =
      let same : without table.span (take n free) (held_in table i (take n free)) ≡ free_of table (i + 1) = rw (add-one i, w.written.front) in
      record { within = omega arith; written = record { same = l.same ∙ w.written.same; count = l.count; front = l.front ∙ same } }
