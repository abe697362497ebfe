-- Document 02, E1: "Reading what was written gives an equal table, and equal tables give equal bytes". Assumes nothing.
use Prim.Native.Nat.{ℕ}
use mathlib.Core.Path.{◌≡◌, refl, sym, ap, ap₂, ◌∙◌}
use mathlib.Core.List.{List, ◌∷◌, ◌++◌, map}
use Rattle.std.specs.Prelude.{Ok}
use Rattle.table.specs.Places.{Obeyed, Same}
use Rattle.table.specs.declared.Server.{Server}
use Rattle.table.specs.declared.Task.{Task}
use Rattle.table.specs.declared.Table.{Table}
use Rattle.reading.specs.Reading.{reading_of}
use Rattle.reading.proofs.Accepted.{accepted_obeyed}
use Rattle.writing.specs.Text.{ended, span_line, server_line, task_line, text_of}
use Rattle.writing.proofs.Again.{again, again_same, text_read}

-- ---- sameness

pub same_self : (a : Table) → Same a a
same_self a = record { span = refl; servers_n = refl; tasks_n = refl; servers = refl; tasks = refl }

pub same_back : {a b : Table} → Same a b → Same b a
same_back s = record {
  span = sym s.span;
  servers_n = sym s.servers_n;
  tasks_n = sym s.tasks_n;
  servers = sym s.servers;
  tasks = sym s.tasks;
}

pub same_on : {a b c : Table} → Same a b → Same b c → Same a c
same_on s u = record {
  span = s.span ∙ u.span;
  servers_n = s.servers_n ∙ u.servers_n;
  tasks_n = s.tasks_n ∙ u.tasks_n;
  servers = s.servers ∙ u.servers;
  tasks = s.tasks ∙ u.tasks;
}

-- ---- "Reading what was written gives an equal table"

pub record Back (table : Table) : Type 0 where
  pub read : Table
  pub answer : reading_of (text_of table) ≡ Ok read
  pub same : Same read table

pub written_back : (table : Table) → Obeyed table → Back table
written_back table o = record { read = again table; answer = text_read table o; same = again_same table o }

-- ---- "equal tables give equal bytes"

pub same_bytes_lem : {a b : Table} → Same a b → text_of a ≡ text_of b
same_bytes_lem s =
    ap₂ (λ (H : ℕ) (ls : List (List ℕ)). ended (span_line H ∷ ls)) s.span
    (ap₂ (λ (ss : List Server) (ks : List Task). map server_line ss ++ map task_line ks) s.servers s.tasks)

-- a table is read back, and whichever is read is written as before
pub record Again (table : Table) : Type 0 where
  pub read : Table
  pub answer : reading_of (text_of table) ≡ Ok read
  pub same : {other : Table} → reading_of (text_of table) ≡ Ok other → text_of other ≡ text_of table

read_again : (table : Table) → Obeyed table → {read : Table} → reading_of (text_of table) ≡ Ok read → text_of read ≡ text_of table
read_again table o {read} e =
    let b = written_back table o in
    let z = sym e ∙ b.answer in
    let s : read ≡ b.read = cc in
    rw s (same_bytes_lem b.same)

pub written_again : (table : Table) → Obeyed table → Again table
written_again table o = let b = written_back table o in record { read = b.read; answer = b.answer; same = read_again table o }

-- and only they do
pub bytes_same : {a b : Table} → Obeyed a → Obeyed b → text_of a ≡ text_of b → Same a b
bytes_same {a} {b} p q e =
    let x = written_back a p in
    let y = written_back b q in
    let z = sym x.answer ∙ (ap reading_of e ∙ y.answer) in
    let s : x.read ≡ y.read = cc in
    same_on (same_back x.same) (rw s y.same)

-- ---- an accepted text need not be what is written, but its table can be written and read again

pub read_written_read : (text : List ℕ) {table : Table} → reading_of text ≡ Ok table → Back table
read_written_read text {table} e = written_back table (accepted_obeyed text e)
