-- What `grod_read` hands out of an accepted text, given to `grod_write`, is written as the text of the table that was read. Assumes nothing.
use Prim.Native.Nat.{ℕ}
use mathlib.Core.Path.{◌≡◌, sym, ◌∙◌}
use mathlib.Core.List.{List}
use Rattle.std.specs.Prelude.{Ok}
use Rattle.refusals.specs.declared.Refusal.{Refusal}
use Rattle.table.specs.declared.Table.{Table}
use Rattle.table.specs.Places.{Same}
use Rattle.entries.proofs.Entries.{rows_back}
use Rattle.reading.specs.Reading.{reading_of}
use Rattle.reading.proofs.Accepted.{accepted_obeyed}
use Rattle.putting.specs.Rooms.{in_room}
use Rattle.writing.specs.Text.{text_of}
use Rattle.writing.specs.Writing.{write_outcome}
use Rattle.writing.proofs.Written.{same_bytes_lem}
use Rattle.writing.proofs.Writes.{same_outcome}
use Rattle.handing_tables.specs.Tables.{Counted}
use Rattle.handing_tables.proofs.Given.{same_number}
use Rattle.grodvejas.proofs.Numbers.{zero_accepted, reading_numbered}
use Rattle.grodvejas.specs.Calls.{Wrote, table_of, Writes, Reads}

-- the rows that a reading hands out make an equal table
read_back : (text : List ℕ) (n : Counted) (servers tasks : List ℕ) {refusal : Refusal} {n' : Counted} {servers' tasks' : List ℕ}
    → Reads text n servers tasks refusal n' servers' tasks' → {table : Table} → reading_of text ≡ Ok table → Same (table_of n' servers' tasks') table
read_back text n servers tasks reads {table} e =
    let handed = rw e at reads in
    rw (handed.ticks, handed.servers_count, handed.tasks_count, handed.servers_are, handed.tasks_are)
    (rows_back table (accepted_obeyed text e) servers tasks)

module _ (text : List ℕ) (n : Counted) (servers tasks : List ℕ) {line' place' : ℕ} {n' : Counted} {servers' tasks' : List ℕ}
    (reads : Reads text n servers tasks (record { number = 0; line = line'; place = place' }) n' servers' tasks') where
  pub was_read : (table : Table) × (reading_of text ≡ Ok table)
  was_read = zero_accepted (reading_of text) (reading_numbered text) (sym (same_number reads.refusal_is))

  -- what is handed out is an equal table
  pub read_same : Same (table_of n' servers' tasks') was_read.0
  read_same = read_back text n servers tasks reads was_read.1

  pub read_written : {out out' : List ℕ} {count r count' : ℕ} → Writes n' servers' tasks' out count r count' out'
      → Wrote (in_room (text_of was_read.0) out) (text_of was_read.0) out count r count' out'
  read_written {out} w =
      let ok = accepted_obeyed text was_read.1 in
      let e : write_outcome (table_of n' servers' tasks') out ≡ in_room (text_of was_read.0) out = same_outcome read_same out ∙ rw ok.rules in
      record { number = w.number ∙ rw e; counted = w.counted ∙ rw e; buffer = w.buffer ∙ rw (e, same_bytes_lem read_same) }
