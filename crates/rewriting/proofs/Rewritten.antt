-- What was written back is read as the same table; and a table that was read is written where there is room for every text. Assumes nothing.
use Prim.Native.Nat.{ℕ, ◌≤◌}
use mathlib.Core.Path.{◌≡◌, ap}
use mathlib.Core.List.{List}
use native.Mathlib.Omega.{arith}
use lib.ListN.{length}
use Rattle.std.specs.Prelude.{Result, Ok}
use Rattle.table.specs.Places.{Obeyed, Same}
use Rattle.table.specs.declared.Table.{Table}
use Rattle.refusals.specs.Outcomes.{front, Leaves}
use Rattle.refusals.specs.declared.Refusal.{Refusal}
use Rattle.reading.specs.Reading.{reading_of}
use Rattle.reading.proofs.Accepted.{accepted_obeyed}
use Rattle.putting.specs.Rooms.{in_room}
use Rattle.putting.proofs.Rooms.{room_counted, room_front}
use Rattle.writing.specs.Text.{text_of}
use Rattle.writing.specs.Writing.{Writes}
use Rattle.writing.proofs.Lengths.{text_most}
use Rattle.writing.proofs.Written.{read_written_read}
use Rattle.rewriting.specs.Rewriting.{rewritten_by, rewritten_of}

-- ---- an accepted text: what is written is accepted again, and its table is the same

pub record ReadAgain (text : List ℕ) (table : Table) : Type 0 where
  pub read : Table
  pub answer : reading_of (rewritten_of text) ≡ Ok read
  pub same : Same read table

pub rewritten_text : (text : List ℕ) {table : Table} → reading_of text ≡ Ok table → rewritten_of text ≡ text_of table
rewritten_text text e = ap rewritten_by e

pub rewritten_read : (text : List ℕ) {table : Table} → reading_of text ≡ Ok table → ReadAgain text table
rewritten_read text e =
    let b = read_written_read text e in
    record { read = b.read; answer = rw (rewritten_text text e) b.answer; same = b.same }

-- ---- the table of a text is written where there is room for every text

module _ (text out : List ℕ) {table : Table} {r : Result ℕ Refusal} {after : List ℕ} (e : reading_of text ≡ Ok table) (room : 2603 ≤ length out) (w : Writes table out r after) where
  obeyed : Obeyed table
  obeyed = accepted_obeyed text e

  pub most : length (text_of table) ≤ 2603
  most = text_most table obeyed

  leaves : Leaves (in_room (text_of table) out) (text_of table) out r after
  leaves = rw obeyed.rules at w

  pub counted : r ≡ Ok (length (text_of table))
  counted = room_counted (text_of table) out (omega (arith, room, most)) leaves

  pub count_is : {n : ℕ} → r ≡ Ok n → n ≡ length (text_of table)
  count_is k = let c = counted in cc

  pub at_front : after ≡ front (text_of table) out
  at_front = room_front (text_of table) out (omega (arith, room, most)) leaves
