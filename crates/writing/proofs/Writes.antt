-- The writing call: refused where the table breaks the rules, then where the text does not fit; two outcomes are one. Assumes nothing.
use Prim.Native.Nat.{ℕ, ◌≤◌}
use mathlib.Core.Path.{◌≡◌, ap, ap₂}
use mathlib.Core.List.{List}
use mathlib.Core.Bool.{Bool, true, false, ◌&&◌}
use native.Mathlib.Omega.{arith}
use lib.ListN.{length}
use borrow.Author.Tests.{le-leb}
use Rattle.std.specs.Prelude.{Result, Ok, Err}
use Rattle.basics.specs.Choice.{pick}
use Rattle.table.specs.Rules.{all, between, in_ticks, server_obeys, task_obeys, obeys}
use Rattle.table.specs.Places.{Obeyed, Same}
use Rattle.table.specs.declared.Task.{Task}
use Rattle.table.specs.declared.Table.{Table}
use Rattle.refusals.specs.Outcomes.{Leaves}
use Rattle.refusals.specs.Refusals.{refused_for}
use Rattle.refusals.specs.declared.Ground.TheVariants.{RulesBroken}
use Rattle.refusals.specs.declared.Refusal.{Refusal}
use Rattle.refusals.proofs.Outcomes.{leaves_once}
use Rattle.putting.specs.Rooms.{in_room}
use Rattle.writing.specs.Text.{text_of}
use Rattle.writing.specs.Writing.{write_outcome, Writes}
use Rattle.writing.proofs.Lengths.{text_most}
use Rattle.writing.proofs.Written.{same_bytes_lem}

module _ (table : Table) (out : List ℕ) where
  -- 13
  pub writes_broken : obeys table ≡ false → Writes table out (Err (refused_for RulesBroken)) out
  writes_broken e = record { answer_is = rw e; buffer = rw e }

  -- else as the text fits
  pub writes_obeyed : {r : Result ℕ Refusal} {after : List ℕ} → obeys table ≡ true → Leaves (in_room (text_of table) out) (text_of table) out r after → Writes table out r after
  writes_obeyed e l = record { answer_is = rw e l.answer_is; buffer = rw e l.buffer }

  -- where 2,603 bytes are lent, a table that obeys is not refused
  pub writes_whole : Obeyed table → 2603 ≤ length out → write_outcome table out ≡ Ok (length (text_of table))
  writes_whole o h = rw (o.rules, le-leb (length (text_of table)) (length out) (omega (arith, text_most table o)))

  -- two outcomes that the contract permits are equal
  pub writes_once : {r q : Result ℕ Refusal} {a b : List ℕ} → Writes table out r a → Writes table out q b → (r ≡ q) × (a ≡ b)
  writes_once = leaves_once (write_outcome table out) (text_of table) out

-- ---- "equal tables give equal bytes", whatever they are written into

same_obeys : {a b : Table} → Same a b → obeys a ≡ obeys b
same_obeys s =
    ap₂ ◌&&◌ (ap (between 1 16) s.servers_n)
    (ap₂ ◌&&◌ (ap (between 1 64) s.tasks_n)
    (ap₂ ◌&&◌ (ap in_ticks s.span)
    (ap₂ ◌&&◌ (ap (all server_obeys) s.servers) (ap₂ (λ (n : ℕ) (l : List Task). all (task_obeys n) l) s.servers_n s.tasks))))

pub same_outcome : {a b : Table} → Same a b → (out : List ℕ) → write_outcome a out ≡ write_outcome b out
same_outcome s out =
    ap₂ (λ (ok : Bool) (text : List ℕ). pick ok (in_room text out) (Err (refused_for RulesBroken))) (same_obeys s) (same_bytes_lem s)

-- the answer and every byte of the buffer are equal too
pub writes_same : {a b : Table} → Same a b → (out : List ℕ) {r q : Result ℕ Refusal} {x y : List ℕ} → Writes a out r x → Writes b out q y → (r ≡ q) × (x ≡ y)
writes_same {b = b} s out {r} {x = x} v w = writes_once b out moved w
  where
    moved : Writes b out r x
    moved = rw (← same_outcome s out, ← same_bytes_lem s) v
