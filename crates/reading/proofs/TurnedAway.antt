-- A refused reading: its number is from 1 on, so that it can be told from an accepted one, and at most the last one; its line is at most the one after
-- the last of 4,096, and its place at most the last of a line. It has no table. Assumes nothing.
use Prim.Native.Nat.{ℕ, ◌+◌, ◌≤◌, ◌<◌}
use mathlib.Core.Path.{◌≡◌, refl}
use mathlib.Core.List.{List, [], ◌∷◌}
use mathlib.Core.Bool.{Bool, true, false, ◌&&◌}
use native.Mathlib.Omega.{arith}
use lib.ListN.{length}
use lib.Dec.{ltb, leb, eqb}
use borrow.Author.Tests.{leb-true}
use Rattle.std.specs.Prelude.{Option, Some, None, Result, Ok, Err, IfErr}
use Rattle.std.proofs.lemmas.Result.{IfErr-at_err}
use Rattle.basics.specs.Choice.{pick}
use Rattle.refusals.specs.Refusals.{last_number, last_place}
use Rattle.refusals.specs.declared.Ground.{Ground}
use Rattle.refusals.specs.declared.Ground.TheVariants as ground
use Rattle.refusals.specs.declared.Refusal.{Refusal}
use Rattle.refusals.proofs.Numbers.{number_some, number_most}
use Rattle.table.specs.Rules.{servers_of, tasks_of}
use Rattle.table.specs.Span.{periods_of, span_of}
use Rattle.table.specs.declared.Table.{Table}
use Rattle.fields.specs.Fields.{lines_of}
use Rattle.lines.specs.Lines.{line_of}
use Rattle.lines.specs.declared.Line.{Line}
use Rattle.lines.specs.declared.Wrong.{Wrong}
use Rattle.reading.specs.Reading.{no_table, refusal, accepted, with_line, resolved, ended_of, after_line, read_lines, ends_with_feed, reading_of}
use Rattle.reading.proofs.LineCounts.{lines_most}
use Rattle.reading.proofs.Rows.{Told, line_says}

-- what is known of a refused reading; no line is above `last`
pub record TurnedAway (last : ℕ) (r : Refusal) : Type 0 where
  pub number : 0 < r.number
  pub few : r.number ≤ last_number
  pub line : r.line ≤ last
  pub place : r.place ≤ last_place

abbrev TellsAll : ℕ → Result Table Refusal → Type 0
TellsAll last r = IfErr r (TurnedAway last)

module _ (last : ℕ) where
  refusal_told : (g : Ground) (line place : ℕ) → line ≤ last → place ≤ last_place → TellsAll last (refusal g line place)
  refusal_told g line place h p = record { number = number_some g; few = number_most g; line = h; place = p }

  resolved_told : (t : Table) (s : Option ℕ) → TellsAll last (resolved t s)
  resolved_told t (Some h) = tt
  resolved_told t None = refusal_told ground.MultipleOver 0 0 (omega arith) (omega arith)

  ended_told : (t : Table) (n : ℕ) → n ≤ last → TellsAll last (ended_of t n)
  ended_told t n h = go (ltb 0 t.servers_n && ltb 0 t.tasks_n) (eqb t.span 0)
    where
      s : Option ℕ
      s = span_of (periods_of (servers_of t) (tasks_of t))

      go : (b e : Bool) → TellsAll last (pick b (pick e (resolved t s) (accepted t)) (refusal ground.Missing n 0))
      go true true = resolved_told t s
      go true false = tt
      go false e = refusal_told ground.Missing n 0 h (omega arith)

  after_told : (r : Result Line Wrong) (t : Table) (n : ℕ) (next : Table → Result Table Refusal) → Told t.servers_n t.tasks_n r → n ≤ last
      → ((u : Table) → TellsAll last (next u)) → TellsAll last (after_line r t n next)
  after_told (Ok line) t n next s l p = p (with_line t line)
  after_told (Err w) t n next s l p = refusal_told w.ground n w.place l s

  -- what is missing is missed on the line after the last
  lines_told : (ls : List (List ℕ)) (t : Table) (n : ℕ) → n + length ls ≤ last → TellsAll last (read_lines ls t n)
  unfolding read_lines
  lines_told [] t n h = ended_told t n (omega arith)
  lines_told (l ∷ ls) t n h =
      after_told (line_of n t.servers_n t.tasks_n l) t n (λ u. read_lines ls u (n + 1)) (line_says t.servers_n t.tasks_n n l) (omega arith)
      (λ u. lines_told ls u (n + 1) (omega arith))

-- "at most 4,096 bytes"
reading_told : (text : List ℕ) → TellsAll 4097 (reading_of text)
reading_told text = go (leb (length text) 4096) refl (ends_with_feed text)
  where
    go : (a : Bool) → leb (length text) 4096 ≡ a → (b : Bool)
        → TellsAll 4097 (pick a (pick b (read_lines (lines_of text) no_table 1) (refusal ground.NotEnded 0 0)) (refusal ground.TextTooLong 0 0))
    go true e true = lines_told 4097 (lines_of text) no_table 1 (omega (arith, lines_most text, leb-true (length text) 4096 e))
    go true e false = refusal_told 4097 ground.NotEnded 0 0 (omega arith) (omega arith)
    go false e b = refusal_told 4097 ground.TextTooLong 0 0 (omega arith) (omega arith)

pub turned_away : (text : List ℕ) (r : Refusal) → reading_of text ≡ Err r → TurnedAway 4097 r
turned_away text r e = IfErr-at_err (TurnedAway 4097) e (reading_told text)
