-- Whatever is accepted meets the rules of a table; and when the numbers 1, 2 and 8 are given. Assumes nothing.
use Prim.Native.Nat.{ℕ, ◌+◌, ◌≤◌, ◌<◌}
use mathlib.Core.Path.{◌≡◌, refl, sym, ◌∙◌}
use mathlib.Core.List.{List, [], ◌∷◌}
use mathlib.Core.Bool.{Bool, true, false, ◌&&◌}
use native.Mathlib.Omega.{arith}
use lib.ListN.{length}
use lib.Dec.{ltb, leb, eqb}
use borrow.Author.Tests.{ltb-true, eqb-false, le-leb, lt-leb}
use Rattle.std.specs.Prelude.{Option, Some, None, Result, Ok, IfOk, Err}
use Rattle.std.proofs.lemmas.Result.{IfOk-weaker, IfOk-at_ok}
use Rattle.basics.specs.Choice.{pick}
use Rattle.basics.proofs.Tests.{and_left, and_right}
use Rattle.table.specs.Rules.{between, obeys, servers_of, tasks_of}
use Rattle.table.specs.Places.{Obeyed}
use Rattle.table.specs.Span.{periods_of, span_of}
use Rattle.table.proofs.Obeyed.{obeyed_of}
use Rattle.table.proofs.Spans.{SearchSays, span_says}
use Rattle.table.specs.declared.Table.{Table}
use Rattle.fields.specs.Fields.{lines_of}
use Rattle.lines.specs.Lines.{line_of}
use Rattle.reading.specs.Reading.{no_table, refusal, accepted, with_span, with_line, resolved, ended_of, after_line, read_lines, ends_with_feed, reading_of}
use Rattle.refusals.specs.declared.Refusal.{Refusal}
use Rattle.refusals.specs.declared.Ground.TheVariants as what
use Rattle.lines.specs.declared.Line.{Line}
use Rattle.lines.specs.declared.Line.TheVariants.{SpanIs, ServerIs, TaskIs}
use Rattle.lines.specs.declared.Wrong.{Wrong}
use Rattle.reading.proofs.Rows.{InRules, Sized, Says, Told, line_says, rules_kept, sized_kept, none_yet, none_sized}

-- ---- an accepted table obeys the rules, and its arrays have their lengths

-- a table that has been read to its end
record Whole (t : Table) : Type 0 where
  pub rules : obeys t ≡ true
  pub sized : Sized t

-- a table that has been read so far; a span of 0 is not known yet
record SoFar (t : Table) : Type 0 where
  pub rules : InRules t
  pub sized : Sized t
  pub span : t.span ≤ 16000

within : (low high n : ℕ) → low ≤ n → n ≤ high → between low high n ≡ true
within low high n h k = rw (le-leb low n h, le-leb n high k)

whole_of : (t : Table) → SoFar t → 0 < t.servers_n → 0 < t.tasks_n → 0 < t.span → Whole t
whole_of t k a b c = record {
  rules = rw (within 1 16 t.servers_n a k.rules.few, within 1 64 t.tasks_n b k.rules.many, within 1 16000 t.span c k.span, k.rules.servers) k.rules.tasks;
  sized = k.sized;
}

resolved_whole : (t : Table) (r : Option ℕ) → SearchSays (periods_of (servers_of t) (tasks_of t)) 16000 1 r → SoFar t → 0 < t.servers_n → 0 < t.tasks_n
    → IfOk (resolved t r) Whole
resolved_whole t (Some h) s k a b = whole_of (with_span t h) (record {
  rules = record { few = k.rules.few; many = k.rules.many; servers = k.rules.servers; tasks = k.rules.tasks };
  sized = record { of_servers = k.sized.of_servers; of_tasks = k.sized.of_tasks };
  span = omega (arith, s.below);
}) a b s.from
resolved_whole t None s k a b = tt

ended_whole : (t : Table) (n : ℕ) → SoFar t → IfOk (ended_of t n) Whole
ended_whole t n k = go (ltb 0 t.servers_n && ltb 0 t.tasks_n) refl (eqb t.span 0) refl
  where
    x : Result Table Refusal
    x = resolved t (span_of (periods_of (servers_of t) (tasks_of t)))

    servers_some : (ltb 0 t.servers_n && ltb 0 t.tasks_n) ≡ true → 0 < t.servers_n
    servers_some q = ltb-true 0 t.servers_n (and_left (ltb 0 t.servers_n) (ltb 0 t.tasks_n) q)

    tasks_some : (ltb 0 t.servers_n && ltb 0 t.tasks_n) ≡ true → 0 < t.tasks_n
    tasks_some q = ltb-true 0 t.tasks_n (and_right (ltb 0 t.servers_n) (ltb 0 t.tasks_n) q)

    go : (b : Bool) → (ltb 0 t.servers_n && ltb 0 t.tasks_n) ≡ b → (e : Bool) → eqb t.span 0 ≡ e
        → IfOk (pick b (pick e x (accepted t)) (refusal what.Missing n 0)) Whole
    go true q true e =
        resolved_whole t (span_of (periods_of (servers_of t) (tasks_of t))) (span_says (periods_of (servers_of t) (tasks_of t))) k (servers_some q) (tasks_some q)
    go true q false e =
        let z : ¬ (t.span ≡ 0) = eqb-false t.span 0 e in
        whole_of t k (servers_some q) (tasks_some q) (omega arith)
    go false q e f = tt

span_kept : (t : Table) (line : Line) → t.span ≤ 16000 → Says t.servers_n t.tasks_n line → (with_line t line).span ≤ 16000
span_kept t (SpanIs h) p s = s
span_kept t (ServerIs x) p s = p
span_kept t (TaskIs k) p s = p

so_far_kept : (t : Table) (line : Line) → SoFar t → Says t.servers_n t.tasks_n line → SoFar (with_line t line)
so_far_kept t line k s = record { rules = rules_kept t line k.sized k.rules s; sized = sized_kept t line k.sized; span = span_kept t line k.span s }

after_whole : (r : Result Line Wrong) (t : Table) (n : ℕ) (next : Table → Result Table Refusal) → SoFar t → Told t.servers_n t.tasks_n r
    → ((u : Table) → SoFar u → IfOk (next u) Whole) → IfOk (after_line r t n next) Whole
after_whole (Ok line) t n next k s h = h (with_line t line) (so_far_kept t line k s)
after_whole (Err w) t n next k s h = tt

lines_whole : (ls : List (List ℕ)) (t : Table) (n : ℕ) → SoFar t → IfOk (read_lines ls t n) Whole
unfolding read_lines
lines_whole [] t n k = ended_whole t n k
lines_whole (l ∷ ls) t n k =
    after_whole (line_of n t.servers_n t.tasks_n l) t n (λ u. read_lines ls u (n + 1)) k (line_says t.servers_n t.tasks_n n l)
    (λ u v. lines_whole ls u (n + 1) v)

read_whole : (text : List ℕ) → IfOk (reading_of text) Whole
read_whole text = go (leb (length text) 4096) (ends_with_feed text)
  where
    go : (a b : Bool) → IfOk (pick a (pick b (read_lines (lines_of text) no_table 1) (refusal what.NotEnded 0 0)) (refusal what.TextTooLong 0 0)) Whole
    go true true = lines_whole (lines_of text) no_table 1 (record { rules = none_yet; sized = none_sized; span = omega arith })
    go true false = tt
    go false b = tt

pub read_obeys : (text : List ℕ) → IfOk (reading_of text) (λ t. obeys t ≡ true)
read_obeys text = IfOk-weaker (reading_of text) Whole (λ t. obeys t ≡ true) (λ t w. w.rules) (read_whole text)

pub read_sized : (text : List ℕ) → IfOk (reading_of text) Sized
read_sized text = IfOk-weaker (reading_of text) Whole Sized (λ t w. w.sized) (read_whole text)

-- the table of an accepted text obeys the rules and has all the entries that it counts
pub accepted_obeyed : (text : List ℕ) {t : Table} → reading_of text ≡ Ok t → Obeyed t
accepted_obeyed text {t} e =
    let w = IfOk-at_ok Whole e (read_whole text) in
    obeyed_of t w.rules w.sized.of_servers w.sized.of_tasks

-- ---- 1: "text over 4,096 bytes"; 2: "text empty or last byte not a line feed"

pub too_long : (text : List ℕ) → 4096 < length text → reading_of text ≡ refusal what.TextTooLong 0 0
too_long text h = rw (lt-leb (length text) 4096 h)

pub not_ended : (text : List ℕ) → length text ≤ 4096 → ends_with_feed text ≡ false → reading_of text ≡ refusal what.NotEnded 0 0
not_ended text h e = rw (le-leb (length text) 4096 h, e)

pub by_lines : (text : List ℕ) → length text ≤ 4096 → ends_with_feed text ≡ true → reading_of text ≡ read_lines (lines_of text) no_table 1
by_lines text h e = rw (le-leb (length text) 4096 h, e)

-- the contract of `read` leaves one outcome
pub read_once : (text : List ℕ) (r q : Result Table Refusal) → r ≡ reading_of text → q ≡ reading_of text → r ≡ q
read_once text r q p o = p ∙ sym o
