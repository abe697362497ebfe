-- Every line is judged: one that is wrong has the ground that it is refused on, any other has passed all tests. One law for each piece that
-- Lines.antt of `lines` is made of; then every word is an application of them. Assumes nothing.
use Prim.Native.Nat.{ℕ, suc, ◌≤◌, ◌<◌}
use mathlib.Core.Path.{◌≡◌, refl, sym, ap, subst, ◌∙◌}
use mathlib.Core.List.{List}
use mathlib.Core.Bool.{Bool, true, false, ◌&&◌}
use native.Mathlib.Omega.{arith}
use native.Mathlib.Decide.{dec_lt}
use lib.ListN.{length}
use lib.Dec.{ltb, leb, eqb}
use borrow.Author.Tests.{leb-true, eqb-true, eqb-false}
use Rattle.std.specs.Prelude.{Option, Some, None, Result, Ok, Err}
use Rattle.basics.specs.Choice.{pick}
use Rattle.basics.proofs.Tests.{and_left, and_right}
use Rattle.table.specs.Rules.{between, in_ticks}
use Rattle.table.specs.declared.Kind.{Kind}
use Rattle.table.specs.declared.Task.{Task}
use Rattle.table.specs.declared.Release.TheVariants as release
use Rattle.fields.specs.Fields.{fields_of, field_at, same_bytes, dash, word_of, field_number}
use Rattle.lines.specs.Lines.{wrong, field, ranged, counted, kind_of, server_is, task_is, release_is, deadline_of, by_word, line_of}
use Rattle.refusals.specs.declared.Ground.{Ground}
use Rattle.refusals.specs.declared.Ground.TheVariants as what
use Rattle.fields.specs.declared.Word.{Word}
use Rattle.fields.specs.declared.Word.TheVariants as word
use Rattle.lines.specs.declared.Line.{Line}
use Rattle.lines.specs.declared.Line.TheVariants.{SpanIs}
use Rattle.lines.specs.declared.Wrong.{Wrong}
use Rattle.grounds.specs.Grounds.{a_number, a_number_or_dash, a_kind, Range, ticks, ticks_to_period, from_zero, a_server, unranged, Entry, entry, entry_at, count_of, Field, is_number, is_dash, is_kind, of_number, of_kind, read_as, is_good, value_of, within, in_range, in_place, has_room, field_there, range_there, Counted, InLine, GoodBefore, RangesBefore, AllGood, GroundOf, misplaced, too_many, field_count, bad_field, out_of_range, Right}

-- one place more
next_place : (P : ℕ → Type 0) (k : ℕ) → ((p : ℕ) → 2 ≤ p → p < k → P p) → P k → (p : ℕ) → 2 ≤ p → p < suc k → P p
next_place P k before here p a b = go (dec_lt p k)
  where
    go : Dec (p < k) → P p
    go (yes h) = before p a h
    go (no h) = subst P (omega arith) here

module _ (w : Option Word) (n servers tasks : ℕ) (line : List ℕ) where
  abbrev pub Judged : Result Line Wrong → Type 0
  Judged (Ok l) = Right w n servers tasks line
  Judged (Err e) = GroundOf w n servers tasks line e.ground e.place

  -- fields to the left of a place, and numbers
  abbrev Good : ℕ → Type 0
  Good = GoodBefore w n servers tasks line

  abbrev Ranges : ℕ → Type 0
  Ranges = RangesBefore w n servers tasks line

  abbrev There : ℕ → Field
  There = field_there w n servers tasks line

  abbrev InRange : ℕ → Bool
  InRange = range_there w n servers tasks line

  good_next : (place : ℕ) → Good place → is_good (There place) ≡ true → Good (suc place)
  good_next place g e = next_place (λ p. is_good (There p) ≡ true) place g e

  ranges_next : (place : ℕ) → Ranges place → InRange place ≡ true → Ranges (suc place)
  ranges_next place g e = next_place (λ p. InRange p ≡ true) place g e

  -- ---- 3, 7 and 4

  placed_judged : (ok : Bool) → in_place w n servers tasks ≡ ok → (next : Result Line Wrong) → (ok ≡ true → Judged next) → Judged (pick ok next (wrong what.Misplaced 0))
  placed_judged true e next h = h refl
  placed_judged false e next h = misplaced e

  room_judged : (ok : Bool) → in_place w n servers tasks ≡ true → has_room w servers tasks ≡ ok → (next : Result Line Wrong) → (ok ≡ true → Judged next) → Judged (pick ok next (wrong what.TooMany 0))
  room_judged true p e next h = h refl
  room_judged false p e next h = too_many p e

  count_judged : (k : ℕ) → count_of w ≡ k → in_place w n servers tasks ≡ true → has_room w servers tasks ≡ true → (next : Result Line Wrong)
      → (Counted w n servers tasks line → Judged next) → Judged (counted line k next)
  count_judged k e p r next h = go (eqb (length (fields_of line)) k) refl
    where
      go : (b : Bool) → eqb (length (fields_of line)) k ≡ b → Judged (pick b next (wrong what.FieldCount 0))
      go true q = h (record { placed = p; room = r; count = eqb-true (length (fields_of line)) k q ∙ sym e })
      go false q = field_count p r (λ z. eqb-false (length (fields_of line)) k q (z ∙ e))

  -- ---- 5, for a line of the right count

  module _ (c : Counted w n servers tasks line) where
    -- a number at a place where only a number may stand
    number_judged : (place : ℕ) → (entry_at w place).may ≡ a_number → InLine w n servers tasks line place → Good place → (next : ℕ → Result Line Wrong)
        → ((v : ℕ) → field_number (field_at line place) ≡ Ok v → Good (suc place) → Judged (next v)) → Judged (field (field_number (field_at line place)) place next)
    number_judged place m i g next h = go (field_number (field_at line place)) refl
      where
        there : (x : Result ℕ Ground) → field_number (field_at line place) ≡ x → There place ≡ of_number x
        there x e = ap (λ k. read_as k (field_at line place)) m ∙ ap of_number e

        go : (x : Result ℕ Ground) → field_number (field_at line place) ≡ x → Judged (field x place next)
        go (Ok v) e = h v e (good_next place g (ap is_good (there (Ok v) e)))
        go (Err x) e = bad_field c i g (there (Err x) e)

    -- a server kind
    kind_judged : (place : ℕ) → (entry_at w place).may ≡ a_kind → InLine w n servers tasks line place → Good place → (next : Kind → Result Line Wrong)
        → ((k : Kind) → There place ≡ is_kind → Good (suc place) → Judged (next k)) → Judged (field (kind_of (field_at line place)) place next)
    kind_judged place m i g next h = go (kind_of (field_at line place)) refl
      where
        there : (x : Result Kind Ground) → kind_of (field_at line place) ≡ x → There place ≡ of_kind x
        there x e = ap (λ k. read_as k (field_at line place)) m ∙ ap of_kind e

        go : (x : Result Kind Ground) → kind_of (field_at line place) ≡ x → Judged (field x place next)
        go (Ok k) e = h k (there (Ok k) e) (good_next place g (ap is_good (there (Ok k) e)))
        go (Err x) e = bad_field c i g (there (Err x) e)

    -- a number or `-`: what follows is told which
    dash_judged : (place : ℕ) → (entry_at w place).may ≡ a_number_or_dash → InLine w n servers tasks line place → Good place → (dashed : Result Line Wrong) (next : ℕ → Result Line Wrong)
        → (There place ≡ is_dash → Good (suc place) → Judged dashed)
        → ((v : ℕ) → There place ≡ is_number v → Good (suc place) → Judged (next v))
        → Judged (pick (same_bytes (field_at line place) dash) dashed (field (field_number (field_at line place)) place next))
    dash_judged place m i g dashed next d h = go (same_bytes (field_at line place) dash) refl (field_number (field_at line place)) refl
      where
        there : (b : Bool) → same_bytes (field_at line place) dash ≡ b → (x : Result ℕ Ground) → field_number (field_at line place) ≡ x → There place ≡ pick b is_dash (of_number x)
        there b q x e = ap (λ k. read_as k (field_at line place)) m ∙ (ap (λ k. pick k is_dash (of_number (field_number (field_at line place)))) q ∙ ap (λ k. pick b is_dash (of_number k)) e)

        go : (b : Bool) → same_bytes (field_at line place) dash ≡ b → (x : Result ℕ Ground) → field_number (field_at line place) ≡ x → Judged (pick b dashed (field x place next))
        go true q x e = d (there true q x e) (good_next place g (ap is_good (there true q x e)))
        go false q (Ok v) e = h v (there false q (Ok v) e) (good_next place g (ap is_good (there false q (Ok v) e)))
        go false q (Err x) e = bad_field c i g (there false q (Err x) e)

    -- ---- 6, for a line of good fields

    range_judged : AllGood w n servers tasks line → (place : ℕ) → InLine w n servers tasks line place → Ranges place → (ok : Bool) → InRange place ≡ ok → (next : Result Line Wrong)
        → (ok ≡ true → Ranges (suc place) → Judged next) → Judged (ranged ok place next)
    range_judged a place i r true e next h = h refl (ranges_next place r e)
    range_judged a place i r false e next h = out_of_range {place = place} c (λ p u v. a p u (omega (arith, i.upto))) i r e

-- a deadline that may be `-` is read as a field that may be
deadline_pick : (f : List ℕ) (p place : ℕ) (next : ℕ → Result Line Wrong) → field (deadline_of f p) place next ≡ pick (same_bytes f dash) (next p) (field (field_number f) place next)
deadline_pick f p place next = go (same_bytes f dash)
  where
    go : (b : Bool) → field (pick b (Ok p) (field_number f)) place next ≡ pick b (next p) (field (field_number f) place next)
    go true = refl
    go false = refl

-- left of place 2 there is no field
none_before : (P : ℕ → Type 0) (p : ℕ) → 2 ≤ p → p < 2 → P p
none_before P p a b = absurd (omega arith)

abbrev once_task : ℕ → ℕ → ℕ → ℕ → Task
once_task s w i d = record { server = s; work = w; release = release.Once i; deadline = d }

abbrev every_task : ℕ → ℕ → ℕ → ℕ → ℕ → Task
every_task s w o p d = record { server = s; work = w; release = release.Every o p; deadline = d }

module _ (n servers tasks : ℕ) (line : List ℕ) where
  -- the number at a place, as it was read
  abbrev At : ℕ → ℕ → Type 0
  At place v = field_number (field_at line place) ≡ Ok v

  -- whether it is in its range
  in_range_lem : (r : Range) (place : ℕ) {v : ℕ} → At place v → in_range r servers line (of_number (field_number (field_at line place))) ≡ within r servers line v
  in_range_lem r place e = ap (λ x. in_range r servers line (of_number x)) e

  number_range : (w : Option Word) (place : ℕ) {r : Range} {v : ℕ} → entry_at w place ≡ entry a_number r → At place v
      → range_there w n servers tasks line place ≡ within r servers line v
  number_range w place {r} e a = ap (λ (x : Entry). in_range x.range servers line (read_as x.may (field_at line place))) e ∙ in_range_lem r place a

  -- a place of a word, told by a test
  on : (w : Option Word) (k : ℕ) → (leb 2 k && leb k (count_of w)) ≡ true → InLine w n servers tasks line k
  on w k e =
      record {
        behind = leb-true 2 k (and_left (leb 2 k) (leb k (count_of w)) e);
        upto = leb-true k (count_of w) (and_right (leb 2 k) (leb k (count_of w)) e);
      }

  span_judged : Counted (Some word.Span) n servers tasks line → Judged (Some word.Span) n servers tasks line
      (pick (same_bytes (field_at line 2) dash) (Ok (SpanIs 0)) (field (field_number (field_at line 2)) 2 (λ h. ranged (in_ticks h) 2 (Ok (SpanIs h)))))
  span_judged c =
      dash_judged (Some word.Span) n servers tasks line c 2 refl (on (Some word.Span) 2 refl) (none_before _) (Ok (SpanIs 0)) _
      (λ e g. record { counted = c; fields = g; ranges = ranges_next (Some word.Span) n servers tasks line 2 (none_before _) (ap (in_range ticks servers line) e) })
      (λ h e g. range_judged (Some word.Span) n servers tasks line c g 2 (on (Some word.Span) 2 refl) (none_before _) (in_ticks h) (ap (in_range ticks servers line) e) (Ok (SpanIs h))
      (λ t r. record { counted = c; fields = g; ranges = r }))

  server_judged : Counted (Some word.Server) n servers tasks line → AllGood (Some word.Server) n servers tasks line → field_there (Some word.Server) n servers tasks line 2 ≡ is_kind
      → (k : Kind) (c t : ℕ) → At 3 c → At 4 t → Judged (Some word.Server) n servers tasks line (server_is k c t)
  server_judged x g d k c t e f =
      range_judged (Some word.Server) n servers tasks line x g 3 (on (Some word.Server) 3 refl)
      (ranges_next (Some word.Server) n servers tasks line 2 (none_before _) (ap (in_range unranged servers line) d)) (in_ticks c && leb c t)
      (in_range_lem ticks_to_period 3 e ∙ ap (λ y. in_ticks c && leb c (value_of y)) f) _ (λ u r.
      range_judged (Some word.Server) n servers tasks line x g 4 (on (Some word.Server) 4 refl) r (in_ticks t) (in_range_lem ticks 4 f) _ (λ v s.
      record { counted = x; fields = g; ranges = s }))

  -- the ranges of server and work, with which every task line starts; then those of its release
  task_judged : (w : Option Word) → entry_at w 2 ≡ entry a_number a_server → entry_at w 3 ≡ entry a_number ticks → InLine w n servers tasks line 3
      → Counted w n servers tasks line → AllGood w n servers tasks line → (k : Task) → At 2 k.server → At 3 k.work
      → (RangesBefore w n servers tasks line 4 → Judged w n servers tasks line (release_is k.release k)) → Judged w n servers tasks line (task_is servers k)
  task_judged w e f l x g k a b h =
      range_judged w n servers tasks line x g 2 (record { behind = omega arith; upto = omega (arith, l.upto) }) (none_before _)
      (between 1 servers k.server) (number_range w 2 e a) _ (λ u q.
      range_judged w n servers tasks line x g 3 l q (in_ticks k.work) (number_range w 3 f b) _ (λ v r. h r))

  once_judged : Counted (Some word.Once) n servers tasks line → AllGood (Some word.Once) n servers tasks line → (s w i d : ℕ) → At 2 s → At 3 w → At 4 i → At 5 d
      → Judged (Some word.Once) n servers tasks line (task_is servers (once_task s w i d))
  once_judged x g s w i d a b c e =
      task_judged (Some word.Once) refl refl (on (Some word.Once) 3 refl) x g (once_task s w i d) a b (λ q.
      range_judged (Some word.Once) n servers tasks line x g 4 (on (Some word.Once) 4 refl) q (leb i 16000) (in_range_lem from_zero 4 c) _ (λ u q.
      range_judged (Some word.Once) n servers tasks line x g 5 (on (Some word.Once) 5 refl) q (in_ticks d) (in_range_lem ticks 5 e) _ (λ u q.
      record { counted = x; fields = g; ranges = q })))

  -- the deadline's range is told once the period's is met: `-` has none, and is the period
  every_judged : Counted (Some word.Every) n servers tasks line → AllGood (Some word.Every) n servers tasks line → (s w o p d : ℕ) → At 2 s → At 3 w → At 4 o → At 5 p
      → (in_ticks p ≡ true → range_there (Some word.Every) n servers tasks line 6 ≡ in_ticks d) → Judged (Some word.Every) n servers tasks line (task_is servers (every_task s w o p d))
  every_judged x g s w o p d a b c e f =
      task_judged (Some word.Every) refl refl (on (Some word.Every) 3 refl) x g (every_task s w o p d) a b (λ q.
      range_judged (Some word.Every) n servers tasks line x g 4 (on (Some word.Every) 4 refl) q (leb o 16000) (in_range_lem from_zero 4 c) _ (λ u q.
      range_judged (Some word.Every) n servers tasks line x g 5 (on (Some word.Every) 5 refl) q (in_ticks p) (in_range_lem ticks 5 e) _ (λ u q.
      range_judged (Some word.Every) n servers tasks line x g 6 (on (Some word.Every) 6 refl) q (in_ticks d) (f u) _ (λ v r.
      record { counted = x; fields = g; ranges = r }))))

  deadline_judged : Counted (Some word.Every) n servers tasks line → GoodBefore (Some word.Every) n servers tasks line 6 → (s w o p : ℕ) → At 2 s → At 3 w → At 4 o → At 5 p
      → Judged (Some word.Every) n servers tasks line (field (deadline_of (field_at line 6) p) 6 (λ d. task_is servers (every_task s w o p d)))
  deadline_judged x g s w o p a b c e =
      subst (Judged (Some word.Every) n servers tasks line) (sym (deadline_pick (field_at line 6) p 6 (λ d. task_is servers (every_task s w o p d))))
      (dash_judged (Some word.Every) n servers tasks line x 6 refl (on (Some word.Every) 6 refl) g (task_is servers (every_task s w o p p)) (λ d. task_is servers (every_task s w o p d))
      (λ d h. every_judged x h s w o p p a b c e (λ u. ap (in_range ticks servers line) d ∙ sym u))
      (λ v d h. every_judged x h s w o p v a b c e (λ u. ap (in_range ticks servers line) d)))

  word_judged : (w : Option Word) → Judged w n servers tasks line (by_word w n servers tasks line)
  word_judged (Some word.Span) =
      placed_judged (Some word.Span) n servers tasks line (eqb n 1) refl _ (λ p. count_judged (Some word.Span) n servers tasks line 2 refl p refl _ span_judged)
  word_judged (Some word.Server) =
      placed_judged (Some word.Server) n servers tasks line (ltb 1 n && eqb tasks 0) refl _ (λ p.
      room_judged (Some word.Server) n servers tasks line (ltb servers 16) p refl _ (λ r.
      count_judged (Some word.Server) n servers tasks line 4 refl p r _ (λ x.
      kind_judged (Some word.Server) n servers tasks line x 2 refl (on (Some word.Server) 2 refl) (none_before _) _ (λ k d g.
      number_judged (Some word.Server) n servers tasks line x 3 refl (on (Some word.Server) 3 refl) g _ (λ c e g.
      number_judged (Some word.Server) n servers tasks line x 4 refl (on (Some word.Server) 4 refl) g _ (λ t f g. server_judged x g d k c t e f))))))
  word_judged (Some word.Once) =
      placed_judged (Some word.Once) n servers tasks line (ltb 0 servers) refl _ (λ p.
      room_judged (Some word.Once) n servers tasks line (ltb tasks 64) p refl _ (λ r.
      count_judged (Some word.Once) n servers tasks line 5 refl p r _ (λ x.
      number_judged (Some word.Once) n servers tasks line x 2 refl (on (Some word.Once) 2 refl) (none_before _) _ (λ s a g.
      number_judged (Some word.Once) n servers tasks line x 3 refl (on (Some word.Once) 3 refl) g _ (λ w b g.
      number_judged (Some word.Once) n servers tasks line x 4 refl (on (Some word.Once) 4 refl) g _ (λ i c g.
      number_judged (Some word.Once) n servers tasks line x 5 refl (on (Some word.Once) 5 refl) g _ (λ d e g. once_judged x g s w i d a b c e)))))))
  word_judged (Some word.Every) =
      placed_judged (Some word.Every) n servers tasks line (ltb 0 servers) refl _ (λ p.
      room_judged (Some word.Every) n servers tasks line (ltb tasks 64) p refl _ (λ r.
      count_judged (Some word.Every) n servers tasks line 6 refl p r _ (λ x.
      number_judged (Some word.Every) n servers tasks line x 2 refl (on (Some word.Every) 2 refl) (none_before _) _ (λ s a g.
      number_judged (Some word.Every) n servers tasks line x 3 refl (on (Some word.Every) 3 refl) g _ (λ w b g.
      number_judged (Some word.Every) n servers tasks line x 4 refl (on (Some word.Every) 4 refl) g _ (λ o c g.
      number_judged (Some word.Every) n servers tasks line x 5 refl (on (Some word.Every) 5 refl) g _ (λ q e g. deadline_judged x g s w o q a b c e)))))))
  word_judged None = misplaced refl

  pub line_judged : Judged (word_of (field_at line 1)) n servers tasks line (line_of n servers tasks line)
  line_judged = word_judged (word_of (field_at line 1))
