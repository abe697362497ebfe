-- A text is refused on the ground that it has and on no other, with that ground's number, line and place. Assumes nothing.
use Prim.Native.Nat.{ℕ, ◌+◌, ◌<◌}
use mathlib.Core.Path.{◌≡◌, refl, sym, ap, subst, ◌∙◌}
use mathlib.Core.List.{List, [], ◌∷◌}
use mathlib.Core.Bool.{Bool, true, false, true≢false}
use native.Mathlib.Omega.{arith}
use lib.ListN.{length}
use lib.Dec.{leb, eqb}
use borrow.Author.Tests.{leb-true, leb-false, eqb-true}
use Rattle.std.specs.Prelude.{Option, Some, None, Result, Ok, Err, is_ok}
use Rattle.table.specs.Rules.{servers_of, tasks_of}
use Rattle.table.specs.Span.{periods_of, span_of}
use Rattle.table.specs.declared.Table.{Table}
use Rattle.fields.specs.Fields.{lines_of}
use Rattle.lines.specs.declared.Line.{Line}
use Rattle.lines.specs.declared.Wrong.{Wrong}
use Rattle.refusals.specs.Refusals.{number_of, refused_at}
use Rattle.refusals.specs.declared.Ground.{Ground}
use Rattle.refusals.specs.declared.Refusal.{Refusal}
use Rattle.reading.specs.Reading.{no_table, with_span, refusal, ended_of, read_lines, ends_with_feed, reading_of}
use Rattle.reading.specs.Pieces.{with_said}
use Rattle.reading.proofs.Rows.{after_right}
use Rattle.reading.proofs.Accepted.{too_long, not_ended, by_lines}
use Rattle.grounds.specs.Texts.{said, GroundBehind, RightBehind, Reached, here, later, FirstGround, AllRight, end, next, both, Whole, TextGround, long, unended, in_line, missing, over}
use Rattle.grounds.proofs.Grounds.{refused_ground, ground_refuses, said_none, none_said, ground_once}

-- ---- from the ground to the refusal

-- a ground of the first line that has one ends the reading on it
reached_reads : (ls : List (List ℕ)) (t : Table) (n : ℕ) {u : Table} {m : List ℕ} {x : Ground} {k place : ℕ} → Reached ls t n k u m → GroundBehind u k m x place
    → read_lines ls t n ≡ refusal x k place
unfolding read_lines
reached_reads [] t n {u = u} {m = m} {x = x} {k = k} {place = place} r g = elim r [ ]
reached_reads (l ∷ ls) t n {x = x} {place = place} here g = rw (ground_refuses n t.servers_n t.tasks_n l x place g)
reached_reads (l ∷ ls) t n (later h f) g =
    after_right (said t n l) t n (λ u. read_lines ls u (n + 1)) (none_said n t.servers_n t.tasks_n l h)
    ∙ reached_reads ls (with_said t (said t n l)) (n + 1) f g

first_reads : (ls : List (List ℕ)) (t : Table) (n : ℕ) {x : Ground} {k place : ℕ} → FirstGround ls t n x k place → read_lines ls t n ≡ refusal x k place
first_reads ls t n f = reached_reads ls t n f.reached f.ground

-- lines without one leave it to what is missing and to the span
right_reads : (ls : List (List ℕ)) (t : Table) (n : ℕ) {u : Table} {m : ℕ} → AllRight ls t n u m → read_lines ls t n ≡ ended_of u m
unfolding read_lines
right_reads [] t n end = refl
right_reads (l ∷ ls) t n (next h r) =
    after_right (said t n l) t n (λ u. read_lines ls u (n + 1)) (none_said n t.servers_n t.tasks_n l h)
    ∙ right_reads ls (with_said t (said t n l)) (n + 1) r

whole_reads : (text : List ℕ) {u : Table} {m : ℕ} → Whole text → AllRight (lines_of text) no_table 1 u m → reading_of text ≡ ended_of u m
whole_reads text w r = by_lines text w.short w.ended ∙ right_reads (lines_of text) no_table 1 r

-- a text that has a ground is refused on it
pub text_refused : (text : List ℕ) {x : Ground} {k place : ℕ} → TextGround text x k place → reading_of text ≡ refusal x k place
text_refused text (long h) = too_long text h
text_refused text (unended h e) = not_ended text h e
text_refused text (in_line w f) = by_lines text w.short w.ended ∙ first_reads (lines_of text) no_table 1 f
text_refused text (missing w r e) = whole_reads text w r ∙ rw e
text_refused text (over w r e z o) = whole_reads text w r ∙ rw (e, z, o)

-- ---- from the refusal to the ground

-- lines behind a table: one of them is the first with a ground, or none has one
data Come (ls : List (List ℕ)) (t : Table) (n : ℕ) : Type 0 where
  first : {x : Ground} {k place : ℕ} → FirstGround ls t n x k place → Come ls t n
  right : {u : Table} {m : ℕ} → AllRight ls t n u m → Come ls t n

come_later : {l : List ℕ} {ls : List (List ℕ)} {t : Table} {n : ℕ} → RightBehind t n l → Come ls (with_said t (said t n l)) (n + 1) → Come (l ∷ ls) t n
come_later h (first f) = first (record { above = f.above; line = f.line; reached = later h f.reached; ground = f.ground })
come_later h (right r) = right (next h r)

come : (ls : List (List ℕ)) (t : Table) (n : ℕ) → Come ls t n
come [] t n = right end
come (l ∷ ls) t n = go (said t n l) refl (come ls (with_said t (said t n l)) (n + 1))
  where
    go : (x : Result Line Wrong) → said t n l ≡ x → Come ls (with_said t (said t n l)) (n + 1) → Come (l ∷ ls) t n
    go (Ok s) e c = come_later (said_none n t.servers_n t.tasks_n l (ap is_ok e)) c
    go (Err w) e c =
        first (record { above = t; line = l; reached = here; ground = refused_ground n t.servers_n t.tasks_n l w.ground w.place e })

-- a text has a ground, or is accepted
pub data TextJudged (text : List ℕ) : Type 0 where
  refused : {x : Ground} {k place : ℕ} → TextGround text x k place → TextJudged text
  unrefused : {t : Table} → reading_of text ≡ Ok t → TextJudged text

ended_judged : (text : List ℕ) (u : Table) (m : ℕ) → Whole text → AllRight (lines_of text) no_table 1 u m → TextJudged text
ended_judged text u m w r = go (both u) refl (eqb u.span 0) refl (span_of (periods_of (servers_of u) (tasks_of u))) refl
  where
    go : (b : Bool) → both u ≡ b → (e : Bool) → eqb u.span 0 ≡ e → (s : Option ℕ) → span_of (periods_of (servers_of u) (tasks_of u)) ≡ s → TextJudged text
    go false p e q s o = refused (missing w r p)
    go true p true q None o = refused (over w r p (eqb-true u.span 0 q) o)
    go true p true q (Some h) o = unrefused {t = with_span u h} (whole_reads text w r ∙ rw (p, q, o))
    go true p false q s o = unrefused {t = u} (whole_reads text w r ∙ rw (p, q))

pub text_judged : (text : List ℕ) → TextJudged text
text_judged text = go (leb (length text) 4096) refl (ends_with_feed text) refl (come (lines_of text) no_table 1)
  where
    go : (a : Bool) → leb (length text) 4096 ≡ a → (b : Bool) → ends_with_feed text ≡ b → Come (lines_of text) no_table 1 → TextJudged text
    go false p b q c = refused (long (leb-false (length text) 4096 p))
    go true p false q c = refused (unended (leb-true (length text) 4096 p) q)
    go true p true q (first f) = refused (in_line (record { short = leb-true (length text) 4096 p; ended = q }) f)
    go true p true q (right {u = u} {m = m} r) = ended_judged text u m (record { short = leb-true (length text) 4096 p; ended = q }) r

-- the ground of a refusal: it has the number, and stands at the line and the place
pub record Grounded (text : List ℕ) (r : Refusal) : Type 0 where
  pub ground : Ground
  pub number : number_of ground ≡ r.number
  pub stands : TextGround text ground r.line r.place

-- a text that is refused has the ground
pub refused_text : (text : List ℕ) (r : Refusal) → reading_of text ≡ Err r → Grounded text r
refused_text text r e = go (text_judged text)
  where
    go : TextJudged text → Grounded text r
    go (unrefused a) = absurd (let z = sym a ∙ e in cc)
    go (refused {x = x} {k = k} {place = place} g) =
        let y = sym (text_refused text g) ∙ e in
        let z : refused_at x k place ≡ r = cc in
        subst (Grounded text) z (record { ground = x; number = refl; stands = g })

-- a text is accepted just when it has no ground
pub accepted_none : (text : List ℕ) {t : Table} → reading_of text ≡ Ok t → (x : Ground) (k place : ℕ) → TextGround text x k place → ⊥
accepted_none text a x k place g = let z = sym a ∙ text_refused text g in cc

pub none_accepted : (text : List ℕ) → ((x : Ground) (k place : ℕ) → TextGround text x k place → ⊥) → (t : Table) × (reading_of text ≡ Ok t)
none_accepted text h = go (text_judged text)
  where
    go : TextJudged text → (t : Table) × (reading_of text ≡ Ok t)
    go (unrefused {t = t} a) = (t, a)
    go (refused {x = x} {k = k} {place = place} g) = absurd (h x k place g)

-- ---- a text has one ground

-- of lines behind a table one is the first with a ground, and it has that ground only
reached_once : (ls : List (List ℕ)) (t : Table) (n : ℕ) {u v : Table} {a b : List ℕ} {x y : Ground} {k l p q : ℕ} → Reached ls t n k u a → GroundBehind u k a x p
    → Reached ls t n l v b → GroundBehind v l b y q → x ≡ y
reached_once [] t n {u = u} {v = v} {a = a} {b = b} {x = x} {y = y} {k = k} {l = l} {p = p} {q = q} r g _ h = elim r [ ]
reached_once (l ∷ ls) t n here g here h = (ground_once n t.servers_n t.tasks_n l _ _ _ _ g h).0
reached_once (l ∷ ls) t n {x = x} {p = p} here g (later r f) h = absurd (r x p g)
reached_once (l ∷ ls) t n {y = y} {q = q} (later r f) g here h = absurd (r y q h)
reached_once (l ∷ ls) t n (later r e) g (later s f) h = reached_once ls (with_said t (said t n l)) (n + 1) e g f h

first_once : (ls : List (List ℕ)) (t : Table) (n : ℕ) {x y : Ground} {k l p q : ℕ} → FirstGround ls t n x k p → FirstGround ls t n y l q → x ≡ y
first_once ls t n f g = reached_once ls t n f.reached f.ground g.reached g.ground

reached_not_right : (ls : List (List ℕ)) (t : Table) (n : ℕ) {u v : Table} {a : List ℕ} {x : Ground} {k p m : ℕ} → Reached ls t n k u a → GroundBehind u k a x p
    → AllRight ls t n v m → ⊥
reached_not_right [] t n {u = u} {v = v} {a = a} {x = x} {k = k} {p = p} {m = m} r g _ = elim r [ ]
reached_not_right (l ∷ ls) t n {x = x} {p = p} here g (next r a) = r x p g
reached_not_right (l ∷ ls) t n (later s f) g (next r a) = reached_not_right ls (with_said t (said t n l)) (n + 1) f g a

first_not_right : (ls : List (List ℕ)) (t : Table) (n : ℕ) {x : Ground} {k p : ℕ} {u : Table} {m : ℕ} → FirstGround ls t n x k p → AllRight ls t n u m → ⊥
first_not_right ls t n f a = reached_not_right ls t n f.reached f.ground a

right_once : (ls : List (List ℕ)) (t : Table) (n : ℕ) {u v : Table} {m k : ℕ} → AllRight ls t n u m → AllRight ls t n v k → u ≡ v
right_once [] t n end end = refl
right_once (l ∷ ls) t n (next r a) (next s b) = right_once ls (with_said t (said t n l)) (n + 1) a b

-- two grounds of a text have the same number, line and place
pub text_ground_once : (text : List ℕ) {x y : Ground} {k l p q : ℕ} → TextGround text x k p → TextGround text y l q → refused_at x k p ≡ refused_at y l q
text_ground_once text {x} {y} {k} {l} {p} {q} g h =
    let e = sym (text_refused text g) ∙ text_refused text h in cc

-- and they are the same ground
module _ (text : List ℕ) where
  not_long : {A : Type 0} → 4096 < length text → Whole text → A
  not_long h w = absurd (omega (arith, w.short))

  not_unended : {A : Type 0} → ends_with_feed text ≡ false → Whole text → A
  not_unended e w = absurd (true≢false (sym w.ended ∙ e))

  not_both : {A : Type 0} {u v : Table} {m n : ℕ} → AllRight (lines_of text) no_table 1 u m → AllRight (lines_of text) no_table 1 v n → both u ≡ false
      → both v ≡ true → A
  not_both r s e f = absurd (true≢false (sym f ∙ (sym (ap both (right_once (lines_of text) no_table 1 r s)) ∙ e)))

  pub text_ground_same : {x y : Ground} {k l p q : ℕ} → TextGround text x k p → TextGround text y l q → x ≡ y
  text_ground_same (long h) (long g) = refl
  text_ground_same (long h) (unended g e) = absurd (omega arith)
  text_ground_same (long h) (in_line w f) = not_long h w
  text_ground_same (long h) (missing w r e) = not_long h w
  text_ground_same (long h) (over w r e z o) = not_long h w
  text_ground_same (unended h e) (long g) = absurd (omega arith)
  text_ground_same (unended h e) (unended g f) = refl
  text_ground_same (unended h e) (in_line w f) = not_unended e w
  text_ground_same (unended h e) (missing w r f) = not_unended e w
  text_ground_same (unended h e) (over w r f z o) = not_unended e w
  text_ground_same (in_line w f) (long g) = not_long g w
  text_ground_same (in_line w f) (unended g e) = not_unended e w
  text_ground_same (in_line w f) (in_line v g) = first_once (lines_of text) no_table 1 f g
  text_ground_same (in_line w f) (missing v r e) = absurd (first_not_right (lines_of text) no_table 1 f r)
  text_ground_same (in_line w f) (over v r e z o) = absurd (first_not_right (lines_of text) no_table 1 f r)
  text_ground_same (missing w r e) (long g) = not_long g w
  text_ground_same (missing w r e) (unended g f) = not_unended f w
  text_ground_same (missing w r e) (in_line v f) = absurd (first_not_right (lines_of text) no_table 1 f r)
  text_ground_same (missing w r e) (missing v s f) = refl
  text_ground_same (missing w r e) (over v s f z o) = not_both r s e f
  text_ground_same (over w r e z o) (long g) = not_long g w
  text_ground_same (over w r e z o) (unended g f) = not_unended f w
  text_ground_same (over w r e z o) (in_line v f) = absurd (first_not_right (lines_of text) no_table 1 f r)
  text_ground_same (over w r e z o) (missing v s f) = not_both s r f e
  text_ground_same (over w r e z o) (over v s f y i) = refl
