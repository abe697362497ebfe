-- Which field: each of the numbers 5, 6 and 14 to 18 is given, with a line and a place, just where its words hold there; every other number has place 0.
-- Assumes nothing.
use Prim.Native.Nat.{ℕ, ◌≤◌}
use mathlib.Core.Path.{◌≡◌, refl, sym, ap, subst, ◌∙◌}
use mathlib.Core.List.{List}
use mathlib.Core.Bool.{Bool, true, false, true≢false, ◌||◌}
use native.Mathlib.Omega.{arith}
use lib.Dec.{eqb}
use Rattle.std.specs.Prelude.{Option, Some, None}
use Rattle.basics.specs.Choice.{pick}
use Rattle.refusals.specs.Refusals.{number_of, last_place}
use Rattle.refusals.specs.declared.Ground.{Ground}
use Rattle.refusals.specs.declared.Ground.TheVariants as ground
use Rattle.table.specs.declared.Table.{Table}
use Rattle.fields.specs.Fields.{lines_of, field_at}
use Rattle.fields.specs.declared.Word.{Word}
use Rattle.fields.specs.declared.Word.TheVariants as word
use Rattle.reading.specs.Reading.{no_table}
use Rattle.grounds.specs.Grounds.{May, a_number, a_number_or_dash, a_kind, count_of, misplaced, too_many, field_count, bad_field, out_of_range}
use Rattle.grounds.specs.Words.{BadNumber, no_byte, dash_alone, other_byte, zero_first, six_digits, BadKind, no_kind, other_kind, BadAs}
use Rattle.grounds.specs.Texts.{GroundBehind, Reached, Whole, TextGround, long, unended, in_line, missing, over}
use Rattle.grounds.specs.Places.{of_field, gives_place, PlaceOf, RefusedBy, the_word, may_stand, AtField, BadThere, OutThere, JustIf, FieldLaws}
use Rattle.grounds.proofs.Words.{bad_words, words_bad}
use Rattle.grounds.proofs.Texts.{text_refused, refused_text}

not_so : {A : Type 0} → false ≡ true → A
not_so e = absurd (true≢false (sym e))

-- ---- each of these numbers is one ground's

-- the ground of a number that has a place
abbrev ground_by : ℕ → Ground
ground_by n =
    pick (eqb n 5) ground.Empty
    (pick (eqb n 6) ground.OutOfRange
    (pick (eqb n 14) ground.Dash
    (pick (eqb n 15) ground.NoDigit (pick (eqb n 16) ground.LeadingZero (pick (eqb n 17) ground.TooManyDigits ground.UnknownKind)))))

pub one_ground_each : (g : Ground) → gives_place (number_of g) ≡ true → g ≡ ground_by (number_of g)
one_ground_each ground.TextTooLong e = not_so e
one_ground_each ground.NotEnded e = not_so e
one_ground_each ground.Misplaced e = not_so e
one_ground_each ground.Missing e = not_so e
one_ground_each ground.TooMany e = not_so e
one_ground_each ground.FieldCount e = not_so e
one_ground_each ground.Empty e = refl
one_ground_each ground.Dash e = refl
one_ground_each ground.NoDigit e = refl
one_ground_each ground.LeadingZero e = refl
one_ground_each ground.TooManyDigits e = refl
one_ground_each ground.UnknownKind e = refl
one_ground_each ground.OutOfRange e = refl
one_ground_each ground.MultipleOver e = not_so e
one_ground_each ground.WorkRoom e = not_so e
one_ground_each ground.NotPlain e = not_so e
one_ground_each ground.NoRoom e = not_so e
one_ground_each ground.ArgumentZero e = not_so e
one_ground_each ground.OutOfStep e = not_so e
one_ground_each ground.RulesBroken e = not_so e

-- what makes a field bad has one of the numbers 5 and 14 to 18

number_of_field : (f : List ℕ) (x : Ground) → BadNumber f x → of_field (number_of x) ≡ true
number_of_field f _ (no_byte e) = refl
number_of_field f _ (dash_alone e) = refl
number_of_field f _ (other_byte e d) = refl
number_of_field f _ (zero_first d z) = refl
number_of_field f _ (six_digits d z l) = refl

kind_of_field : (f : List ℕ) (x : Ground) → BadKind f x → of_field (number_of x) ≡ true
kind_of_field f _ (no_kind e) = refl
kind_of_field f _ (other_kind e d p) = refl

bad_of_field : (m : May) (f : List ℕ) (x : Ground) → BadAs m f x → of_field (number_of x) ≡ true
bad_of_field a_number f x b = number_of_field f x b
bad_of_field a_number_or_dash f x b = number_of_field f x b.1
bad_of_field a_kind f x b = kind_of_field f x b

field_gives : (n : ℕ) → of_field n ≡ true → gives_place n ≡ true
field_gives n e = rw e (go (eqb n 6))
  where
    go : (b : Bool) → (b || true) ≡ true
    go true = refl
    go false = refl

-- ---- what a ground says of the place

-- a bad field stands there, or a number outside its range, or no field is meant
data Told (text : List ℕ) (x : Ground) (k place : ℕ) : Type 0 where
  bad : BadThere text x k place → Told text x k place
  out : x ≡ ground.OutOfRange → OutThere text k place → Told text x k place
  plain : gives_place (number_of x) ≡ false → place ≡ 0 → Told text x k place

module _ (text : List ℕ) where
  line_told : {u : Table} {l : List ℕ} {x : Ground} {k place : ℕ} → Whole text → Reached (lines_of text) no_table 1 k u l → GroundBehind u k l x place
      → Told text x k place
  line_told w r (misplaced e) = plain refl refl
  line_told w r (too_many p e) = plain refl refl
  line_told w r (field_count p q e) = plain refl refl
  line_told {u} {l} {x} {k} {place} w r (bad_field c i g e) = bad (record {
    above = u;
    line = l;
    at = record { whole = w; reached = r; counted = c; there = i };
    left = g;
    stands = bad_words (may_stand k u l place) (field_at l place) x e;
  })
  line_told {u} {l} w r (out_of_range c a i s e) =
      out refl (record { above = u; line = l; at = record { whole = w; reached = r; counted = c; there = i }; good = a; left = s; stands = e })

  ground_told : {x : Ground} {k place : ℕ} → TextGround text x k place → Told text x k place
  ground_told (long h) = plain refl refl
  ground_told (unended h e) = plain refl refl
  ground_told (in_line w f) = line_told w f.reached f.ground
  ground_told (missing w r e) = plain refl refl
  ground_told (over w r e z o) = plain refl refl

  -- and back
  bad_ground : {x : Ground} {k place : ℕ} → BadThere text x k place → TextGround text x k place
  bad_ground {x} {k} {place} b = in_line b.at.whole (record {
    above = b.above;
    line = b.line;
    reached = b.at.reached;
    ground = bad_field b.at.counted b.at.there b.left (words_bad (may_stand k b.above b.line place) (field_at b.line place) x b.stands);
  })

  out_ground : {k place : ℕ} → OutThere text k place → TextGround text ground.OutOfRange k place
  out_ground o = in_line o.at.whole (record {
    above = o.above;
    line = o.line;
    reached = o.at.reached;
    ground = out_of_range o.at.counted o.good o.at.there o.left o.stands;
  })

  -- a text that is refused by a number that has a place has the one ground of this number
  the_ground : {k place : ℕ} (x : Ground) → gives_place (number_of x) ≡ true → ground_by (number_of x) ≡ x → RefusedBy text (number_of x) k place
      → Told text x k place
  the_ground {k} {place} x gives is e =
      let g = refused_text text _ e in
      let same = one_ground_each g.ground (ap gives_place g.number ∙ gives) ∙ (ap ground_by g.number ∙ is) in
      ground_told (subst (λ y. TextGround text y k place) same g.stands)

  there_of_field : {x : Ground} {k place : ℕ} → BadThere text x k place → of_field (number_of x) ≡ true
  there_of_field {x} {k} {place} b = bad_of_field (may_stand k b.above b.line place) (field_at b.line place) x b.stands

  bad_there : {x : Ground} {k place : ℕ} → of_field (number_of x) ≡ true → Told text x k place → BadThere text x k place
  bad_there o (bad b) = b
  bad_there o (out e h) = not_so (sym (ap (λ y. of_field (number_of y)) e) ∙ o)
  bad_there {x} o (plain p z) = not_so (sym p ∙ field_gives (number_of x) o)

  out_there : {k place : ℕ} → Told text ground.OutOfRange k place → OutThere text k place
  out_there (bad b) = not_so (there_of_field b)
  out_there (out e o) = o
  out_there (plain p z) = not_so (sym p)

  module _ (k place : ℕ) where
    bad_just_if : (x : Ground) → of_field (number_of x) ≡ true → ground_by (number_of x) ≡ x → JustIf (RefusedBy text (number_of x) k place) (BadThere text x k place)
    bad_just_if x o is = record {
      to = λ e. bad_there o (the_ground x (field_gives (number_of x) o) is e);
      from = λ b. text_refused text (bad_ground b);
    }

    -- what she reads is so, and where it is so she reads it
    pub field_laws : FieldLaws text k place
    field_laws = record {
      five = bad_just_if ground.Empty refl refl;
      six = record {
        to = λ e. out_there (the_ground ground.OutOfRange refl refl e);
        from = λ o. text_refused text (out_ground o);
      };
      fourteen = bad_just_if ground.Dash refl refl;
      fifteen = bad_just_if ground.NoDigit refl refl;
      sixteen = bad_just_if ground.LeadingZero refl refl;
      seventeen = bad_just_if ground.TooManyDigits refl refl;
      eighteen = bad_just_if ground.UnknownKind refl refl;
    }

  -- ---- the place: of a field, or 0

  count_most : (w : Option Word) → count_of w ≤ last_place
  count_most (Some word.Span) = omega arith
  count_most (Some word.Server) = omega arith
  count_most (Some word.Once) = omega arith
  count_most (Some word.Every) = omega arith
  count_most None = omega arith

  place_within : {k place : ℕ} {above : Table} {line : List ℕ} → AtField k above line text place → (2 ≤ place) × (place ≤ last_place)
  place_within {k} {place} {above} {line} a = (a.there.behind, omega (arith, a.there.upto, count_most (the_word k above line)))

  told_place : (x : Ground) {k place : ℕ} → Told text x k place → PlaceOf (gives_place (number_of x)) place
  told_place x {place = place} (bad b) =
      subst (λ c. PlaceOf c place) (sym (field_gives (number_of x) (there_of_field b))) (place_within b.at)
  told_place x {place = place} (out e o) = subst (λ y. PlaceOf (gives_place (number_of y)) place) (sym e) (place_within o.at)
  told_place x {place = place} (plain p z) = subst (λ c. PlaceOf c place) (sym p) z

  pub place_told : {number k place : ℕ} → RefusedBy text number k place → PlaceOf (gives_place number) place
  place_told {place = place} e =
      let g = refused_text text _ e in
      subst (λ n. PlaceOf (gives_place n) place) g.number (told_place g.ground (ground_told g.stands))
