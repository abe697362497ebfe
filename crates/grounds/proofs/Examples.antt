-- The examples, by computing. Assumes nothing.
use Prim.Native.Nat.{ℕ, ◌≤◌}
use mathlib.Core.Path.{◌≡◌, refl, sym, subst}
use mathlib.Core.List.{List, [], ◌∷◌}
use mathlib.Core.Bool.{true}
use native.Mathlib.Omega.{arith}
use lib.ListN.{length}
use Rattle.table.specs.Rules.{all}
use Rattle.refusals.specs.Refusals.{number_of}
use Rattle.refusals.specs.declared.Ground.{Ground}
use Rattle.refusals.specs.declared.Ground.TheVariants as ground
use Rattle.fields.specs.Fields.{lines_of, all_but_last, same_bytes, digits_from}
use Rattle.lines.specs.Lines.{wrong, line_of}
use Rattle.reading.specs.Reading.{no_table, ends_with_feed}
use Rattle.grounds.specs.Texts.{here, FirstGround, Whole, in_line}
use Rattle.grounds.specs.Places.{RefusedBy}
use Rattle.grounds.specs.Examples.{SpanLines, ServerLines, OnceLines, EveryLines, span_with, SpanFields}
use Rattle.fields.proofs.Pieces.{split_is}
use Rattle.grounds.proofs.Grounds.{refused_ground, said_none}
use Rattle.grounds.proofs.Texts.{text_refused}

pub span_lines : SpanLines
unfolding same_bytes digits_from all
span_lines = record {
  valid = said_none 1 0 0 _ (rw split_is (rw split_is refl));
  dashed = said_none 1 0 0 _ (rw split_is (rw split_is refl));
  misplaced = refused_ground 2 0 0 _ _ 0 (rw split_is refl);
  field_count = refused_ground 1 0 0 _ _ 0 (rw split_is (rw split_is refl));
  empty = refused_ground 1 0 0 _ _ 2 (rw split_is (rw split_is refl));
  no_digit = refused_ground 1 0 0 _ _ 2 (rw split_is (rw split_is refl));
  leading_zero = refused_ground 1 0 0 _ _ 2 (rw split_is (rw split_is refl));
  too_many_digits = refused_ground 1 0 0 _ _ 2 (rw split_is (rw split_is refl));
  out_of_range = refused_ground 1 0 0 _ _ 2 (rw split_is (rw split_is refl));
}

pub server_lines : ServerLines
unfolding same_bytes digits_from all
server_lines = record {
  valid = said_none 2 0 0 _ (rw split_is (rw split_is refl));
  exact = said_none 3 15 0 _ (rw split_is (rw split_is refl));
  misplaced = refused_ground 1 0 0 _ _ 0 (rw split_is refl);
  after_task = refused_ground 5 1 1 _ _ 0 (rw split_is refl);
  too_many = refused_ground 18 16 0 _ _ 0 (rw split_is refl);
  field_count = refused_ground 2 0 0 _ _ 0 (rw split_is (rw split_is refl));
  empty = refused_ground 2 0 0 _ _ 2 (rw split_is (rw split_is refl));
  unknown_kind = refused_ground 2 0 0 _ _ 2 (rw split_is (rw split_is refl));
  dash_there = refused_ground 2 0 0 _ _ 4 (rw split_is (rw split_is refl));
  no_digit = refused_ground 2 0 0 _ _ 3 (rw split_is (rw split_is refl));
  leading_zero = refused_ground 2 0 0 _ _ 4 (rw split_is (rw split_is refl));
  out_left_of_no_digit = refused_ground 2 0 0 _ _ 4 (rw split_is (rw split_is refl));
  too_many_digits = refused_ground 2 0 0 _ _ 3 (rw split_is (rw split_is refl));
  above_period = refused_ground 2 0 0 _ _ 3 (rw split_is (rw split_is refl));
  out_of_range = refused_ground 2 0 0 _ _ 4 (rw split_is (rw split_is refl));
}

pub once_lines : OnceLines
unfolding same_bytes digits_from all
once_lines = record {
  valid = said_none 4 2 0 _ (rw split_is (rw split_is refl));
  at_zero = said_none 4 2 0 _ (rw split_is (rw split_is refl));
  misplaced = refused_ground 2 0 0 _ _ 0 (rw split_is refl);
  too_many = refused_ground 67 2 64 _ _ 0 (rw split_is refl);
  field_count = refused_ground 4 2 0 _ _ 0 (rw split_is (rw split_is refl));
  empty = refused_ground 4 2 0 _ _ 4 (rw split_is (rw split_is refl));
  dash_there = refused_ground 4 2 0 _ _ 5 (rw split_is (rw split_is refl));
  no_digit = refused_ground 4 2 0 _ _ 2 (rw split_is (rw split_is refl));
  leading_zero = refused_ground 4 2 0 _ _ 3 (rw split_is (rw split_is refl));
  leading_zeros = refused_ground 4 2 0 _ _ 3 (rw split_is (rw split_is refl));
  too_many_digits = refused_ground 4 2 0 _ _ 5 (rw split_is (rw split_is refl));
  no_server = refused_ground 4 2 0 _ _ 2 (rw split_is (rw split_is refl));
  out_of_range = refused_ground 4 2 0 _ _ 4 (rw split_is (rw split_is refl));
}

pub every_lines : EveryLines
unfolding same_bytes digits_from all
every_lines = record {
  valid = said_none 4 2 0 _ (rw split_is (rw split_is refl));
  dashed = said_none 4 2 0 _ (rw split_is (rw split_is refl));
  misplaced = refused_ground 2 0 0 _ _ 0 (rw split_is refl);
  unknown = refused_ground 4 2 0 _ _ 0 (rw split_is refl);
  too_many = refused_ground 67 2 64 _ _ 0 (rw split_is refl);
  field_count = refused_ground 4 2 0 _ _ 0 (rw split_is (rw split_is refl));
  empty = refused_ground 4 2 0 _ _ 6 (rw split_is (rw split_is refl));
  dash_there = refused_ground 4 2 0 _ _ 5 (rw split_is (rw split_is refl));
  no_digit = refused_ground 4 2 0 _ _ 4 (rw split_is (rw split_is refl));
  leading_zero = refused_ground 4 2 0 _ _ 4 (rw split_is (rw split_is refl));
  too_many_digits = refused_ground 4 2 0 _ _ 6 (rw split_is (rw split_is refl));
  period_out = refused_ground 4 2 0 _ _ 5 (rw split_is (rw split_is refl));
  out_of_range = refused_ground 4 2 0 _ _ 6 (rw split_is (rw split_is refl));
}

-- a text of one line is refused for it
abbrev span_line_with : List ℕ → List ℕ
span_line_with f = 115 ∷ 112 ∷ 97 ∷ 110 ∷ 9 ∷ f

span_field : (f : List ℕ) (x : Ground) → length (span_with f) ≤ 4096 → ends_with_feed (span_with f) ≡ true → lines_of (span_with f) ≡ span_line_with f ∷ []
    → line_of 1 0 0 (span_line_with f) ≡ wrong x 2 → RefusedBy (span_with f) (number_of x) 1 2
span_field f x s e l r =
    let first : FirstGround (span_line_with f ∷ []) no_table 1 x 1 2 =
    record { above = no_table; line = span_line_with f; reached = here; ground = refused_ground 1 0 0 (span_line_with f) x 2 r }
    in
    let whole : Whole (span_with f) = record { short = s; ended = e } in
    text_refused (span_with f) (in_line whole (subst (λ ls. FirstGround ls no_table 1 x 1 2) (sym l) first))

pub span_fields : SpanFields
unfolding same_bytes digits_from all all_but_last
span_fields = record {
  none = span_field [] ground.Empty (omega arith) refl (rw split_is refl) (rw split_is (rw split_is refl));
  minus_five = span_field (45 ∷ 53 ∷ []) ground.NoDigit (omega arith) refl (rw split_is refl) (rw split_is (rw split_is refl));
  dashes = span_field (45 ∷ 45 ∷ []) ground.NoDigit (omega arith) refl (rw split_is refl) (rw split_is (rw split_is refl));
  zero_letter = span_field (48 ∷ 120 ∷ []) ground.NoDigit (omega arith) refl (rw split_is refl) (rw split_is (rw split_is refl));
  zeros_letter = span_field (48 ∷ 48 ∷ 48 ∷ 48 ∷ 48 ∷ 120 ∷ []) ground.NoDigit (omega arith) refl (rw split_is refl) (rw split_is (rw split_is refl));
  zero_sixteen = span_field (48 ∷ 49 ∷ 54 ∷ []) ground.LeadingZero (omega arith) refl (rw split_is refl) (rw split_is (rw split_is refl));
  zero_six_digits = span_field (48 ∷ 49 ∷ 50 ∷ 51 ∷ 52 ∷ 53 ∷ []) ground.LeadingZero (omega arith) refl (rw split_is refl) (rw split_is (rw split_is refl));
  zeros = span_field (48 ∷ 48 ∷ []) ground.LeadingZero (omega arith) refl (rw split_is refl) (rw split_is (rw split_is refl));
  six_digits = span_field (49 ∷ 50 ∷ 51 ∷ 52 ∷ 53 ∷ 54 ∷ []) ground.TooManyDigits (omega arith) refl (rw split_is refl) (rw split_is (rw split_is refl));
  zero_alone = span_field (48 ∷ []) ground.OutOfRange (omega arith) refl (rw split_is refl) (rw split_is (rw split_is refl));
  out_of_range = span_field (49 ∷ 54 ∷ 48 ∷ 48 ∷ 49 ∷ []) ground.OutOfRange (omega arith) refl (rw split_is refl) (rw split_is (rw split_is refl));
}
