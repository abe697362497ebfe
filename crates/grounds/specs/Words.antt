-- Document 01, 'The table text', and document 02, E2: in words, what makes a field bad, "in one field tested as 5, 14, 15, 16, 17, and for the kind 5,
-- 18". `BadAs` says what `is_bad` of Grounds.antt says.
use Rattle.std.specs.Prelude.{ℕ, ◌<◌, ◌≡◌, List, [], true, false, length}
use Rattle.table.specs.Rules.{all}
use Rattle.fields.specs.Fields.{deferrable_word, periodic_word, dash, is_digit, starts_with_zero}
use Rattle.refusals.specs.declared.Ground.{Ground}
use Rattle.refusals.specs.declared.Ground.TheVariants.{Empty, Dash, NoDigit, LeadingZero, TooManyDigits, UnknownKind}
use Rattle.grounds.specs.Grounds.{May, a_number, a_number_or_dash, a_kind}

-- "A number is one to five digits, no leading zero save `0` itself"
pub data BadNumber (f : List ℕ) : Ground → Type 0 where
  -- 5, 14: "an empty field only"; "`-` where it isn't allowed"
  no_byte : f ≡ [] → BadNumber f Empty
  dash_alone : f ≡ dash → BadNumber f Dash
  -- 15: "a byte that is no digit"
  other_byte : (f ≡ dash → ⊥) → all is_digit f ≡ false → BadNumber f NoDigit
  -- 16: "a leading zero"
  zero_first : all is_digit f ≡ true → starts_with_zero f ≡ true → BadNumber f LeadingZero
  -- 17: "more than five digits"
  six_digits : all is_digit f ≡ true → starts_with_zero f ≡ false → 5 < length f → BadNumber f TooManyDigits

-- "`deferrable` or `periodic`": 5, 18
pub data BadKind (f : List ℕ) : Ground → Type 0 where
  no_kind : f ≡ [] → BadKind f Empty
  other_kind : (f ≡ [] → ⊥) → (f ≡ deferrable_word → ⊥) → (f ≡ periodic_word → ⊥) → BadKind f UnknownKind

-- "Nowhere else is `-` allowed"
abbrev pub BadAs : May → List ℕ → Ground → Type 0
BadAs a_number f x = BadNumber f x
BadAs a_number_or_dash f x = (f ≡ dash → ⊥) × BadNumber f x
BadAs a_kind f x = BadKind f x
