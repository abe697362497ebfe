-- Document 01, 'The table text': lines, fields, words and numbers.
use Rattle.std.specs.Prelude.{ℕ, ◌+◌, ◌-◌, ◌*◌, List, [], ◌∷◌, Bool, true, false, ◌&&◌, length, get_or, ltb, leb, eqb, Option, Some, None, Result, Ok, Err}
use Rattle.basics.specs.Choice.{pick}
use Rattle.table.specs.Rules.{all, between}
use Rattle.refusals.specs.declared.Ground.{Ground}
use Rattle.refusals.specs.declared.Ground.TheVariants.{Empty, Dash, NoDigit, LeadingZero, TooManyDigits}
use Rattle.fields.specs.declared.Word.{Word}
use Rattle.fields.specs.declared.Word.TheVariants as word

-- ---- lines and fields

-- a byte in front of the first piece
abbrev pub in_first : ℕ → List (List ℕ) → List (List ℕ)
in_first b [] = (b ∷ []) ∷ []
in_first b (f ∷ fs) = (b ∷ f) ∷ fs

-- the pieces between the separators
unfoldable pub split : ℕ → List ℕ → List (List ℕ)
split sep [] = [] ∷ []
split sep (b ∷ r) = pick (eqb b sep) ([] ∷ split sep r) (in_first b (split sep r))

unfoldable pub all_but_last : List (List ℕ) → List (List ℕ)
all_but_last [] = []
all_but_last (f ∷ []) = []
all_but_last (f ∷ (g ∷ fs)) = f ∷ all_but_last (g ∷ fs)

-- "each line ended by a line feed, also the last": 10
abbrev pub lines_of : List ℕ → List (List ℕ)
lines_of text = all_but_last (split 10 text)

-- "fields parted by one tab": 9
abbrev pub fields_of : List ℕ → List (List ℕ)
fields_of line = split 9 line

-- the field at a place, the line's first word being 1
abbrev pub field_at : List ℕ → ℕ → List ℕ
field_at line place = get_or (fields_of line) (place - 1) []

-- ---- words: "compared byte for byte with the fixed words above, capitals included"

unfoldable pub same_bytes : List ℕ → List ℕ → Bool
same_bytes [] [] = true
same_bytes [] (b ∷ m) = false
same_bytes (a ∷ l) [] = false
same_bytes (a ∷ l) (b ∷ m) = eqb a b && same_bytes l m

-- span, server, once, every, deferrable, periodic, -
abbrev pub span_word : List ℕ
span_word = 115 ∷ 112 ∷ 97 ∷ 110 ∷ []

abbrev pub server_word : List ℕ
server_word = 115 ∷ 101 ∷ 114 ∷ 118 ∷ 101 ∷ 114 ∷ []

abbrev pub once_word : List ℕ
once_word = 111 ∷ 110 ∷ 99 ∷ 101 ∷ []

abbrev pub every_word : List ℕ
every_word = 101 ∷ 118 ∷ 101 ∷ 114 ∷ 121 ∷ []

abbrev pub deferrable_word : List ℕ
deferrable_word = 100 ∷ 101 ∷ 102 ∷ 101 ∷ 114 ∷ 114 ∷ 97 ∷ 98 ∷ 108 ∷ 101 ∷ []

abbrev pub periodic_word : List ℕ
periodic_word = 112 ∷ 101 ∷ 114 ∷ 105 ∷ 111 ∷ 100 ∷ 105 ∷ 99 ∷ []

abbrev pub dash : List ℕ
dash = 45 ∷ []

-- the word that a field is, if it is one of those that start a line
abbrev pub word_of : List ℕ → Option Word
word_of f =
    pick (same_bytes f span_word) (Some word.Span)
    (pick (same_bytes f server_word) (Some word.Server)
    (pick (same_bytes f once_word) (Some word.Once) (pick (same_bytes f every_word) (Some word.Every) None)))

-- ---- numbers: "one to five digits, no leading zero save `0` itself"

abbrev pub is_digit : ℕ → Bool
is_digit b = between 48 57 b

-- the number whose digits so far make n
unfoldable pub digits_from : ℕ → List ℕ → ℕ
digits_from n [] = n
digits_from n (b ∷ r) = digits_from (10 * n + (b - 48)) r

abbrev pub starts_with_zero : List ℕ → Bool
starts_with_zero f = eqb (get_or f 0 0) 48 && ltb 1 (length f)

abbrev pub field_number : List ℕ → Result ℕ Ground
field_number f =
    pick (eqb (length f) 0) (Err Empty)
    (pick (same_bytes f dash) (Err Dash)
    (pick (all is_digit f)
    (pick (starts_with_zero f) (Err LeadingZero) (pick (leb (length f) 5) (Ok (digits_from 0 f)) (Err TooManyDigits)))
    (Err NoDigit)))
