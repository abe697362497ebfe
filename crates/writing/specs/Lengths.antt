-- How long each line of a table's text is, and all of them.
use Rattle.std.specs.Prelude.{ℕ, ◌+◌, List, [], ◌∷◌, length}

-- of a line with its line feed: each field, and one byte behind it, the tab or the line feed
unfoldable pub line_length : List (List ℕ) → ℕ
line_length [] = 0
line_length (f ∷ fs) = length f + 1 + line_length fs

-- of the lines of some entries, by the fields of each
unfoldable pub lines_length : {A : Type 0} → (A → List (List ℕ)) → List A → ℕ
lines_length fields [] = 0
lines_length fields (a ∷ l) = line_length (fields a) + lines_length fields l
