-- Document 02, E1: what becomes of the text of table A, of table B, which has no `-`, and of the empty text.
use Rattle.std.specs.Prelude.{ℕ, ◌≡◌, List, [], ◌∷◌}
use Rattle.reading.specs.Examples.{text_a, text_b}
use Rattle.writing.specs.Examples.{written_a}
use Rattle.rewriting.specs.Rewriting.{rewritten_of}

-- refused 2 0 0
abbrev pub refused_empty : List ℕ
refused_empty = 114 ∷ 101 ∷ 102 ∷ 117 ∷ 115 ∷ 101 ∷ 100 ∷ 9 ∷ 50 ∷ 9 ∷ 48 ∷ 9 ∷ 48 ∷ 10 ∷ []

pub record Checked : Type 0 where
  pub a : rewritten_of text_a ≡ written_a
  pub b : rewritten_of text_b ≡ text_b
  pub empty : rewritten_of [] ≡ refused_empty
