-- Document 01: the printed report of table A, and those of tables B and C (examples 11 and 12), and of a text that is refused for a
-- field (document 02, E2), from the text to the byte.
use Rattle.std.specs.Prelude.{ℕ, ◌≡◌, List, [], ◌∷◌}
use Rattle.reading.specs.Examples.{text_a, text_b, text_c, text_zero}
use Rattle.reporting.specs.Reporting.{report_for}

-- span 40
-- server 1 4 -
-- server 2 10 -
-- task 1 worst 1 0 3
-- task 2 worst 3 35 2
-- task 3 worst 7 0 1
abbrev pub printed_a : List ℕ
printed_a =
    115 ∷ 112 ∷ 97 ∷ 110 ∷ 9 ∷ 52 ∷ 48 ∷ 10
    ∷ 115 ∷ 101 ∷ 114 ∷ 118 ∷ 101 ∷ 114 ∷ 9 ∷ 49 ∷ 9 ∷ 52 ∷ 9 ∷ 45 ∷ 10
    ∷ 115 ∷ 101 ∷ 114 ∷ 118 ∷ 101 ∷ 114 ∷ 9 ∷ 50 ∷ 9 ∷ 49 ∷ 48 ∷ 9 ∷ 45 ∷ 10
    ∷ 116 ∷ 97 ∷ 115 ∷ 107 ∷ 9 ∷ 49 ∷ 9 ∷ 119 ∷ 111 ∷ 114 ∷ 115 ∷ 116 ∷ 9 ∷ 49 ∷ 9 ∷ 48 ∷ 9 ∷ 51 ∷ 10
    ∷ 116 ∷ 97 ∷ 115 ∷ 107 ∷ 9 ∷ 50 ∷ 9 ∷ 119 ∷ 111 ∷ 114 ∷ 115 ∷ 116 ∷ 9 ∷ 51 ∷ 9 ∷ 51 ∷ 53 ∷ 9 ∷ 50 ∷ 10
    ∷ 116 ∷ 97 ∷ 115 ∷ 107 ∷ 9 ∷ 51 ∷ 9 ∷ 119 ∷ 111 ∷ 114 ∷ 115 ∷ 116 ∷ 9 ∷ 55 ∷ 9 ∷ 48 ∷ 9 ∷ 49 ∷ 10 ∷ []

-- span 8
-- server 1 1 -
-- server 2 2 1
-- task 1 worst 4 3 1
-- task 2 worst 4 4 0
abbrev pub printed_b : List ℕ
printed_b =
    115 ∷ 112 ∷ 97 ∷ 110 ∷ 9 ∷ 56 ∷ 10
    ∷ 115 ∷ 101 ∷ 114 ∷ 118 ∷ 101 ∷ 114 ∷ 9 ∷ 49 ∷ 9 ∷ 49 ∷ 9 ∷ 45 ∷ 10
    ∷ 115 ∷ 101 ∷ 114 ∷ 118 ∷ 101 ∷ 114 ∷ 9 ∷ 50 ∷ 9 ∷ 50 ∷ 9 ∷ 49 ∷ 10
    ∷ 116 ∷ 97 ∷ 115 ∷ 107 ∷ 9 ∷ 49 ∷ 9 ∷ 119 ∷ 111 ∷ 114 ∷ 115 ∷ 116 ∷ 9 ∷ 52 ∷ 9 ∷ 51 ∷ 9 ∷ 49 ∷ 10
    ∷ 116 ∷ 97 ∷ 115 ∷ 107 ∷ 9 ∷ 50 ∷ 9 ∷ 119 ∷ 111 ∷ 114 ∷ 115 ∷ 116 ∷ 9 ∷ 52 ∷ 9 ∷ 52 ∷ 9 ∷ 48 ∷ 10 ∷ []

-- span 8
-- server 1 1 -
-- server 2 2 -
-- task 1 worst 4 3 1
-- task 2 worst 3 0 -1
abbrev pub printed_c : List ℕ
printed_c =
    115 ∷ 112 ∷ 97 ∷ 110 ∷ 9 ∷ 56 ∷ 10
    ∷ 115 ∷ 101 ∷ 114 ∷ 118 ∷ 101 ∷ 114 ∷ 9 ∷ 49 ∷ 9 ∷ 49 ∷ 9 ∷ 45 ∷ 10
    ∷ 115 ∷ 101 ∷ 114 ∷ 118 ∷ 101 ∷ 114 ∷ 9 ∷ 50 ∷ 9 ∷ 50 ∷ 9 ∷ 45 ∷ 10
    ∷ 116 ∷ 97 ∷ 115 ∷ 107 ∷ 9 ∷ 49 ∷ 9 ∷ 119 ∷ 111 ∷ 114 ∷ 115 ∷ 116 ∷ 9 ∷ 52 ∷ 9 ∷ 51 ∷ 9 ∷ 49 ∷ 10
    ∷ 116 ∷ 97 ∷ 115 ∷ 107 ∷ 9 ∷ 50 ∷ 9 ∷ 119 ∷ 111 ∷ 114 ∷ 115 ∷ 116 ∷ 9 ∷ 51 ∷ 9 ∷ 48 ∷ 9 ∷ 45 ∷ 49 ∷ 10 ∷ []

-- refused 16 2 4
abbrev pub printed_zero : List ℕ
printed_zero = 114 ∷ 101 ∷ 102 ∷ 117 ∷ 115 ∷ 101 ∷ 100 ∷ 9 ∷ 49 ∷ 54 ∷ 9 ∷ 50 ∷ 9 ∷ 52 ∷ 10 ∷ []

pub record Checked : Type 0 where
  pub table_a : report_for text_a ≡ printed_a
  pub table_b : report_for text_b ≡ printed_b
  pub table_c : report_for text_c ≡ printed_c
  pub zero : report_for text_zero ≡ printed_zero
