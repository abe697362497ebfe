-- Numbers in decimal digits, alone and as fields. A tab is byte 9, a line feed 10, a minus sign 45, the digit 0 is 48.
use Rattle.std.specs.Prelude.{ℕ, zero, suc, ◌+◌, ◌/◌, ◌%◌, List, [], ◌∷◌, ◌++◌, ltb, ℤ, pos, negsuc}
use Rattle.basics.specs.Choice.{pick}

-- a number in decimal digits, if it has at most so many
unfoldable pub digits : ℕ → ℕ → List ℕ
digits zero n = []
digits (suc k) n = pick (ltb n 10) ((48 + n) ∷ []) (digits k (n / 10) ++ ((48 + n % 10) ∷ []))

abbrev pub decimal : ℕ → List ℕ
decimal n = digits (suc n) n

-- a tab and a number
abbrev pub field : ℕ → List ℕ
field n = 9 ∷ decimal n

-- a tab and a margin, one below zero "with a leading minus sign"
abbrev pub signed : ℤ → List ℕ
signed (pos n) = 9 ∷ decimal n
signed (negsuc n) = 9 ∷ (45 ∷ decimal (suc n))

-- the end of a line
abbrev pub feed : List ℕ
feed = 10 ∷ []
