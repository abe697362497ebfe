-- Document 01, number 11: "result needs more room than lent, or ends above 1,000,000".
use Rattle.std.specs.Prelude.{ℕ, List, Bool, ◌&&◌, length, leb}
use Rattle.windows.specs.Windows.{end_of}

-- a result that needs no more than the room lent, and ends at 1,000,000 or before
abbrev pub fits_in : List ℕ → ℕ → Bool
fits_in result room = leb (length result) room && leb (end_of result) 1000000
