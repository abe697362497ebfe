-- Document 01, 'Checked examples', 1 to 10: the ones that are proved together, as one statement.
use Rattle.std.specs.Prelude.{◌≡◌, [], ◌∷◌, Some, None}
use Rattle.windows.specs.Windows.{add_up, cut_at, fit, provide}

pub record Checked : Type 0 where
  pub one : add_up (0 ∷ 2 ∷ 8 ∷ 9 ∷ []) (0 ∷ 1 ∷ 5 ∷ 6 ∷ 8 ∷ 10 ∷ []) ≡ 0 ∷ 3 ∷ 5 ∷ 6 ∷ 8 ∷ 11 ∷ []
  pub two : add_up (0 ∷ 2 ∷ []) (0 ∷ 2 ∷ []) ≡ 0 ∷ 4 ∷ []
  pub three : add_up (0 ∷ 2 ∷ []) (2 ∷ 4 ∷ []) ≡ 0 ∷ 4 ∷ []
  pub four : add_up [] [] ≡ []
  pub five : cut_at 5 (3 ∷ 12 ∷ []) ≡ 3 ∷ 5 ∷ 5 ∷ 10 ∷ 10 ∷ 12 ∷ []
  pub six : fit (2 ∷ 4 ∷ 14 ∷ 17 ∷ 22 ∷ 24 ∷ []) (0 ∷ 5 ∷ 12 ∷ 15 ∷ 22 ∷ 24 ∷ 30 ∷ 35 ∷ [])
      ≡ record { left = 0 ∷ 2 ∷ 4 ∷ 5 ∷ 12 ∷ 14 ∷ 32 ∷ 35 ∷ []; served = 2 ∷ 4 ∷ 14 ∷ 15 ∷ 22 ∷ 24 ∷ 30 ∷ 32 ∷ []; rest = [] }
  pub seven : fit (0 ∷ 2 ∷ 3 ∷ 5 ∷ []) (10 ∷ 20 ∷ []) ≡ record { left = 14 ∷ 20 ∷ []; served = 10 ∷ 14 ∷ []; rest = [] }
  pub eight : fit (5 ∷ 6 ∷ []) (0 ∷ 5 ∷ []) ≡ record { left = 0 ∷ 5 ∷ []; served = []; rest = 5 ∷ 6 ∷ [] }
  pub nine : provide (1 ∷ 3 ∷ 5 ∷ 7 ∷ []) 2 ≡ Some 3
  pub ten : provide (1 ∷ 3 ∷ 5 ∷ 7 ∷ []) 5 ≡ None
