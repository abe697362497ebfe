-- Numbers and margins at zero and at both ends, to the byte.
use Rattle.std.specs.Prelude.{◌≡◌, [], ◌∷◌, pos, negsuc}
use Rattle.putting.specs.Decimal.{decimal, signed}

pub record Checked : Type 0 where
  -- 0, 10 and 16000
  pub numbers : (decimal 0 ≡ 48 ∷ []) × (decimal 10 ≡ 49 ∷ 48 ∷ []) × (decimal 16000 ≡ 49 ∷ 54 ∷ 48 ∷ 48 ∷ 48 ∷ [])
  -- 0, 15999 and -15999, each behind a tab
  pub margins : (signed (pos 0) ≡ 9 ∷ 48 ∷ []) × (signed (pos 15999) ≡ 9 ∷ 49 ∷ 53 ∷ 57 ∷ 57 ∷ 57 ∷ [])
      × (signed (negsuc 15998) ≡ 9 ∷ 45 ∷ 49 ∷ 53 ∷ 57 ∷ 57 ∷ 57 ∷ [])
