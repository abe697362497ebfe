-- The window at a place of a slice. Assumes nothing.
use Prim.Native.Nat.{ℕ, suc, ◌+◌, ◌-◌, ◌≤◌, ◌<◌}
use mathlib.Core.Path.{◌≡◌, ap, ◌∙◌}
use mathlib.Core.List.{List, [], ◌∷◌}
use mathlib.Core.Bool.{true}
use native.Mathlib.Numerals.{add-one, add-two}
use native.Mathlib.Omega.{arith}
use native.Mathlib.Decide.{dec_le}
use lib.ListN.{length, get_or, drop, drop_of_length-le}
use lib.Seq.{drop-cons}
use Rattle.windows.specs.Windows.{is_plain}
use Rattle.windows.proofs.Ticks.{Front, plain_front, plain_lower, not_odd}

pub drop_pair : (l : List ℕ) (i : ℕ) → 2 ≤ length l - i → drop i l ≡ get_or l i 0 ∷ (get_or l (i + 1) 0 ∷ drop (i + 2) l)
drop_pair l i h =
    let p : suc i < length l = omega arith in
    let q : i < length l = omega arith in
    simp (add-one, add-two) (drop-cons l i 0 q ∙ ap (λ (r : List ℕ). get_or l i 0 ∷ r) (drop-cons l (suc i) 0 p))

-- a start with no end
pub drop_odd : (l : List ℕ) (i : ℕ) → i < length l → length l - i < 2 → drop i l ≡ get_or l i 0 ∷ []
drop_odd l i h k =
    let p : length l ≤ suc i = omega arith in
    drop-cons l i 0 h ∙ ap (λ (r : List ℕ). get_or l i 0 ∷ r) (drop_of_length-le l p)

-- what is left of a plain curve, if it is not empty, has a window at its front, and behind that it is plain
pub record Turn (l : List ℕ) (i : ℕ) : Type 0 where
  pub pair : 2 ≤ length l - i
  pub front : Front 0 (get_or l i 0) (get_or l (i + 1) 0) (drop (i + 2) l)
  pub later : is_plain (drop (i + 2) l) ≡ true

pub plain_turn : (l : List ℕ) (i : ℕ) → is_plain (drop i l) ≡ true → i < length l → Turn l i
plain_turn l i h k = go (dec_le 2 (length l - i))
  where
    go : Dec (2 ≤ length l - i) → Turn l i
    go (yes p) =
        let f = plain_front 0 _ _ _ (rw (drop_pair l i p) at h) in
        record { pair = p; front = f; later = plain_lower (get_or l (i + 1) 0 + 1) 0 (drop (i + 2) l) (omega arith) f.rest }
    go (no p) = absurd (not_odd 0 (get_or l i 0) (rw (drop_odd l i k (omega arith)) at h))
