-- The digits at the front of a text, one at a time, and the number that they make. Assumes nothing.
use Rattle.std.proofs.Common.{◌≡◌, refl, ap, suc, ℕ, ◌+◌, ◌-◌, ◌*◌, ◌≤◌, true, false, List, [], ◌∷◌, length, get_or, take, drop, arith}
use lib.Seq.{take_all}
use Rattle.std.proofs.lemmas.Bool.Decides.{nat_tests}
use Rattle.std.specs.Char.{is_ascii_digit, digit_value}
use Rattle.std.specs.List.{prefix_len}
use Rattle.std.specs.Str.Parse.{digits_value_after}

-- what the digits at the front of a text make behind a number
abbrev pub made : ℕ → List ℕ → ℕ
made n l = digits_value_after 10 n (take (prefix_len is_ascii_digit l) l)

-- what stands behind them
abbrev pub behind : List ℕ → List ℕ
behind l = drop (prefix_len is_ascii_digit l) l

-- a digit at the front
pub behind_digit : (l : List ℕ) → 1 ≤ length l → is_ascii_digit (get_or l 0 0) ≡ true → behind (take (length l - 1) (drop 1 l)) ≡ behind l
behind_digit [] h d = absurd (omega arith)
behind_digit (b ∷ l) h d = let one : suc (prefix_len is_ascii_digit l) ≡ 1 + prefix_len is_ascii_digit l = omega arith in
    rw (take_all (length (b ∷ l) - 1) l (omega arith), d) (ap (λ (k : ℕ). drop k (b ∷ l)) one)

pub made_digit : (n : ℕ) (l : List ℕ) → 1 ≤ length l → is_ascii_digit (get_or l 0 0) ≡ true → made (10 * n + (get_or l 0 0 - 48)) (take (length l - 1) (drop 1 l)) ≡ made n l
made_digit n [] h d = absurd (omega arith)
made_digit n (b ∷ l) h d =
    let worth : digit_value b ≡ b - 48 = grind (arith, nat_tests) in
    let next : 10 * n + (b - 48) ≡ n * 10 + digit_value b = omega (arith, worth) in
    let one : suc (prefix_len is_ascii_digit l) ≡ 1 + prefix_len is_ascii_digit l = omega arith in
    rw (take_all (length (b ∷ l) - 1) l (omega arith), d, next) (ap (λ (k : ℕ). digits_value_after 10 n (take k (b ∷ l))) one)

-- none
pub behind_none : (l : List ℕ) → (1 ≤ length l → is_ascii_digit (get_or l 0 0) ≡ false) → behind l ≡ l
behind_none [] d = refl
behind_none (b ∷ l) d = rw (d (omega arith)) refl

pub made_none : (n : ℕ) (l : List ℕ) → (1 ≤ length l → is_ascii_digit (get_or l 0 0) ≡ false) → made n l ≡ n
made_none n [] d = refl
made_none n (b ∷ l) d = rw (d (omega arith)) refl

pub ruleset digits = (behind_digit, made_digit, behind_none, made_none)
