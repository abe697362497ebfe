-- What is ahead of a walk along a curve, by what stands at its front. Assumes nothing.
use Rattle.std.proofs.Common.{◌≡◌, refl, ℕ, ◌+◌, ◌-◌, ◌<◌, ◌≤◌, List, [], ◌∷◌, true, false, ◌==◌, length, get_or, take, drop, arith, length-drop}
use mathlib.Core.Bool.{and-false}
use borrow.Author.Tests.{lt-leb, le-leb, lt-ltb, le-ltb}
use lib.Seq.{take_all}
use Rattle.std.specs.Prelude.{Some, None}
use Rattle.windows.specs.Windows.{plain_from, is_plain, provide}
use Rattle.windows.specs.Walks.{walk}
use Rattle.windows.proofs.Ticks.{plain_apart}
use Rattle.windows.proofs.Providing.{walk_is}
use Rattle.windows.proofs.Turns.{plain_turn}

-- nothing, or a start with no end
pub front_short : (low : ℕ) (l : List ℕ) → length l < 2 → plain_from low l ≡ (length l == 0)
unfolding plain_from
front_short low [] h = refl
front_short low (s ∷ []) h = refl
front_short low (s ∷ (e ∷ l)) h = absurd (omega arith)

-- a window that starts too early
pub front_early : (low : ℕ) (l : List ℕ) → 2 ≤ length l → get_or l 0 0 < low → plain_from low l ≡ false
unfolding plain_from
front_early low [] h k = absurd (omega arith)
front_early low (s ∷ []) h k = absurd (omega arith)
front_early low (s ∷ (e ∷ l)) h k = rw (lt-leb low s k)

-- an empty window
pub front_empty : (low : ℕ) (l : List ℕ) → 2 ≤ length l → get_or l 1 0 ≤ get_or l 0 0 → plain_from low l ≡ false
unfolding plain_from
front_empty low [] h k = absurd (omega arith)
front_empty low (s ∷ []) h k = absurd (omega arith)
front_empty low (s ∷ (e ∷ l)) h k = rw (le-ltb s e k, and-false)

-- a window that ends too late
pub front_late : (low : ℕ) (l : List ℕ) → 2 ≤ length l → 1000000 < get_or l 1 0 → plain_from low l ≡ false
unfolding plain_from
front_late low [] h k = absurd (omega arith)
front_late low (s ∷ []) h k = absurd (omega arith)
front_late low (s ∷ (e ∷ l)) h k = rw (lt-leb e 1000000 k, and-false, and-false)

-- a window in its place
pub front_window : (low : ℕ) (l : List ℕ) → 2 ≤ length l → low ≤ get_or l 0 0 → get_or l 0 0 < get_or l 1 0 → get_or l 1 0 ≤ 1000000
    → plain_from (get_or l 1 0 + 1) (take (length l - 2) (drop 2 l)) ≡ plain_from low l
unfolding plain_from
front_window low [] h a b k = absurd (omega arith)
front_window low (s ∷ []) h a b k = absurd (omega arith)
front_window low (s ∷ (e ∷ l)) h a b k = rw (take_all (length (s ∷ (e ∷ l)) - 2) l (omega arith), le-leb low s a, lt-ltb s e b, le-leb e 1000000 k)

pub ruleset fronts = (front_short, front_early, front_empty, front_late, front_window)

-- ---- when the amount is provided: in the window at the front, or behind it

pub given_here : (l : List ℕ) (n : ℕ) → 2 ≤ length l → n ≤ get_or l 1 0 - get_or l 0 0 → walk l n ≡ Some (get_or l 0 0 + n)
unfolding walk
given_here [] n h k = absurd (omega arith)
given_here (s ∷ []) n h k = absurd (omega arith)
given_here (s ∷ (e ∷ l)) n h k = rw (le-leb n (e - s) k)

pub given_later : (l : List ℕ) (n : ℕ) → 2 ≤ length l → get_or l 1 0 - get_or l 0 0 < n
    → walk (take (length l - 2) (drop 2 l)) (n - (get_or l 1 0 - get_or l 0 0)) ≡ walk l n
unfolding walk
given_later [] n h k = absurd (omega arith)
given_later (s ∷ []) n h k = absurd (omega arith)
given_later (s ∷ (e ∷ l)) n h k = rw (take_all (length (s ∷ (e ∷ l)) - 2) l (omega arith), lt-leb n (e - s) k)

pub given_never : (l : List ℕ) (n : ℕ) → length l < 2 → walk l n ≡ None
unfolding walk
given_never [] n h = refl
given_never (s ∷ []) n h = refl
given_never (s ∷ (e ∷ l)) n h = absurd (omega arith)

-- ---- a plain curve has a window in its place at the front, and is plain behind it

pub plain_starts : (l : List ℕ) → is_plain l ≡ true → 2 ≤ length l → get_or l 0 0 < get_or l 1 0
plain_starts l h k = let t = plain_turn l 0 h (omega arith) in t.front.rises

pub plain_ends : (l : List ℕ) → is_plain l ≡ true → 2 ≤ length l → get_or l 1 0 ≤ 1000000
plain_ends l h k = let t = plain_turn l 0 h (omega arith) in t.front.bounded

pub plain_behind : (l : List ℕ) → is_plain l ≡ true → 2 ≤ length l → is_plain (take (length l - 2) (drop 2 l)) ≡ true
plain_behind l h k =
    let t = plain_turn l 0 h (omega arith) in
    let e : take (length l - 2) (drop 2 l) ≡ drop 2 l = take_all (length l - 2) (drop 2 l) (omega (arith, length-drop 2 l)) in
    rw e t.later

-- the whole gives an amount when it is provided
pub given_when : (l : List ℕ) (n : ℕ) → is_plain l ≡ true → 0 < n → walk l n ≡ provide l n
given_when l n h k = walk_is l n (plain_apart 0 l h) k

pub ruleset given = (given_when, given_here, given_later, given_never, plain_starts, plain_ends, plain_behind)
