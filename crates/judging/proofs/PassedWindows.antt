-- A walk that has passed so many windows of a plain curve: what they give, and where an amount above that is reached. Assumes nothing.
use Prim.Native.Nat.{ℕ, zero, suc, ◌+◌, ◌-◌, ◌*◌, ◌≤◌, ◌<◌}
use mathlib.Core.Path.{◌≡◌, refl, sym, ap, ◌∙◌}
use mathlib.Core.List.{List, [], ◌∷◌}
use mathlib.Core.Bool.{true}
use native.Mathlib.Omega.{arith}
use native.Mathlib.Numerals.{add-one}
use native.Mathlib.Decide.{dec_lt}
use lib.ListN.{length, get_or, take, drop, drop_of_length-le, length-drop}
use Rattle.std.proofs.lemmas.List.{take_all, get_or-drop}
use borrow.Author.Tests.{lt-ltb, le-ltb, le-leb, lt-leb}
use Rattle.std.specs.Prelude.{Some, None}
use Rattle.windows.specs.Windows.{size, is_plain, provide}
use Rattle.windows.specs.Walks.{walk}
use Rattle.windows.proofs.Ticks.{cover_after, plain_apart, plain_end}
use Rattle.windows.proofs.Providing.{walk_is}
use Rattle.windows.proofs.Turns.{drop_pair}
use Rattle.judging.specs.declared.passing.Passed.{Passed}
use Rattle.judging.specs.Passes.{Passes, reached_at}
use Rattle.windows.proofs.WindowsAt.{Even, WindowAt, window_at, window_below}

-- ---- one window more

-- a window is two numbers
pub even_twice : (w : ℕ) → Even (2 * w)
even_twice zero = tt
even_twice (suc w) = let e : 2 * suc w ≡ suc (suc (2 * w)) = omega arith in rw e (even_twice w)

-- the first window that is not passed
pub next_window : {l : List ℕ} → is_plain l ≡ true → (w : ℕ) → 2 * w < length l → WindowAt 0 l (2 * w)
next_window {l} plain w h = window_at l (2 * w) plain (even_twice w) h

-- it ends at 1,000,000 or before
pub window_bounded : (l : List ℕ) (i : ℕ) → is_plain l ≡ true → WindowAt 0 l i → get_or l (i + 1) 0 ≤ 1000000
window_bounded l i plain w = window_below l i 1000000 w (λ t h. cover_after l 0 t (plain_apart 0 l plain) (omega (arith, plain_end 0 l plain)))

-- it adds its length
size_more : (l : List ℕ) (i : ℕ) → Even i → suc i < length l → size (take (suc (suc i)) l) ≡ size (take i l) + (get_or l (suc i) 0 - get_or l i 0)
unfolding size
size_more [] i ev k = absurd (omega arith)
size_more (s ∷ []) i ev k = absurd (omega arith)
size_more (s ∷ (e ∷ r)) zero ev k = omega arith
size_more (s ∷ (e ∷ r)) (suc zero) ev k = absurd ev
size_more (s ∷ (e ∷ r)) (suc (suc i)) ev k = omega (arith, size_more r i ev (omega arith))

-- before the first window
pub passes_none : (l : List ℕ) {p : Passed} → (p.windows ≡ 0) × (p.given ≡ 0) → Passes l p
unfolding size
passes_none l e = record { count = omega arith; given = rw (e.0, e.1) refl }

-- behind the next window
pub passes_more : {l : List ℕ} {p : Passed} → is_plain l ≡ true → Passes l p → 2 * p.windows < length l
    → Passes l (record { windows = p.windows + 1; given = p.given + (get_or l (2 * p.windows + 1) 0 - get_or l (2 * p.windows) 0) })
passes_more {l} {p} plain passes h =
    let i = 2 * p.windows in
    let pair = (next_window plain p.windows h).pair in
    let twice : 2 * (p.windows + 1) ≡ suc (suc i) = omega arith in
    record {
      count = omega arith;
      given = rw (twice, add-one i, passes.given) (sym (size_more l i (even_twice p.windows) (omega arith)));
    }

-- the numbers from index i on
abbrev pub ahead : List ℕ → ℕ → List ℕ
ahead l i = take (length l - i) (drop i l)

ahead_is : (l : List ℕ) (i : ℕ) → ahead l i ≡ drop i l
ahead_is l i = take_all (length l - i) (drop i l) (omega (arith, length-drop i l))

module _ (l : List ℕ) (i : ℕ) where
  pub ahead_start : get_or (ahead l i) 0 0 ≡ get_or l i 0
  ahead_start = rw (ahead_is l i, get_or-drop i l 0 0) (ap (λ (n : ℕ). get_or l n 0) (omega arith))

  pub ahead_end : get_or (ahead l i) 1 0 ≡ get_or l (i + 1) 0
  ahead_end = rw (ahead_is l i) (get_or-drop i l 1 0)

  pub ahead_pair : 2 ≤ length (ahead l i) → i + 1 < length l
  ahead_pair h = omega (arith, h, ap length (ahead_is l i), length-drop i l)

-- where fewer than two are ahead, all windows are passed
pub passed_all : (l : List ℕ) (w : ℕ) → is_plain l ≡ true → length (ahead l (2 * w)) < 2 → length l ≤ 2 * w
passed_all l w plain h = go (dec_lt (2 * w) (length l))
  where
    go : Dec (2 * w < length l) → length l ≤ 2 * w
    go (yes k) = absurd (omega (arith, (next_window plain w k).pair, ap length (ahead_is l (2 * w)), length-drop (2 * w) l))
    go (no k) = omega arith

-- ---- up to an amount

-- if the windows before index i give less than n, the walk goes on behind them
walk_behind : (l : List ℕ) (i n : ℕ) → Even i → i ≤ length l → size (take i l) < n → walk l n ≡ walk (drop i l) (n - size (take i l))
unfolding walk size
walk_behind l zero n ev h k = ap (walk l) (omega arith)
walk_behind l (suc zero) n ev h k = absurd ev
walk_behind [] (suc (suc i)) n ev h k = absurd (omega arith)
walk_behind (s ∷ []) (suc (suc i)) n ev h k = absurd (omega arith)
walk_behind (s ∷ (e ∷ r)) (suc (suc i)) n ev h k =
    rw (lt-leb n (e - s) (omega arith)) (walk_behind r i (n - (e - s)) ev (omega arith) (omega arith) ∙ ap (walk (drop i r)) (omega arith))

-- it ends in a window that is long enough
walk_ends : (s e n : ℕ) (r : List ℕ) → n ≤ e - s → walk (s ∷ (e ∷ r)) n ≡ Some (s + n)
unfolding walk
walk_ends s e n r h = rw (le-leb n (e - s) h)

-- and nowhere, if there is none
walk_none : (n : ℕ) → walk [] n ≡ None
unfolding walk
walk_none n = refl

module _ (l : List ℕ) (p : Passed) (n : ℕ) where
  -- in the next window
  pub reached_there : 2 * p.windows < length l → reached_at l p n ≡ Some (get_or l (2 * p.windows) 0 + (n - p.given))
  reached_there h = rw (lt-ltb (2 * p.windows) (length l) h)

  -- nowhere, if there is none
  pub reached_nowhere : length l ≤ 2 * p.windows → reached_at l p n ≡ None
  reached_nowhere h = rw (le-ltb (2 * p.windows) (length l) h)

  module _ (plain : is_plain l ≡ true) (passes : Passes l p) (above : p.given < n) where
    -- an amount above what is given is reached behind the windows that are passed
    provide_behind : provide l n ≡ walk (drop (2 * p.windows) l) (n - p.given)
    provide_behind =
        sym (walk_is l n (plain_apart 0 l plain) (omega arith))
        ∙ walk_behind l (2 * p.windows) n (even_twice p.windows) passes.count (omega (arith, passes.given))
        ∙ ap (λ (x : ℕ). walk (drop (2 * p.windows) l) (n - x)) (sym passes.given)

    -- in the next one, if that is long enough
    pub provide_there : 2 * p.windows < length l → n ≤ p.given + (get_or l (2 * p.windows + 1) 0 - get_or l (2 * p.windows) 0)
        → provide l n ≡ reached_at l p n
    provide_there h k =
        let pair = (next_window plain p.windows h).pair in
        provide_behind
        ∙ ap (λ (r : List ℕ). walk r (n - p.given)) (drop_pair l (2 * p.windows) (omega arith))
        ∙ walk_ends (get_or l (2 * p.windows) 0) (get_or l (2 * p.windows + 1) 0) (n - p.given) (drop (2 * p.windows + 2) l) (omega arith)
        ∙ sym (reached_there h)

    -- nowhere, if there is none
    pub provide_nowhere : length l ≤ 2 * p.windows → provide l n ≡ reached_at l p n
    provide_nowhere h =
        provide_behind ∙ ap (λ (r : List ℕ). walk r (n - p.given)) (drop_of_length-le l h) ∙ walk_none (n - p.given) ∙ sym (reached_nowhere h)

    -- so where the next one is long enough, if there is one
    pub provide_next : (2 * p.windows < length l → n ≤ p.given + (get_or l (2 * p.windows + 1) 0 - get_or l (2 * p.windows) 0))
        → provide l n ≡ reached_at l p n
    provide_next long = go (dec_lt (2 * p.windows) (length l))
      where
        go : Dec (2 * p.windows < length l) → provide l n ≡ reached_at l p n
        go (yes h) = provide_there h (long h)
        go (no h) = provide_nowhere (omega arith)
