-- A plain curve by the window at its front. Assumes nothing.
use Prim.Native.Nat.{ℕ, ◌-◌, ◌≤◌, ◌<◌}
use mathlib.Core.Path.{◌≡◌, refl}
use mathlib.Core.List.{List, [], ◌∷◌}
use mathlib.Core.Bool.{true}
use native.Mathlib.Omega.{arith}
use lib.ListN.{length, get_or, take, drop, length-drop}
use lib.Seq.{take_all}
use Rattle.windows.specs.Windows.{is_plain}
use Rattle.windows.proofs.Ticks.{Apart, plain_apart}
use Rattle.windows.proofs.Turns.{plain_turn, drop_pair}

-- what lies behind the first window
abbrev pub behind : List ℕ → List ℕ
behind l = take (length l - 2) (drop 2 l)

pub behind_is : (l : List ℕ) → behind l ≡ drop 2 l
behind_is l = take_all (length l - 2) (drop 2 l) (omega (arith, length-drop 2 l))

pub record Faces (l : List ℕ) : Type 0 where
  pub is : l ≡ get_or l 0 0 ∷ (get_or l 1 0 ∷ behind l)
  pub rises : get_or l 0 0 < get_or l 1 0
  pub bounded : get_or l 1 0 ≤ 1000000
  pub later : is_plain (behind l) ≡ true
  pub apart : Apart 0 l

pub faces : (l : List ℕ) → is_plain l ≡ true → 2 ≤ length l → Faces l
faces l h k =
    let t = plain_turn l 0 h (omega arith) in
    let e = behind_is l in
    record {
      is = rw e (drop_pair l 0 t.pair);
      rises = t.front.rises;
      bounded = t.front.bounded;
      later = rw e t.later;
      apart = plain_apart 0 l h;
    }

-- a plain curve with no window is empty
pub no_window : (l : List ℕ) → is_plain l ≡ true → length l < 2 → l ≡ []
no_window [] h k = refl
no_window (a ∷ []) h k = absurd (plain_apart 0 (a ∷ []) h)
no_window (a ∷ (b ∷ l)) h k = absurd (omega arith)
