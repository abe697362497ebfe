-- Whether a curve covers a tick, by its windows. Assumes nothing.
use Prim.Native.Nat.{ℕ, zero, suc, ◌+◌, ◌≤◌, ◌<◌}
use mathlib.Core.Path.{◌≡◌, refl, sym, ap, ◌∙◌}
use mathlib.Core.List.{List, [], ◌∷◌}
use mathlib.Core.Bool.{Bool, true, false, ◌&&◌, ◌||◌}
use native.Mathlib.Omega.{arith}
use lib.ListN.{length, get_or}
use lib.Dec.{leb, ltb}
use borrow.Author.Tests.{lt-ltb}
use Rattle.std.specs.List.{list_any}
use Rattle.std.specs.Simd.{first_chunks}
use Rattle.basics.specs.Choice.{pick}
use Rattle.windows.specs.Windows.{inside, cover}

-- whether a window covers a tick
abbrev pub holds : ℕ → List ℕ → Bool
holds t w = leb (get_or w 0 0) t && ltb t (get_or w 1 0)

-- a tick is covered by a first window or by those behind it
one_more : (b : Bool) (x : ℕ) → (b || ltb 0 x) ≡ ltb 0 (pick b 1 0 + x)
one_more true x = sym (lt-ltb 0 (1 + x) (omega arith))
one_more false x = ap (ltb 0) (omega arith)

-- a curve covers a tick where one of its windows does
pub covered_any : (t k : ℕ) (l : List ℕ) → k + k ≤ length l → length l < k + k + 2 → list_any (holds t) (first_chunks 2 k l) ≡ ltb 0 (cover l t)
unfolding cover inside
covered_any t zero [] h g = refl
covered_any t zero (s ∷ []) h g = refl
covered_any t zero (s ∷ (e ∷ r)) h g = absurd (omega arith)
covered_any t (suc k) [] h g = absurd (omega arith)
covered_any t (suc k) (s ∷ []) h g = absurd (omega arith)
covered_any t (suc k) (s ∷ (e ∷ r)) h g =
    ap (λ b. holds t (s ∷ (e ∷ [])) || b) (covered_any t k r (omega arith) (omega arith)) ∙ one_more (leb s t && ltb t e) (cover r t)
