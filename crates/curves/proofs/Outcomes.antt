-- Each contract fixes the one outcome: any two that it permits are equal, answers and buffers. Assumes nothing.
use Prim.Native.Nat.{ℕ}
use mathlib.Core.Path.{◌≡◌, sym, ◌∙◌}
use mathlib.Core.List.{List}
use mathlib.Core.Bool.{Bool}
use Rattle.std.specs.Prelude.{Option, Result}
use Rattle.windows.specs.Windows.{is_plain, add_up, cut_at}
use Rattle.refusals.proofs.Outcomes.{leaves_once}
use Rattle.refusals.specs.declared.Refusal.{Refusal}
use Rattle.fitting.specs.declared.Counts.{Counts}
use Rattle.curves.specs.Refusals.{add_outcome, cut_outcome}
use Rattle.curves.specs.Calls.{Adds, Cuts, Fits, Provides}

-- ---- the four calls

pub add_once : (a b out : List ℕ) (r q : Result ℕ Refusal) (x y : List ℕ) → Adds a b out r x → Adds a b out q y → (r ≡ q) × (x ≡ y)
add_once a b out r q x y = leaves_once (add_outcome a b out) (add_up a b) out

pub cut_once : (curve : List ℕ) (T : ℕ) (out : List ℕ) (r q : Result ℕ Refusal) (x y : List ℕ) → Cuts curve T out r x → Cuts curve T out q y → (r ≡ q) × (x ≡ y)
cut_once curve T out r q x y = leaves_once (cut_outcome curve T out) (cut_at T curve) out

pub fit_once : (demand supply left served rest : List ℕ) (r q : Result Counts Refusal) (x₁ x₂ x₃ y₁ y₂ y₃ : List ℕ)
    → Fits demand supply left served rest r x₁ x₂ x₃ → Fits demand supply left served rest q y₁ y₂ y₃
    → (r ≡ q) × (x₁ ≡ y₁) × (x₂ ≡ y₂) × (x₃ ≡ y₃)
fit_once demand supply left served rest r q x₁ x₂ x₃ y₁ y₂ y₃ p o = (p.0 ∙ sym o.0, p.1 ∙ sym o.1, p.2 ∙ sym o.2, p.3 ∙ sym o.3)

pub provide_once : (curve : List ℕ) (n : ℕ) (r q : Result (Option ℕ) Refusal) → Provides curve n r → Provides curve n q → r ≡ q
provide_once curve n r q p o = p ∙ sym o

pub plain_once : (curve : List ℕ) (r q : Bool) → r ≡ is_plain curve → q ≡ is_plain curve → r ≡ q
plain_once curve r q p o = p ∙ sym o
