-- A buffer whose front is the curve of some ticks, so far as they are decided. Assumes nothing.
use Prim.Native.Nat.{ℕ, ◌+◌, ◌≤◌, ◌<◌}
use mathlib.Core.Path.{◌≡◌, refl, ◌∙◌}
use mathlib.Core.List.{List}
use mathlib.Core.Bool.{true}
use native.Mathlib.Omega.{arith}
use native.Mathlib.Decide.{dec_lt}
use lib.ListN.{length, take}
use Rattle.windows.specs.Windows.{inside, cover, is_plain, plain_from}
use Rattle.windows.proofs.Ticks.{inside_yes, inside_early, inside_late}
use Rattle.buffers.specs.Parts.{Curve, Drawn, with_window}

-- the ticks of g below `at`, and nothing from there on
pub record DrawnBelow (old new : List ℕ) (n : ℕ) (g : ℕ → ℕ) (at : ℕ) : Type 0 where
  pub same : length new ≡ length old
  pub count : n ≤ length new
  pub plain : is_plain (take n new) ≡ true
  pub covers : (t : ℕ) → t < at → cover (take n new) t ≡ g t
  pub over : (t : ℕ) → at ≤ t → cover (take n new) t ≡ 0

pub drawn_none : (old : List ℕ) (g : ℕ → ℕ) → DrawnBelow old old 0 g 0
unfolding cover plain_from
drawn_none old g = record { same = refl; count = omega arith; plain = refl; covers = λ t h. absurd (omega arith); over = λ t h. refl }

-- a window can be put behind it
pub drawn_curve : {old new : List ℕ} {n at s : ℕ} {g : ℕ → ℕ} → DrawnBelow old new n g at → 16000 ≤ length old → at ≤ s → Curve new n s
drawn_curve d r h = record {
  room = omega (arith, d.same);
  count = d.count;
  curve = record { plain = d.plain; over = λ t k. d.over t (omega arith) };
}

-- ticks that have nothing are decided
pub drawn_on : {old new : List ℕ} {n at to : ℕ} {g : ℕ → ℕ} → DrawnBelow old new n g at → at ≤ to → ((t : ℕ) → at ≤ t → t < to → g t ≡ 0)
    → DrawnBelow old new n g to
drawn_on {old} {new} {n} {at} {to} {g} d h q = record { same = d.same; count = d.count; plain = d.plain; covers = λ t k. go t k (dec_lt t at); over = λ t k. d.over t (omega arith) }
  where
    go : (t : ℕ) → t < to → Dec (t < at) → cover (take n new) t ≡ g t
    go t k (yes l) = d.covers t l
    go t k (no l) = omega (arith, d.over t (omega arith), q t (omega arith) k)

-- a window of ticks is decided, and put behind
pub drawn_window : {old new out : List ℕ} {n m at s e : ℕ} {g : ℕ → ℕ} → DrawnBelow old new n g at → at ≤ s → s < e
    → ((t : ℕ) → at ≤ t → t < s → g t ≡ 0) → ((t : ℕ) → s ≤ t → t < e → g t ≡ 1) → Drawn new out m (with_window (take n new) s e) → DrawnBelow old out m g e
drawn_window {old} {new} {out} {n} {m} {at} {s} {e} {g} d h k none one w = record {
  same = w.same ∙ d.same;
  count = w.count;
  plain = w.plain;
  covers = λ t l. w.covers t ∙ go t l (dec_lt t at) (dec_lt t s);
  over = λ t l. omega (arith, w.covers t, d.over t (omega arith), inside_late s e t l);
}
  where
    go : (t : ℕ) → t < e → Dec (t < at) → Dec (t < s) → cover (take n new) t + inside s e t ≡ g t
    go t l (yes a) b = omega (arith, d.covers t a, inside_early s e t (omega arith))
    go t l (no a) (yes b) = omega (arith, d.over t (omega arith), inside_early s e t b, none t (omega arith) b)
    go t l (no a) (no b) = omega (arith, d.over t (omega arith), inside_yes s e t (omega arith) l, one t (omega arith) l)

-- all are decided
pub drawn_all : {old new : List ℕ} {n at : ℕ} {g : ℕ → ℕ} → DrawnBelow old new n g at → ((t : ℕ) → at ≤ t → g t ≡ 0) → Drawn old new n g
drawn_all {old} {new} {n} {at} {g} d q = record { same = d.same; count = d.count; plain = d.plain; covers = λ t. go t (dec_lt t at) }
  where
    go : (t : ℕ) → Dec (t < at) → cover (take n new) t ≡ g t
    go t (yes l) = d.covers t l
    go t (no l) = omega (arith, d.over t (omega arith), q t (omega arith))
