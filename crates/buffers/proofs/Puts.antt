-- What stores at the end of a curve in a buffer make of it. Assumes nothing.
use Prim.Native.Nat.{ℕ, zero, suc, ◌+◌, ◌-◌, ◌≤◌, ◌<◌}
use mathlib.Core.Path.{◌≡◌, refl, sym, ap, subst, ◌∙◌}
use mathlib.Core.List.{List, [], ◌∷◌, ◌++◌, append_assoc}
use native.Mathlib.Omega.{arith}
use native.Mathlib.Numerals.{add-one, add-two}
use lib.ListN.{length, take, set, get_or, length-set}
use lib.Seq.{length-take-le, take-suc, take-suc-set}
use Rattle.windows.specs.Windows.{end_of}
use Rattle.windows.proofs.Ticks.{Apart, end_below, plain_apart, apart_plain}
use Rattle.buffers.specs.Parts.{Curve, Drawn, with_window}
use Rattle.buffers.proofs.Fronts.{apart_windows, apart_length, behind_apart, behind_cover, last_end, longer_apart, longer_cover}

-- a window that comes behind the curve of a buffer
pub record Coming (buffer : List ℕ) (n s e : ℕ) : Type 0 where
  pub curve : Curve buffer n s
  pub rises : s < e
  pub ends : e ≤ 16000

pub coming : {buffer : List ℕ} {n s e : ℕ} → Curve buffer n s × (s < e) × (e ≤ 16000) → Coming buffer n s e
coming h = record { curve = h.0; rises = h.1; ends = h.2 }

module _ (buffer : List ℕ) (s e : ℕ) where
  -- the curve stands apart
  front_apart : (n : ℕ) → Coming buffer n s e → Apart 0 (take n buffer)
  front_apart n w = plain_apart 0 (take n buffer) w.curve.curve.plain

  -- where its last number is not the start, it ends before the start
  ends_before : (n : ℕ) → Coming buffer n s e → (0 < n → ¬ (get_or buffer (n - 1) 0 ≡ s)) → 0 < n → end_of (take n buffer) < s
  ends_before zero w h k = absurd (omega arith)
  ends_before (suc m) w h k =
      let i : suc m - 1 ≡ m = omega arith in
      let x : end_of (take (suc m) buffer) ≡ get_or buffer m 0 = ap end_of (take-suc buffer m 0 (omega (arith, w.curve.count))) ∙ last_end (take m buffer) (get_or buffer m 0) in
      let d : ¬ (get_or buffer m 0 ≡ s) = λ y. h k (rw i y) in
      omega (arith, x, d, end_below (take (suc m) buffer) 0 s (front_apart (suc m) w) w.curve.curve.over)

  -- and there is room behind it
  pub put_room : (n : ℕ) → Coming buffer n s e → (0 < n → ¬ (get_or buffer (n - 1) 0 ≡ s)) → n + 1 < length buffer
  put_room zero w h = omega (arith, w.curve.room)
  put_room (suc m) w h =
      let a = front_apart (suc m) w in
      omega (
        arith,
        w.curve.room,
        w.rises,
        w.ends,
        ends_before (suc m) w h (omega arith),
        length-take-le (suc m) buffer w.curve.count,
        apart_windows (take (suc m) buffer) 0 a,
        apart_length (take (suc m) buffer) 0 a,
      )

  -- the numbers once the window is stored behind
  behind_is : (n : ℕ) → n + 1 < length buffer → take (n + 2) (set (set buffer n s) (n + 1) e) ≡ take n buffer ++ (s ∷ (e ∷ []))
  behind_is n h =
      let p : n < length buffer = omega arith in
      let q : suc n < length (set buffer n s) = simp length-set (omega arith) in
      simp (add-one, add-two, take-suc-set, append_assoc) refl

  -- a window stored behind
  pub put_behind : (n : ℕ) → Coming buffer n s e → (0 < n → ¬ (get_or buffer (n - 1) 0 ≡ s))
      → Drawn buffer (set (set buffer n s) (n + 1) e) (n + 2) (with_window (take n buffer) s e)
  put_behind n w h =
      let r : n + 1 < length buffer = put_room n w h in
      let i = behind_is n r in
      let a = front_apart n w in
      let k : length (take n buffer) ≡ n = length-take-le n buffer w.curve.count in
      let o : 0 < length (take n buffer) → end_of (take n buffer) < s = λ z. ends_before n w h (omega arith) in
      let f : length (set (set buffer n s) (n + 1) e) ≡ length buffer = length-set (set buffer n s) (n + 1) e ∙ length-set buffer n s in
      let b = behind_apart (take n buffer) 0 s e a (omega arith) o w.rises in
      let l : end_of (take n buffer ++ (s ∷ (e ∷ []))) ≡ e = ap end_of (sym (append_assoc (take n buffer) (s ∷ []) (e ∷ []))) ∙ last_end (take n buffer ++ (s ∷ [])) e in
      record {
        same = f;
        count = omega arith;
        plain = rw i (apart_plain 0 (take n buffer ++ (s ∷ (e ∷ []))) b (omega (arith, l, w.ends)));
        covers = λ t. rw i (behind_cover (take n buffer) 0 s e a t);
      }

  -- the last window made longer
  pub put_joined : (n : ℕ) → Coming buffer n s e → 0 < n → get_or buffer (n - 1) 0 ≡ s → Drawn buffer (set buffer (n - 1) e) n (with_window (take n buffer) s e)
  put_joined zero w h k = absurd (omega arith)
  put_joined (suc m) w h k =
      let i : suc m - 1 ≡ m = omega arith in
      let x : m < length buffer = omega (arith, w.curve.count) in
      let old : take (suc m) buffer ≡ take m buffer ++ (s ∷ []) = take-suc buffer m 0 x ∙ ap (λ (y : ℕ). take m buffer ++ (y ∷ [])) (rw i at k) in
      let new : take (suc m) (set buffer m e) ≡ take m buffer ++ (e ∷ []) = take-suc-set buffer m e x in
      let a : Apart 0 (take m buffer ++ (s ∷ [])) = subst (Apart 0) old (front_apart (suc m) w) in
      let b = longer_apart (take m buffer) 0 s e (omega (arith, w.rises)) a in
      rw i (record {
        same = length-set buffer m e;
        count = omega (arith, length-set buffer m e);
        plain = rw new (apart_plain 0 (take m buffer ++ (e ∷ [])) b (omega (arith, last_end (take m buffer) e, w.ends)));
        covers = λ t. rw (new, old) (longer_cover (take m buffer) 0 s e (omega (arith, w.rises)) a t);
      })
