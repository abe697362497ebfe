-- A curve whose windows all start before H, cut off there; and that adding up two curves below H gives such a one. Assumes nothing.
use Prim.Native.Nat.{ℕ, zero, suc, ◌-◌, ◌≤◌, ◌<◌, min}
use mathlib.Core.Path.{◌≡◌, refl, ap, ◌∙◌}
use mathlib.Core.List.{List, [], ◌∷◌}
use native.Mathlib.Omega.{arith}
use native.Mathlib.Decide.{dec_lt}
use lib.ListN.{length, get_or, set, take, length-set}
use lib.Seq.{length-take-le, get_or-take}
use Rattle.windows.specs.Windows.{cover, add_up, waiting, done, always, ◌⊕◌}
use Rattle.windows.proofs.Ticks.{inside_yes, inside_late, Apart, cover_before, window_some}
use Rattle.windows.proofs.Adding.{add_ticks, add_apart}
use Rattle.schedule.specs.Curves.{below}
use Rattle.demands.specs.Walks.{StartsBelow}

-- ---- only the last end can lie behind H

-- the last end is H where it lies behind it
unfoldable last_at : ℕ → List ℕ → List ℕ
last_at H [] = []
last_at H (s ∷ []) = s ∷ []
last_at H (s ∷ (e ∷ [])) = s ∷ (min e H ∷ [])
last_at H (s ∷ (e ∷ (q ∷ r))) = s ∷ (e ∷ last_at H (q ∷ r))

below_one : (H s e : ℕ) → s < e → s < H → below H (s ∷ (e ∷ [])) ≡ s ∷ (min e H ∷ [])
unfolding below
below_one H s e p q = window_some s (min e H) [] (omega arith)

below_is_last : (H lo : ℕ) (l : List ℕ) → Apart lo l → StartsBelow H l → below H l ≡ last_at H l
unfolding below StartsBelow last_at
below_is_last H lo [] p q = refl
below_is_last H lo (s ∷ []) p q = absurd q
below_is_last H lo (s ∷ (e ∷ [])) p q = below_one H s e p.1 q.0
below_is_last H lo (s ∷ (e ∷ (a ∷ []))) p q = absurd q.1
below_is_last H lo (s ∷ (e ∷ (a ∷ (b ∷ r)))) p q =
    let m : min e H ≡ e = omega (arith, p.2.0, q.1.0) in
    let ih = below_is_last H (suc e) (a ∷ (b ∷ r)) p.2 q.1 in
    rw m (window_some s e (below H (a ∷ (b ∷ r))) p.1 ∙ ap (λ (l : List ℕ). s ∷ (e ∷ l)) ih)

-- the last number, behind a window
behind : (s e q : ℕ) (r : List ℕ) → length (s ∷ (e ∷ (q ∷ r))) - 1 ≡ suc (suc (length (q ∷ r) - 1))
behind s e q r = omega arith

last_stored : (H lo : ℕ) (l : List ℕ) → Apart lo l → last_at H l ≡ set l (length l - 1) (min (get_or l (length l - 1) 0) H)
unfolding last_at
last_stored H lo [] p = refl
last_stored H lo (s ∷ []) p = absurd p
last_stored H lo (s ∷ (e ∷ [])) p = refl
last_stored H lo (s ∷ (e ∷ (q ∷ r))) p = rw (behind s e q r) (ap (λ (l : List ℕ). s ∷ (e ∷ l)) (last_stored H (suc e) (q ∷ r) p.2))

module _ (H lo : ℕ) (l : List ℕ) (p : Apart lo l) (q : StartsBelow H l) where
  -- of a curve whose windows start before H, the last end is changed
  pub cut_last : below H l ≡ set l (length l - 1) (min (get_or l (length l - 1) 0) H)
  cut_last = below_is_last H lo l p q ∙ last_stored H lo l p

  -- no window is lost
  pub cut_length : length (below H l) ≡ length l
  cut_length = ap length cut_last ∙ length-set l (length l - 1) _

-- the last number of the curve at the front of a buffer is the buffer's last before its end
pub last_number_lem : (old : List ℕ) (n : ℕ) → n ≤ length old → 0 < n → get_or (take n old) (length (take n old) - 1) 0 ≡ get_or old (n - 1) 0
last_number_lem old n h z = rw (length-take-le n old h) (get_or-take n old (n - 1) 0 (omega arith))

-- where there is no window, none is cut off
pub cut_none : (H : ℕ) (l : List ℕ) → length l ≤ 0 → l ≡ below H l
unfolding below
cut_none H [] h = refl
cut_none H (x ∷ l) h = absurd (omega (arith, h))

-- ---- where no work comes from H on, no window starts there

-- a curve whose ticks from H on only go on from the tick before
pub starts_below : (H lo : ℕ) (l : List ℕ) → 0 < H → Apart lo l → ((t : ℕ) → H ≤ suc t → cover l (suc t) ≤ cover l t) → StartsBelow H l
unfolding StartsBelow cover
starts_below H lo [] z p falls = tt
starts_below H lo (s ∷ []) z p falls = absurd p
starts_below H lo (s ∷ (e ∷ r)) z p falls = (first s refl, starts_below H (suc e) r z p.2 rest)
  where
    first : (u : ℕ) → s ≡ u → s < H
    first zero d = omega arith
    first (suc u) d = go (dec_lt s H)
      where
        go : Dec (s < H) → s < H
        go (yes h) = h
        go (no h) =
            let whole : Apart s (s ∷ (e ∷ r)) = (omega arith, p.1, p.2) in
            let none : cover (s ∷ (e ∷ r)) u ≡ 0 = cover_before (s ∷ (e ∷ r)) s u whole (omega arith) in
            absurd (omega (arith, falls u (omega arith), none, inside_yes s e (suc u) (omega arith) (omega (arith, p.1))))

    rest : (t : ℕ) → H ≤ suc t → cover r (suc t) ≤ cover r t
    rest t h = go (dec_lt t e)
      where
        go : Dec (t < e) → cover r (suc t) ≤ cover r t
        go (yes k) = omega (arith, cover_before r (suc e) (suc t) p.2 (omega arith))
        go (no k) = omega (arith, falls t h, inside_late s e (suc t) (omega arith), inside_late s e t (omega arith))

-- a queue that nothing comes to any more is idle for good once it is idle
idle_stays : (x : ℕ → ℕ) (t : ℕ) → x (suc t) ≡ 0 → done x always (suc t) ≤ done x always t
unfolding done waiting
idle_stays x t h = omega (arith, h)

module _ (H : ℕ) (a b : List ℕ) (z : 0 < H) (p : Apart 0 a) (q : Apart 0 b)
    (oa : (t : ℕ) → H ≤ t → cover a t ≡ 0) (ob : (t : ℕ) → H ≤ t → cover b t ≡ 0) where
  pub add_starts : StartsBelow H (add_up a b)
  add_starts =
      starts_below H 0 (add_up a b) z (add_apart a b p q)
      (λ t h. rw (add_ticks a b p q) (idle_stays (cover a ⊕ cover b) t (omega (arith, oa (suc t) h, ob (suc t) h))))
