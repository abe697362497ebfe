-- Adding up, by ticks and by windows. Assumes nothing.
use Prim.Native.Nat.{ℕ, zero, suc, ◌+◌, ◌-◌, ◌≤◌, ◌<◌, min}
use mathlib.Core.Path.{◌≡◌, refl, sym, ap, ◌∙◌, fun_ext}
use mathlib.Core.List.{List, [], ◌∷◌}
use mathlib.Core.Bool.{Bool, true, false}
use native.Mathlib.Omega.{arith}
use native.Mathlib.Decide.{dec_le, dec_lt}
use lib.Dec.{leb}
use borrow.Author.Tests.{leb-true, leb-false}
use Rattle.basics.specs.Choice.{pick}
use Rattle.windows.specs.Windows.{inside, cover, size, end_of, is_plain, upto, waiting, done, always, add_up, ◌⊕◌}
use Rattle.windows.specs.Walks.{place, merge, grow, grown}
use Rattle.windows.proofs.Ticks.{inside_yes, inside_early, inside_late, inside_one, Apart, cover_after, cover_one, end_above, apart_plain}
use Rattle.windows.proofs.Counts.{upto-⊕, upto_inside, count_inside, count_all}
use Rattle.windows.proofs.Queue.{none, smooth, smooth_one, smooth_absorbed, smooth_units, serves_done, waiting_count, done_quiet, done_over}
use Rattle.windows.proofs.Runs.{runs_apart, runs_end, windows_cover, windows_only}

-- ---- a window of n ticks that starts in an open window, or at its end, makes the open one longer by n

grow_causal : (f a n t : ℕ) → a ≤ f → min t (f + n) + min t a ≤ min t f + min t (a + n)
grow_causal f a n t k = omega arith

grow_after : (f a n t : ℕ) → a ≤ f → f + n ≤ t → min t (f + n) + min t a ≡ min t f + min t (a + n)
grow_after f a n t k l = omega arith

module _ (s f a n : ℕ) (h : s ≤ a) (k : a ≤ f) where
  count_old : (t : ℕ) → (upto (inside s f ⊕ inside a (a + n)) t + min t s) + min t a ≡ min t f + min t (a + n)
  count_old t = omega (arith, upto-⊕ (inside s f) (inside a (a + n)) t, count_inside s f t (omega arith), count_inside a (a + n) t (omega arith))

  longer_busy : (t : ℕ) → inside s (f + n) t < 1 → Dec (s ≤ t) → Dec (t < f + n) → upto (inside s (f + n)) (suc t) ≡ upto (inside s f ⊕ inside a (a + n)) (suc t)
  longer_busy t l (yes p) (yes q) = absurd (omega (arith, inside_yes s (f + n) t p q))
  longer_busy t l (yes p) (no q) =
      omega (arith, count_old (suc t), count_inside s (f + n) (suc t) (omega arith), grow_after f a n (suc t) k (omega arith))
  longer_busy t l (no p) q = omega (arith, count_old (suc t), upto_inside s (f + n) (suc t))

  pub open_longer : smooth (inside s f ⊕ inside a (a + n)) ≡ inside s (f + n)
  open_longer = sym (serves_done (inside s f ⊕ inside a (a + n)) always (inside s (f + n)) (record {
    within = λ t. inside_one s (f + n) t;
    causal = λ t. omega (arith, count_old t, count_inside s (f + n) t (omega arith), grow_causal f a n t k);
    busy = λ t l. longer_busy t l (dec_le s t) (dec_lt t (f + n));
  }))

-- ---- windows in the order of their starts, none empty, none before low

abbrev pub Sorted : ℕ → List ℕ → Type 0
Sorted low [] = Unit {0}
Sorted low (s ∷ []) = Unit {0}
Sorted low (s ∷ (e ∷ r)) = (low ≤ s) × (s < e) × Sorted s r

pub sorted_lower : (low less : ℕ) (l : List ℕ) → less ≤ low → Sorted low l → Sorted less l
sorted_lower low less [] k h = tt
sorted_lower low less (s ∷ []) k h = tt
sorted_lower low less (s ∷ (e ∷ r)) k h = (omega arith, h.1, h.2)

pub sorted_apart : (low : ℕ) (l : List ℕ) → Apart low l → Sorted low l
sorted_apart low [] h = tt
sorted_apart low (s ∷ []) h = tt
sorted_apart low (s ∷ (e ∷ r)) h = (h.0, h.1, sorted_lower (suc e) s r (omega arith) (sorted_apart (suc e) r h.2))

sorted_place : (low s e : ℕ) (l : List ℕ) → low ≤ s → s < e → Sorted low l → Sorted low (place s e l)
unfolding place
sorted_place low s e [] h k x = (h, k, tt)
sorted_place low s e (a ∷ []) h k x = (h, k, tt)
sorted_place low s e (a ∷ (b ∷ r)) h k x = go (leb a s) refl (sorted_place a s e r)
  where
    go : (t : Bool) → leb a s ≡ t → (a ≤ s → s < e → Sorted a r → Sorted a (place s e r)) → Sorted low (pick t (a ∷ (b ∷ place s e r)) (s ∷ (e ∷ (a ∷ (b ∷ r)))))
    go true p ih = (x.0, x.1, ih (leb-true a s p) k x.2)
    go false p ih = let z : s < a = leb-false a s p in (h, k, (omega arith, x.1, x.2))

pub sorted_merge : (l m : List ℕ) (low : ℕ) → Sorted 0 l → Apart low m → Sorted 0 (merge l m)
unfolding merge
sorted_merge l [] low h p = h
sorted_merge l (s ∷ []) low h p = h
sorted_merge l (s ∷ (e ∷ r)) low h p = sorted_place 0 s e (merge l r) (omega arith) p.1 (sorted_merge l r (suc e) h p.2)

-- nothing comes before the first start
sorted_before : (low : ℕ) (l : List ℕ) (t : ℕ) → Sorted low l → t < low → cover l t ≡ 0
unfolding cover
sorted_before low [] t h k = refl
sorted_before low (s ∷ []) t h k = refl
sorted_before low (s ∷ (e ∷ r)) t h k = omega (arith, inside_early s e t (omega arith), sorted_before s r t h.2 (omega arith))

-- ---- the windows of both bring the work of both

cover_place : (s e : ℕ) (l : List ℕ) (t : ℕ) → cover (place s e l) t ≡ inside s e t + cover l t
unfolding cover place
cover_place s e [] t = refl
cover_place s e (a ∷ []) t = refl
cover_place s e (a ∷ (b ∷ r)) t = go (leb a s) (cover_place s e r t)
  where
    go : (x : Bool) → cover (place s e r) t ≡ inside s e t + cover r t
        → cover (pick x (a ∷ (b ∷ place s e r)) (s ∷ (e ∷ (a ∷ (b ∷ r))))) t ≡ inside s e t + (inside a b t + cover r t)
    go true ih = omega arith
    go false ih = refl

pub cover_merge : (l m : List ℕ) (t : ℕ) → cover (merge l m) t ≡ cover l t + cover m t
unfolding cover merge
cover_merge l [] t = omega arith
cover_merge l (s ∷ []) t = omega arith
cover_merge l (s ∷ (e ∷ r)) t = cover_place s e (merge l r) t ∙ omega (arith, cover_merge l r t)

-- ---- growing an open window is smoothing

-- a window before all other work
first_alone : (s f a : ℕ) (y : ℕ → ℕ) → f < a → ((u : ℕ) → u < a → y u ≡ 0) → inside s f ⊕ smooth y ≡ smooth (inside s f ⊕ y)
first_alone s f a y h quiet =
    sym (smooth_units (inside s f ⊕ smooth y) (λ t. units t (dec_lt t f)))
    ∙ ap smooth (fun_ext (λ t. omega arith))
    ∙ smooth_absorbed y (inside s f)
    ∙ ap smooth (fun_ext (λ t. omega arith))
  where
    units : (t : ℕ) → Dec (t < f) → inside s f t + smooth y t ≤ 1
    units t (yes k) = omega (arith, inside_one s f t, done_quiet y always a quiet t (omega arith))
    units t (no k) = omega (arith, inside_late s f t (omega arith), smooth_one y t)

pub grow_cover : (s f : ℕ) (l : List ℕ) → s < f → Sorted s l → cover (grow s f l) ≡ smooth (inside s f ⊕ cover l)
unfolding cover grow
grow_cover s f [] h o = sym (smooth_units (inside s f ⊕ none) (λ t. omega (arith, inside_one s f t)))
grow_cover s f (a ∷ []) h o = sym (smooth_units (inside s f ⊕ none) (λ t. omega (arith, inside_one s f t)))
grow_cover s f (a ∷ (b ∷ r)) h o = go (leb a f) refl (grow_cover s (f + (b - a)) r) (grow_cover a b r)
  where
    go : (x : Bool) → leb a f ≡ x
        → (s < f + (b - a) → Sorted s r → cover (grow s (f + (b - a)) r) ≡ smooth (inside s (f + (b - a)) ⊕ cover r))
        → (a < b → Sorted a r → cover (grow a b r) ≡ smooth (inside a b ⊕ cover r))
        → cover (pick x (grow s (f + (b - a)) r) (s ∷ (f ∷ grow a b r))) ≡ smooth (inside s f ⊕ (inside a b ⊕ cover r))
    go true p i j =
        let e : a + (b - a) ≡ b = omega (arith, o.1) in
        let w : smooth (inside s f ⊕ inside a b) ≡ inside s (f + (b - a)) = rw e at (open_longer s f a (b - a) o.0 (leb-true a f p)) in
        i (omega arith) (sorted_lower a s r o.0 o.2)
        ∙ ap (λ (g : ℕ → ℕ). smooth (g ⊕ cover r)) (sym w)
        ∙ smooth_absorbed (inside s f ⊕ inside a b) (cover r)
        ∙ ap smooth (fun_ext (λ t. omega arith))
    go false p i j =
        ap (λ (g : ℕ → ℕ). inside s f ⊕ g) (j o.1 o.2)
        ∙ first_alone s f a (inside a b ⊕ cover r) (leb-false a f p)
        (λ u k. omega (arith, inside_early a b u k, sorted_before a r u o.2 k))

pub grow_apart : (lo s f : ℕ) (l : List ℕ) → lo ≤ s → s < f → Sorted s l → Apart lo (grow s f l)
unfolding grow
grow_apart lo s f [] k h o = (k, h, tt)
grow_apart lo s f (a ∷ []) k h o = (k, h, tt)
grow_apart lo s f (a ∷ (b ∷ r)) k h o = go (leb a f) refl (grow_apart lo s (f + (b - a)) r k) (grow_apart (suc f) a b r)
  where
    go : (x : Bool) → leb a f ≡ x → (s < f + (b - a) → Sorted s r → Apart lo (grow s (f + (b - a)) r))
        → (suc f ≤ a → a < b → Sorted a r → Apart (suc f) (grow a b r)) → Apart lo (pick x (grow s (f + (b - a)) r) (s ∷ (f ∷ grow a b r)))
    go true p i j = i (omega arith) (sorted_lower a s r o.0 o.2)
    go false p i j = (k, h, j (leb-false a f p) o.1 o.2)

-- an end above a bound stays above it
pub grow_over : (hi s f : ℕ) (l : List ℕ) → s < f → Sorted s l → hi < f → hi < end_of (grow s f l)
unfolding grow end_of
grow_over hi s f [] k o h = h
grow_over hi s f (a ∷ []) k o h = h
grow_over hi s f (a ∷ (b ∷ r)) k o h = go (leb a f) refl (grow_over hi s (f + (b - a)) r)
  where
    go : (x : Bool) → leb a f ≡ x → (s < f + (b - a) → Sorted s r → hi < f + (b - a) → hi < end_of (grow s (f + (b - a)) r))
        → hi < end_of (pick x (grow s (f + (b - a)) r) (s ∷ (f ∷ grow a b r)))
    go true p i = i (omega arith) (sorted_lower a s r o.0 o.2) (omega arith)
    go false p i =
        omega (arith, end_above s s f (grow a b r) (omega arith, k, grow_apart (suc f) a b r (leb-false a f p) o.1 o.2))

grown_cover : (l : List ℕ) → Sorted 0 l → cover (grown l) ≡ smooth (cover l)
unfolding cover grown
grown_cover [] o = sym (smooth_units none (λ t. omega arith))
grown_cover (a ∷ []) o = sym (smooth_units none (λ t. omega arith))
grown_cover (a ∷ (b ∷ r)) o = grow_cover a b r o.1 o.2

grown_apart : (l : List ℕ) → Sorted 0 l → Apart 0 (grown l)
unfolding grown
grown_apart [] o = tt
grown_apart (a ∷ []) o = tt
grown_apart (a ∷ (b ∷ r)) o = grow_apart 0 a b r (omega arith) o.1 o.2

-- ---- all is done when both ends, one behind the other, have passed

-- one tick: d units at most come, c came before, and none where t is past c
less_next : (w x c d t : ℕ) → w ≤ c - t → x ≤ d → t ≤ c → (w + x) - min 1 (w + x) ≤ (c + d) - suc t
less_next w x c d t h k l = omega arith

less_over : (w x c t : ℕ) → w ≤ c - t → x ≡ 0 → (w + x) - min 1 (w + x) ≤ c - suc t
less_over w x c t h k = omega arith

-- x brings one unit at most below m, and one more below n
module _ (x : ℕ → ℕ) (m n : ℕ) (brings : (t : ℕ) → x t ≤ inside 0 m t + inside 0 n t) where
  waits_less : (t : ℕ) → waiting x always t ≤ (min t m + min t n) - t
  unfolding waiting
  waits_less zero = omega arith
  waits_less (suc t) = go (waits_less t) (dec_lt t m) (dec_lt t n)
    where
      came : ℕ
      came = min t m + min t n

      more : (d : ℕ) → waiting x always t ≤ came - t → x t ≤ d → t ≤ came → came + d ≡ min (suc t) m + min (suc t) n
          → (waiting x always t + x t) - min 1 (waiting x always t + x t) ≤ (min (suc t) m + min (suc t) n) - suc t
      more d ih h l e = rw (← e) (less_next (waiting x always t) (x t) came d t ih h l)

      go : waiting x always t ≤ (min t m + min t n) - t → Dec (t < m) → Dec (t < n)
          → (waiting x always t + x t) - min 1 (waiting x always t + x t) ≤ (min (suc t) m + min (suc t) n) - suc t
      go ih (yes h) (yes k) = more 2 ih (omega (arith, brings t, inside_one 0 m t, inside_one 0 n t)) (omega arith) (omega arith)
      go ih (yes h) (no k) = more 1 ih (omega (arith, brings t, inside_one 0 m t, inside_late 0 n t (omega arith))) (omega arith) (omega arith)
      go ih (no h) (yes k) = more 1 ih (omega (arith, brings t, inside_late 0 m t (omega arith), inside_one 0 n t)) (omega arith) (omega arith)
      go ih (no h) (no k) =
          let e : min (suc t) m + min (suc t) n ≡ min t m + min t n = omega arith in
          rw e (less_over (waiting x always t) (x t) (min t m + min t n) t ih (omega (arith, brings t, inside_late 0 m t (omega arith), inside_late 0 n t (omega arith))))

  none_waits : waiting x always (m + n) ≡ 0
  none_waits = omega (arith, waits_less (m + n))

  none_comes : (t : ℕ) → m + n ≤ t → x t ≡ 0
  none_comes t h = omega (arith, brings t, inside_late 0 m t (omega arith), inside_late 0 n t (omega arith))

  pub smooth_over : (t : ℕ) → m + n ≤ t → smooth x t ≡ 0
  smooth_over = done_over x always (m + n) none_waits none_comes

-- a curve covers no tick from its end on
cover_below : (l : List ℕ) (t : ℕ) → Apart 0 l → cover l t ≤ inside 0 (end_of l) t
cover_below l t p = go (dec_lt t (end_of l))
  where
    go : Dec (t < end_of l) → cover l t ≤ inside 0 (end_of l) t
    go (yes h) = omega (arith, inside_yes 0 (end_of l) t (omega arith) h, cover_one l 0 t p)
    go (no h) = omega (arith, cover_after l 0 t p (omega arith))

module _ (a b : List ℕ) (p : Apart 0 a) (q : Apart 0 b) where
  both_below : (t : ℕ) → cover a t + cover b t ≤ inside 0 (end_of a) t + inside 0 (end_of b) t
  both_below t = omega (arith, cover_below a t p, cover_below b t q)

  sum_over : (t : ℕ) → end_of a + end_of b ≤ t → smooth (cover a ⊕ cover b) t ≡ 0
  sum_over = smooth_over (cover a ⊕ cover b) (end_of a) (end_of b) both_below

  -- adding up is the queue with a unit of supply at every tick
  pub add_ticks : cover (add_up a b) ≡ done (cover a ⊕ cover b) always
  add_ticks = fun_ext (windows_cover (smooth (cover a ⊕ cover b)) (smooth_one (cover a ⊕ cover b)) (end_of a + end_of b) sum_over)

  pub add_apart : Apart 0 (add_up a b)
  add_apart = runs_apart (smooth (cover a ⊕ cover b)) (end_of a + end_of b) 0

  -- "Work brought is work done: the lengths add up"
  pub add_size : size (add_up a b) ≡ size a + size b
  add_size =
      let n = end_of a + end_of b in
      let x = cover a ⊕ cover b in
      sym (count_all (add_up a b) 0 n add_apart (omega (arith, runs_end (smooth x) n 0)))
      ∙ ap (λ (f : ℕ → ℕ). upto f n) add_ticks
      ∙ omega (
        arith,
        waiting_count x always n,
        none_waits x (end_of a) (end_of b) both_below,
        upto-⊕ (cover a) (cover b) n,
        count_all a 0 n p (omega arith),
        count_all b 0 n q (omega arith),
      )

  -- what the code's walk gives is the sum
  pub grown_is : grown (merge a b) ≡ add_up a b
  grown_is =
      let o : Sorted 0 (merge a b) = sorted_merge a b 0 (sorted_apart 0 a p) q in
      windows_only (smooth (cover a ⊕ cover b)) (smooth_one (cover a ⊕ cover b)) (end_of a + end_of b) (grown (merge a b)) sum_over (grown_apart (merge a b) o)
      (λ t. ap (λ (f : ℕ → ℕ). f t) (grown_cover (merge a b) o ∙ ap smooth (fun_ext (cover_merge a b))))

  -- the sum is plain, if it ends in time
  pub add_plain : end_of (add_up a b) ≤ 1000000 → is_plain (add_up a b) ≡ true
  add_plain h = apart_plain 0 (add_up a b) add_apart h
