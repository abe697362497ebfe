-- What a server holds, a stretch of ticks at a time: stretches in which it holds nothing, and stretches of which it holds every tick.
-- Assumes nothing.
use Prim.Native.Nat.{ℕ, zero, suc, ◌+◌, ◌-◌, ◌*◌, ◌/◌, ◌%◌, ◌≤◌, ◌<◌, min}
use mathlib.Core.Path.{◌≡◌, sym, ap, ◌∙◌}
use native.Mathlib.Omega.{arith}
use native.Mathlib.Nat.{mod-lt, mod-eq_of_lt, mod-eq-sub-mod, mod-add-mod, add-mod_right, div-add-mod, mul-mod_right}
use native.Mathlib.Decide.{dec_le, dec_lt}
use Rattle.windows.specs.Windows.{upto, waiting, done}
use Rattle.windows.specs.Servers.{so_far, limited, held}
use Rattle.windows.proofs.Counts.{upto_rises}
use Rattle.windows.proofs.Queue.{waiting_count}
use Rattle.windows.proofs.Capacity.{held_done, held_under, held_is_free}

-- ---- stretches, counted

-- ticks that have nothing
pub upto_still : (f : ℕ → ℕ) (a t : ℕ) → a ≤ t → ((u : ℕ) → a ≤ u → u < t → f u ≡ 0) → upto f t ≡ upto f a
unfolding upto
upto_still f a zero h k = let e : a ≡ 0 = omega arith in rw e
upto_still f a (suc t) h k = go (upto_still f a t) (dec_le a t)
  where
    go : (a ≤ t → ((u : ℕ) → a ≤ u → u < t → f u ≡ 0) → upto f t ≡ upto f a) → Dec (a ≤ t) → upto f t + f t ≡ upto f a
    go ih (yes p) = omega (arith, ih p (λ u q r. k u q (omega arith)), k t p (omega arith))
    go ih (no p) = let e : a ≡ suc t = omega arith in rw e

-- ticks that have one each
pub upto_ones : (f : ℕ → ℕ) (a t : ℕ) → a ≤ t → ((u : ℕ) → a ≤ u → u < t → f u ≡ 1) → upto f t + a ≡ upto f a + t
unfolding upto
upto_ones f a zero h k = let e : a ≡ 0 = omega arith in rw e
upto_ones f a (suc t) h k = go (upto_ones f a t) (dec_le a t)
  where
    go : (a ≤ t → ((u : ℕ) → a ≤ u → u < t → f u ≡ 1) → upto f t + a ≡ upto f a + t) → Dec (a ≤ t) → (upto f t + f t) + a ≡ upto f a + suc t
    go ih (yes p) = omega (arith, ih p (λ u q r. k u q (omega arith)), k t p (omega arith))
    go ih (no p) = let e : a ≡ suc t = omega arith in rw e

-- ---- periods

-- in the period that ends at u
pub rem_under : (T u t : ℕ) → 0 < T → u % T ≡ 0 → t < u → u ≤ t + T → t % T + u ≡ t + T
rem_under T u t p h k l = go (dec_lt u T)
  where
    go : Dec (u < T) → t % T + u ≡ t + T
    go (yes q) = absurd (omega (arith, mod-eq_of_lt q))
    go (no q) =
        let n = (t + T) - u in
        let v : (u - T) % T ≡ 0 = sym (mod-eq-sub-mod {n = u} {m = T} (omega arith)) ∙ h in
        let e : (u - T) + n ≡ t = omega arith in
        let z : (u - T) % T + n ≡ n = omega arith in
        let r : t % T ≡ n = ap (λ (k : ℕ). k % T) (sym e) ∙ sym (mod-add-mod (u - T) T n) ∙ ap (λ (k : ℕ). k % T) z ∙ mod-eq_of_lt (omega arith) in
        omega arith

-- two ticks of one period count from the same start
pub start_same : (T u a t : ℕ) → 0 < T → u % T ≡ 0 → a ≤ t → t < u → u ≤ a + T → t - t % T ≡ a - a % T
start_same T u a t p h k l m = omega (arith, rem_under T u a p h (omega arith) m, rem_under T u t p h l (omega arith))

start_turns : (T t : ℕ) → (t - t % T) % T ≡ 0
start_turns T t =
    let e : t - t % T ≡ T * (t / T) = omega (arith, div-add-mod t T) in
    ap (λ (n : ℕ). n % T) e ∙ mul-mod_right T (t / T)

-- the end of a tick's period is where a period ends
pub end_turns : (T t : ℕ) → ((t - t % T) + T) % T ≡ 0
end_turns T t = add-mod_right (t - t % T) T ∙ start_turns T t

-- a period that ends before a tick ends before the tick's period
pub start_above : (T u t : ℕ) → 0 < T → u % T ≡ 0 → u ≤ t → u ≤ t - t % T
start_above T u t p h k = go (dec_lt (t - t % T) u)
  where
    go : Dec (t - t % T < u) → u ≤ t - t % T
    go (yes q) = absurd (omega (arith, mod-lt t p, rem_under T ((t - t % T) + T) u p (end_turns T t) (omega (arith, mod-lt t p)) (omega arith)))
    go (no q) = omega arith

-- what a period has so far, told from an earlier tick of it
pub so_far_later : (T : ℕ) (r : ℕ → ℕ) (u a t : ℕ) → 0 < T → u % T ≡ 0 → a ≤ t → t < u → u ≤ a + T → so_far T r t + upto r a ≡ so_far T r a + upto r t
so_far_later T r u a t p h k l m =
    rw (start_same T u a t p h k l m)
    (omega (arith, upto_rises r (a - a % T) a (omega arith), upto_rises r a t k))

-- nothing, where nothing came since an earlier period
pub so_far_none : (T : ℕ) (r : ℕ → ℕ) (u t : ℕ) → 0 < T → u % T ≡ 0 → u ≤ t → ((k : ℕ) → u ≤ k → k < t → r k ≡ 0) → so_far T r t ≡ 0
so_far_none T r u t p h k q =
    let above : u ≤ t - t % T = start_above T u t p h k in
    omega (arith, upto_still r u t k q, upto_still r u (t - t % T) above (λ v l m. q v l (omega arith)))

-- ---- one tick

one_tick : (h s w y ux uh : ℕ) → h ≡ min s (w + y) → w + uh ≡ ux → h ≡ min s ((ux + y) - uh)
one_tick h s w y ux uh e k = omega arith

served_none : (h s d uh : ℕ) → h ≡ min s (d - uh) → d ≤ uh → h ≡ 0
served_none h s d uh e k = omega arith

served_one : (h f C s d uh : ℕ) → h ≡ min (min f (C - s)) (d - uh) → f ≡ 1 → s < C → uh < d → h ≡ 1
served_one h f C s d uh e k l m = omega arith

module _ (C T : ℕ) (x f : ℕ → ℕ) (p : 0 < T) where
  abbrev h : ℕ → ℕ
  h = held C T x f

  abbrev offered : ℕ → ℕ
  offered = limited C T f (held C T x f)

  -- a server holds what is free, within the capacity, and what came and was not yet served
  pub held_counts : (t : ℕ) → h t ≡ min (min (f t) (C - so_far T h t)) (upto x (suc t) - upto h t)
  unfolding upto done
  held_counts t =
      one_tick (h t) (offered t) (waiting x offered t) (x t) (upto x t) (upto h t)
      (ap (λ (g : ℕ → ℕ). g t) (held_done C T x f p))
      (ap (λ (g : ℕ → ℕ). waiting x offered t + upto g t) (held_done C T x f p) ∙ waiting_count x offered t)

  pub held_not_free : (t : ℕ) → f t ≡ 0 → h t ≡ 0
  held_not_free t e = omega (arith, held_is_free C T x f t)

  -- ---- nothing is held where all that came was served before, or the budget was used up before

  pub idle_done : (a t : ℕ) → a ≤ t → upto x (suc t) ≤ upto h a → h t ≡ 0
  idle_done a t k l = served_none (h t) (min (f t) (C - so_far T h t)) (upto x (suc t)) (upto h t) (held_counts t) (omega (arith, upto_rises h a t k))

  pub idle_spent : (u a t : ℕ) → u % T ≡ 0 → a ≤ t → t < u → u ≤ a + T → so_far T h a ≡ C → h t ≡ 0
  idle_spent u a t q k l m e =
      spent (h t) (so_far T h t) (so_far T h a) (upto h a) (upto h t) (held_under C T x f p t) (so_far_later T h u a t p q k l m) e (upto_rises h a t k)
    where
      spent : (n s s₀ ua ut : ℕ) → n ≤ C - s → s + ua ≡ s₀ + ut → s₀ ≡ C → ua ≤ ut → n ≡ 0
      spent n s s₀ ua ut a b c d = omega arith

  -- ---- every tick is held that is free, while demand and budget last

  module _ (u a stop budget : ℕ) (turn : u % T ≡ 0) (far : u ≤ a + T) (left : budget + so_far T h a ≡ C) (under : stop ≤ u) (within : stop ≤ a + budget)
      (frees : (t : ℕ) → a ≤ t → t < stop → f t ≡ 1) (comes : (t : ℕ) → a ≤ t → t < stop → upto h a + suc t ≤ a + upto x (suc t)) where
    busy_tick : (t : ℕ) → a ≤ t → t < stop → upto h t + a ≡ upto h a + t → h t ≡ 1
    busy_tick t k l e =
        served_one (h t) (f t) C (so_far T h t) (upto x (suc t)) (upto h t) (held_counts t) (frees t k l)
        (spends (so_far T h t) (so_far T h a) (upto h a) (upto h t) left (so_far_later T h u a t p turn k (omega arith) far) e)
        (omega (arith, comes t k l))
      where
        spends : (s s₀ ua ut : ℕ) → budget + s₀ ≡ C → s + ua ≡ s₀ + ut → ut + a ≡ ua + t → s < C
        spends s s₀ ua ut q r v = omega arith

    busy_count : (t : ℕ) → a ≤ t → t ≤ stop → upto h t + a ≡ upto h a + t
    unfolding upto
    busy_count zero k l = let e : a ≡ 0 = omega arith in rw e
    busy_count (suc t) k l = go (busy_count t) (dec_le a t)
      where
        go : (a ≤ t → t ≤ stop → upto h t + a ≡ upto h a + t) → Dec (a ≤ t) → (upto h t + h t) + a ≡ upto h a + suc t
        go ih (yes q) = let e : upto h t + a ≡ upto h a + t = ih q (omega arith) in omega (arith, busy_tick t q l e)
        go ih (no q) = let e : a ≡ suc t = omega arith in rw e

    pub busy_block : (t : ℕ) → a ≤ t → t < stop → h t ≡ 1
    busy_block t k l = busy_tick t k l (busy_count t k (omega arith))
