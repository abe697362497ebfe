-- Fitting, a piece at a time, as the code does it: supply before the demand is left, and demand that starts in time is served in one
-- stretch. Assumes nothing.
use Prim.Native.Nat.{ℕ, suc, ◌+◌, ◌-◌, ◌≤◌, ◌<◌, min, max}
use mathlib.Core.Path.{◌≡◌, refl, sym, ap, ◌∙◌}
use mathlib.Core.List.{List, [], ◌∷◌}
use native.Mathlib.Omega.{arith}
use native.Mathlib.Decide.{dec_lt}
use borrow.Author.Tests.{lt-ltb, le-ltb}
use Rattle.windows.specs.Windows.{window, join, Fit, leaving, fit}
use Rattle.windows.specs.Walks.{raise, served_first, rest_first, open_first}
use Rattle.windows.proofs.Ticks.{Apart, apart_lower, window_some, window_none, window_apart, join_join, join_gap}
use Rattle.windows.proofs.Fitting.{fit_no_demand, fit_no_supply, fit_part, fitted}

-- ---- what is left over

-- nothing is wanted any more
pub fit_unwanted : (ps pe : ℕ) (s : List ℕ) → fit [] (ps ∷ (pe ∷ s)) ≡ leaving ps pe (fit [] s)
fit_unwanted ps pe s = fit_no_demand (ps ∷ (pe ∷ s)) ∙ ap (leaving ps pe) (sym (fit_no_demand s))

-- nothing is offered any more
pub fit_unserved : (lo qs qe : ℕ) (d : List ℕ) → Apart lo d → fit (qs ∷ (qe ∷ d)) [] ≡ rest_first qs qe (fit d [])
fit_unserved lo qs qe [] p = fit_no_supply qs qe [] ∙ ap (rest_first qs qe) (sym (fit_no_demand []))
fit_unserved lo qs qe (x ∷ []) p = absurd p
fit_unserved lo qs qe (x ∷ (y ∷ d)) p = fit_no_supply qs qe (x ∷ (y ∷ d)) ∙ ap (rest_first qs qe) (sym (fit_no_supply x y d))

-- the supply before the demand is left
pub fit_side : (qs qe ps pe : ℕ) (d s : List ℕ) → ps < qs → qs < pe → fit (qs ∷ (qe ∷ d)) (ps ∷ (pe ∷ s)) ≡ leaving ps qs (fit (qs ∷ (qe ∷ d)) (qs ∷ (pe ∷ s)))
fit_side qs qe ps pe d s h k =
    let a : max qs ps ≡ qs = omega arith in
    let b : max qs qs ≡ qs = omega arith in
    rw (fit_part qs qe ps pe d s k, fit_part qs qe qs pe d s k, a, b)
    (ap (λ (l : List ℕ). record { left = l; served = join qs (qs + n) o.served; rest = o.rest }) (window_some ps qs o.left h)
    ∙ sym (ap (λ (l : List ℕ). record { left = ps ∷ (qs ∷ l); served = join qs (qs + n) o.served; rest = o.rest }) (window_none qs qs o.left (omega arith))))
  where
    n : ℕ
    n = min (qe - qs) (pe - qs)

    o : Fit
    o = fit (window (qs + n) qe d) (window (qs + n) pe s)

-- ---- a stretch: demand is served from `from` on, in a supply window that ends at `end`, and has been up to `till`

pub open_none : (a : ℕ) (o : Fit) → open_first a a o ≡ o
open_none a o = rw (le-ltb a a (omega arith))

-- a part put in front of an open stretch makes it longer
open_join : (from till n : ℕ) (o : Fit) → from ≤ till → 0 < n
    → open_first from till (record { left = o.left; served = join till (till + n) o.served; rest = o.rest }) ≡ open_first from (till + n) o
open_join from till n o h k = go (dec_lt from till)
  where
    go : Dec (from < till) → open_first from till (record { left = o.left; served = join till (till + n) o.served; rest = o.rest }) ≡ open_first from (till + n) o
    go (yes l) = rw (lt-ltb from till l, lt-ltb from (till + n) (omega arith), join_join from till (till + n) o.served (omega arith))
    go (no l) =
        let e : till ≡ from = omega arith in
        rw (e, le-ltb from from (omega arith), lt-ltb from (from + n) (omega arith))

-- one part of the first demand window, as long as both allow
module _ (from till end q e : ℕ) (d s : List ℕ) (h : from ≤ till) (k : q ≤ till) (w : till < end) (z : q < e) where
  abbrev n : ℕ
  n = min (e - q) (end - till)

  stretch_part : open_first from till (fit (q ∷ (e ∷ d)) (window till end s)) ≡ open_first from (till + n) (fit (window (q + n) e d) (window (till + n) end s))
  stretch_part =
      let a : max q till ≡ till = omega arith in
      let o = fit (window (q + n) e d) (window (till + n) end s) in
      rw (window_some till end s w, fit_part q e till end d s (omega arith), a, window_none till till o.left (omega arith))
      (open_join from till n o h (omega arith))

  -- the window is served whole
  pub stretch_whole : e - q ≤ end - till
      → open_first from till (fit (q ∷ (e ∷ d)) (window till end s)) ≡ open_first from (till + (e - q)) (fit d (window (till + (e - q)) end s))
  stretch_whole l =
      let m : n ≡ e - q = omega arith in
      rw (m, window_none (q + (e - q)) e d (omega arith)) at stretch_part

  -- the supply window is used up
  pub stretch_over : end - till < e - q
      → open_first from till (fit (q ∷ (e ∷ d)) (window till end s)) ≡ open_first from end (fit ((q + (end - till)) ∷ (e ∷ d)) s)
  stretch_over l =
      let m : n ≡ end - till = omega arith in
      let x : till + (end - till) ≡ end = omega arith in
      rw (m, x, window_some (q + (end - till)) e d (omega arith), window_none end end s (omega arith)) at stretch_part

-- it was used up before
pub stretch_none : (end q e : ℕ) (d s : List ℕ) → fit (q ∷ (e ∷ d)) (window end end s) ≡ fit ((q + (end - end)) ∷ (e ∷ d)) s
stretch_none end q e d s =
    let m : q + (end - end) ≡ q = omega arith in
    rw (m, window_none end end s (omega arith))

-- a stretch ends where the supply window does, or before the next demand starts
pub stretch_stop : (from till : ℕ) (o : Fit) → from < till → Apart (suc till) o.served → open_first from till o ≡ served_first from till o
stretch_stop from till o h p = rw (lt-ltb from till h, join_gap from till o.served p)

pub later_demand : (till end : ℕ) (d s : List ℕ) → Apart (suc till) d → Apart (suc end) s → Apart (suc till) (fit d (window till end s)).served
later_demand till end d s p q =
    let a : Apart 0 (window till end s) = window_apart 0 till end s (omega arith) q (apart_lower (suc end) 0 s (omega arith) q) in
    apart_lower (max (suc till) 0) (suc till) (fit d (window till end s)).served (omega arith) (fitted d (window till end s) (suc till) 0 p a).served_apart

pub later_supply : (end : ℕ) (d s : List ℕ) → Apart 0 d → Apart (suc end) s → Apart (suc end) (fit d s).served
later_supply end d s p q = apart_lower (max 0 (suc end)) (suc end) (fit d s).served (omega arith) (fitted d s 0 (suc end) p q).served_apart

-- ---- the first window of what is left

pub raise_none : (l : List ℕ) → raise 0 l ≡ l
unfolding raise
raise_none [] = refl
raise_none (s ∷ []) = refl
raise_none (s ∷ (e ∷ r)) = let z : max s 0 ≡ s = omega arith in rw z
