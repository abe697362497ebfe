-- Work served by a supply, a window at a time: what fitting is made of. Assumes nothing.
use Prim.Native.Nat.{ℕ, suc, ◌+◌, ◌-◌, ◌≤◌, ◌<◌, min}
use mathlib.Core.Path.{◌≡◌, sym, ap, ◌∙◌, fun_ext}
use mathlib.Core.List.{List, ◌∷◌}
use native.Mathlib.Omega.{arith}
use native.Mathlib.Decide.{dec_lt}
use Rattle.windows.specs.Windows.{inside, cover, window, upto, done, ◌⊕◌}
use Rattle.windows.proofs.Ticks.{inside_early, inside_late, inside_none, inside_split, Apart, cover_before, window_cover}
use Rattle.windows.proofs.Counts.{upto_none, upto_inside}
use Rattle.windows.proofs.Queue.{done_serves, serves_done, in_turn}

-- ---- supply that ends before any work comes is not used

module _ (x s : ℕ → ℕ) (a e : ℕ) (quiet : (u : ℕ) → u < e → x u ≡ 0) where
  unused_busy : (t : ℕ) → done x s t < inside a e t + s t → upto (done x s) (suc t) ≡ upto x (suc t)
  unused_busy t h = go (dec_lt t e)
    where
      go : Dec (t < e) → upto (done x s) (suc t) ≡ upto x (suc t)
      go (yes k) = omega (arith, (done_serves x s).causal (suc t), upto_none x e quiet (suc t) k)
      go (no k) = (done_serves x s).busy t (omega (arith, inside_late a e t (omega arith)))

  pub unused : done x s ≡ done x (inside a e ⊕ s)
  unused = serves_done x (inside a e ⊕ s) (done x s) (record {
    within = λ t. omega (arith, (done_serves x s).within t);
    causal = (done_serves x s).causal;
    busy = unused_busy;
  })

-- ---- n units that come from q on are served from a on, if a supply of n ticks starts there and nothing is offered before

later : (q a n t : ℕ) → q ≤ a → min t (a + n) - min t a ≤ min t (q + n) - min t q
later q a n t h = omega arith

both : (q a n t : ℕ) → q ≤ a → a + n ≤ t → min t (a + n) - min t a ≡ min t (q + n) - min t q
both q a n t h k = omega arith

module _ (s : ℕ → ℕ) (q a n : ℕ) (order : q ≤ a) (quiet : (u : ℕ) → u < a + n → s u ≡ 0) where
  first_busy : (t : ℕ) → inside a (a + n) t < inside a (a + n) t + s t → upto (inside a (a + n)) (suc t) ≡ upto (inside q (q + n)) (suc t)
  first_busy t h = go (dec_lt t (a + n))
    where
      go : Dec (t < a + n) → upto (inside a (a + n)) (suc t) ≡ upto (inside q (q + n)) (suc t)
      go (yes k) = absurd (omega (arith, quiet t k))
      go (no k) = upto_inside a (a + n) (suc t) ∙ both q a n (suc t) order (omega arith) ∙ sym (upto_inside q (q + n) (suc t))

  first_served : done (inside q (q + n)) (inside a (a + n) ⊕ s) ≡ inside a (a + n)
  first_served = sym (serves_done (inside q (q + n)) (inside a (a + n) ⊕ s) (inside a (a + n)) (record {
    within = λ t. omega arith;
    causal = λ t. omega (arith, upto_inside a (a + n) t, upto_inside q (q + n) t, later q a n t order);
    busy = first_busy;
  }))

  -- and all later work is served by what is offered later
  pub part_served : (x : ℕ → ℕ) → done (inside q (q + n) ⊕ x) (inside a (a + n) ⊕ s) ≡ inside a (a + n) ⊕ done x s
  part_served x =
      in_turn (inside q (q + n)) x (inside a (a + n) ⊕ s)
      ∙ ap (λ (r : ℕ → ℕ). r ⊕ done x (λ t. (inside a (a + n) t + s t) - r t)) first_served
      ∙ ap (λ (v : ℕ → ℕ). inside a (a + n) ⊕ done x v) (fun_ext (λ t. omega arith))

-- ---- the same of curves

-- the first supply window ends before the demand starts
pub leaving_served : (d s : List ℕ) (lo ps pe : ℕ) → Apart lo d → pe ≤ lo → done (cover d) (cover (ps ∷ (pe ∷ s))) ≡ done (cover d) (cover s)
unfolding cover
leaving_served d s lo ps pe p h = sym (unused (cover d) (cover s) ps pe (λ u k. cover_before d lo u p (omega arith)))

-- n ticks are served from a on, the later of the two starts
module _ (d s : List ℕ) (qs qe ps pe n : ℕ) (fd : qs + n ≤ qe) (pd : Apart (suc qe) d) (pp : Apart (suc pe) s) where
  pub demand_parts : cover (qs ∷ (qe ∷ d)) ≡ inside qs (qs + n) ⊕ cover (window (qs + n) qe d)
  unfolding cover
  demand_parts =
      ap (λ (f : ℕ → ℕ). f ⊕ cover d) (inside_split qs (qs + n) qe (omega arith) fd)
      ∙ fun_ext (λ t. omega arith)
      ∙ ap (λ (f : ℕ → ℕ). inside qs (qs + n) ⊕ f) (sym (window_cover (qs + n) qe d))

  supply_parts : (a : ℕ) → ps ≤ a → a + n ≤ pe → cover (ps ∷ (pe ∷ s)) ≡ inside ps a ⊕ (inside a (a + n) ⊕ cover (window (a + n) pe s))
  unfolding cover
  supply_parts a h k =
      ap (λ (f : ℕ → ℕ). f ⊕ cover s) (inside_split ps a pe h (omega arith) ∙ ap (λ (f : ℕ → ℕ). inside ps a ⊕ f) (inside_split a (a + n) pe (omega arith) k))
      ∙ fun_ext (λ t. omega arith)
      ∙ ap (λ (f : ℕ → ℕ). inside ps a ⊕ (inside a (a + n) ⊕ f)) (sym (window_cover (a + n) pe s))

  quiet_until : (a : ℕ) → a + n ≤ pe → (u : ℕ) → u < a + n → cover (window (a + n) pe s) u ≡ 0
  quiet_until a k u h = ap (λ (f : ℕ → ℕ). f u) (window_cover (a + n) pe s) ∙ omega (arith, inside_early (a + n) pe u h, cover_before s (suc pe) u pp (omega arith))

  pub window_served : (a : ℕ) → qs < qe → qs ≤ a → ps ≤ a → a + n ≤ pe → (ps < a → a ≡ qs)
      → done (cover (qs ∷ (qe ∷ d))) (cover (ps ∷ (pe ∷ s))) ≡ inside a (a + n) ⊕ done (cover (window (qs + n) qe d)) (cover (window (a + n) pe s))
  window_served a z h h' k e =
      ap (done (cover (qs ∷ (qe ∷ d)))) (supply_parts a h' k)
      ∙ skip (dec_lt ps a)
      ∙ ap (λ (f : ℕ → ℕ). done f (inside a (a + n) ⊕ cover (window (a + n) pe s))) demand_parts
      ∙ part_served (cover (window (a + n) pe s)) qs a n h (quiet_until a k) (cover (window (qs + n) qe d))
    where
      skip : Dec (ps < a) → done (cover (qs ∷ (qe ∷ d))) (inside ps a ⊕ (inside a (a + n) ⊕ cover (window (a + n) pe s)))
          ≡ done (cover (qs ∷ (qe ∷ d))) (inside a (a + n) ⊕ cover (window (a + n) pe s))
      skip (yes l) =
          sym (unused (cover (qs ∷ (qe ∷ d))) (inside a (a + n) ⊕ cover (window (a + n) pe s)) ps a
          (λ u m. cover_before (qs ∷ (qe ∷ d)) qs u (omega arith, z, pd) (omega (arith, e l))))
      skip (no l) = ap (done (cover (qs ∷ (qe ∷ d)))) (fun_ext (λ t. omega (arith, inside_none ps a t (omega arith))))
