-- Time to provide, by ticks and by windows. Assumes nothing.
use Prim.Native.Nat.{ℕ, zero, suc, ◌+◌, ◌-◌, ◌≤◌, ◌<◌}
use mathlib.Core.Path.{◌≡◌, refl, ap}
use mathlib.Core.List.{List, [], ◌∷◌}
use mathlib.Core.Bool.{Bool, true, false}
use native.Mathlib.Omega.{arith}
use native.Mathlib.Decide.{dec_le, ℕ_discrete}
use lib.Dec.{leb, eqb}
use borrow.Author.Tests.{leb-true, leb-false, eqb-true, eqb-false}
use Rattle.std.specs.Prelude.{Option, Some, None}
use Rattle.basics.specs.Choice.{pick}
use Rattle.windows.specs.Windows.{cover, end_of, upto, first_given, provide}
use Rattle.windows.specs.Walks.{walk}
use Rattle.windows.proofs.Ticks.{Apart, cover_one}
use Rattle.windows.proofs.Counts.{upto_rises, count_cover, count_early, count_all}

-- i is the first instant at which f has given n
pub record First (f : ℕ → ℕ) (n i : ℕ) : Type 0 where
  pub given : upto f i ≡ n
  pub sooner : (j : ℕ) → j < i → upto f j < n

-- what an answer says
abbrev pub Says : (ℕ → ℕ) → ℕ → Option ℕ → Type 0
Says f n (Some i) = First f n i
Says f n None = (j : ℕ) → upto f j < n

first_once : (f : ℕ → ℕ) (n i j : ℕ) → First f n i → First f n j → i ≡ j
first_once f n i j a b =
    let p : ¬ (i < j) = λ h. omega (arith, b.sooner i h, a.given) in
    let q : ¬ (j < i) = λ h. omega (arith, a.sooner j h, b.given) in
    omega arith

pub says_once : (f : ℕ → ℕ) (n : ℕ) (x y : Option ℕ) → Says f n x → Says f n y → x ≡ y
says_once f n (Some i) (Some j) a b = ap Some (first_once f n i j a b)
says_once f n (Some i) None a b = absurd (omega (arith, b i, a.given))
says_once f n None (Some j) a b = absurd (omega (arith, a j, b.given))
says_once f n None None a b = refl

-- ---- by ticks

module _ (l : List ℕ) (n lo : ℕ) (p : Apart lo l) (z : 0 < n) where
  -- a curve gives one tick at most at a time, and no more than its length
  one_more : (t : ℕ) → upto (cover l) (suc t) ≤ upto (cover l) t + 1
  unfolding upto
  one_more t = omega (arith, cover_one l lo t p)

  given_most : (j : ℕ) → upto (cover l) j ≤ upto (cover l) (end_of l)
  given_most j = go (dec_le j (end_of l))
    where
      go : Dec (j ≤ end_of l) → upto (cover l) j ≤ upto (cover l) (end_of l)
      go (yes h) = upto_rises (cover l) j (end_of l) h
      go (no h) = omega (arith, count_all l lo j p (omega arith), count_all l lo (end_of l) p (omega arith))

  -- where less than n was given before t, no more than n is at t
  not_over : (t : ℕ) → ((j : ℕ) → j < t → upto (cover l) j < n) → upto (cover l) t ≤ n
  unfolding upto
  not_over zero q = omega arith
  not_over (suc t) q = omega (arith, one_more t, q t (omega arith))

  search_says : (k t : ℕ) → ((j : ℕ) → j < t → upto (cover l) j < n) → end_of l < t + k → Says (cover l) n (first_given l n k t)
  unfolding first_given
  search_says zero t q h = λ j. omega (arith, given_most j, q (end_of l) (omega arith))
  search_says (suc k) t q h = go (eqb (upto (cover l) t) n) refl (search_says k (suc t))
    where
      go : (b : Bool) → eqb (upto (cover l) t) n ≡ b
          → (((j : ℕ) → j < suc t → upto (cover l) j < n) → end_of l < suc t + k → Says (cover l) n (first_given l n k (suc t)))
          → Says (cover l) n (pick b (Some t) (first_given l n k (suc t)))
      go true e ih = record { given = eqb-true (upto (cover l) t) n e; sooner = q }
      go false e ih = ih (λ j i. so_far j i (ℕ_discrete j t)) (omega arith)
        where
          so_far : (j : ℕ) → j < suc t → Dec (j ≡ t) → upto (cover l) j < n
          so_far j i (yes d) =
              let w : ¬ (upto (cover l) t ≡ n) = eqb-false (upto (cover l) t) n e in
              rw d (omega (arith, not_over t q))
          so_far j i (no d) = q j (omega arith)

  pub provide_says : Says (cover l) n (provide l n)
  provide_says = search_says (suc (end_of l)) 0 (λ j i. absurd (omega arith)) (omega arith)

  -- "time to provide n is t exactly when the curve covers n ticks below t and tick t - 1 is covered"
  pub provide_reached : (t : ℕ) → provide l n ≡ Some t → (upto (cover l) t ≡ n) × (cover l (t - 1) ≡ 1)
  unfolding upto
  provide_reached t e = go t (rw e at provide_says)
    where
      go : (t : ℕ) → First (cover l) n t → (upto (cover l) t ≡ n) × (cover l (t - 1) ≡ 1)
      go zero f = absurd (omega (arith, f.given))
      go (suc u) f =
          let d : suc u - 1 ≡ u = omega arith in
          (f.given, rw d (omega (arith, f.given, f.sooner u (omega arith), cover_one l lo u p)))

  pub reached_provide : (t : ℕ) → upto (cover l) t ≡ n → cover l (t - 1) ≡ 1 → provide l n ≡ Some t
  unfolding upto
  reached_provide t a b = says_once (cover l) n (provide l n) (Some t) provide_says (record { given = a; sooner = λ j h. go t a b h })
    where
      go : {j : ℕ} (t : ℕ) → upto (cover l) t ≡ n → cover l (t - 1) ≡ 1 → j < t → upto (cover l) j < n
      go zero a b h = absurd (omega arith)
      go {j} (suc u) a b h =
          let d : suc u - 1 ≡ u = omega arith in
          let w : cover l u ≡ 1 = rw d at b in
          omega (arith, upto_rises (cover l) j u (omega arith))

-- ---- window after window

-- an instant of the rest is past this window
later : (s e n i : ℕ) (r : List ℕ) → s < e → Apart (suc e) r → e - s < n → First (cover r) (n - (e - s)) i → First (cover (s ∷ (e ∷ r))) n i
later s e n i r h p k f = record { given = here (dec_le i (suc e)); sooner = λ j q. omega (arith, f.sooner j q, count_cover s e r j h) }
  where
    here : Dec (i ≤ suc e) → upto (cover (s ∷ (e ∷ r))) i ≡ n
    here (yes q) = absurd (omega (arith, f.given, count_early r (suc e) i p q))
    here (no q) = omega (arith, f.given, count_cover s e r i h)

later_says : (s e n : ℕ) (r : List ℕ) (x : Option ℕ) → s < e → Apart (suc e) r → e - s < n → Says (cover r) (n - (e - s)) x → Says (cover (s ∷ (e ∷ r))) n x
later_says s e n r (Some i) h p k f = later s e n i r h p k f
later_says s e n r None h p k f = λ j. omega (arith, f j, count_cover s e r j h)

-- an instant in this window
here_says : (s e n : ℕ) (r : List ℕ) → s < e → Apart (suc e) r → 0 < n → n ≤ e - s → First (cover (s ∷ (e ∷ r))) n (s + n)
here_says s e n r h p z k = record {
  given = omega (arith, count_cover s e r (s + n) h, count_early r (suc e) (s + n) p (omega arith));
  sooner = λ j q. omega (arith, count_cover s e r j h, count_early r (suc e) j p (omega arith));
}

walk_says : (l : List ℕ) (lo n : ℕ) → Apart lo l → 0 < n → Says (cover l) n (walk l n)
unfolding walk
walk_says [] lo n p z = λ j. omega (arith, count_early [] j j tt (omega arith))
walk_says (s ∷ []) lo n p z = absurd p
walk_says (s ∷ (e ∷ r)) lo n p z = go (leb n (e - s)) refl (λ k. walk_says r (suc e) (n - (e - s)) p.2 (omega arith))
  where
    go : (b : Bool) → leb n (e - s) ≡ b → (e - s < n → Says (cover r) (n - (e - s)) (walk r (n - (e - s))))
        → Says (cover (s ∷ (e ∷ r))) n (pick b (Some (s + n)) (walk r (n - (e - s))))
    go true q ih = here_says s e n r p.1 p.2 z (leb-true n (e - s) q)
    go false q ih = let k : e - s < n = leb-false n (e - s) q in later_says s e n r (walk r (n - (e - s))) p.1 p.2 k (ih k)

-- what the code's walk finds is the time to provide
pub walk_is : (l : List ℕ) (n : ℕ) → Apart 0 l → 0 < n → walk l n ≡ provide l n
walk_is l n p z = says_once (cover l) n (walk l n) (provide l n) (walk_says l 0 n p z) (provide_says l n 0 p z)
