-- The ticks that windows cover, windows that stand apart, and that these are determined by the ticks they cover. Assumes nothing.
use Prim.Native.Nat.{ℕ, suc, ◌+◌, ◌-◌, ◌≤◌, ◌<◌, min}
use mathlib.Core.Path.{◌≡◌, refl, sym, ap, ap₂, fun_ext}
use mathlib.Core.List.{List, [], ◌∷◌}
use mathlib.Core.Bool.{Bool, true, false, ◌&&◌, and-false}
use native.Mathlib.Omega.{arith}
use native.Mathlib.Numerals.{add-one}
use native.Mathlib.Decide.{dec_le, dec_lt}
use lib.Dec.{leb, ltb, eqb}
use borrow.Author.Tests.{leb-true, le-leb, lt-leb, ltb-true, lt-ltb, le-ltb, eqb-true, eqb-false, eq-eqb, ne_eqb}
use Rattle.basics.proofs.Tests.{and_left, and_right}
use Rattle.basics.specs.Choice.{pick}
use Rattle.windows.specs.Windows.{inside, cover, size, end_of, plain_from, is_plain, window, join, ◌⊕◌}

-- ---- one window

pub inside_yes : (s e t : ℕ) → s ≤ t → t < e → inside s e t ≡ 1
unfolding inside
inside_yes s e t h k = rw (le-leb s t h, lt-ltb t e k)

pub inside_early : (s e t : ℕ) → t < s → inside s e t ≡ 0
unfolding inside
inside_early s e t h = rw (lt-leb s t h)

pub inside_late : (s e t : ℕ) → e ≤ t → inside s e t ≡ 0
unfolding inside
inside_late s e t h = rw (le-ltb t e h, and-false)

-- the test as a number that omega reads
pub inside_is : (s e t : ℕ) → inside s e t ≡ min 1 (suc t - s) - min 1 (suc t - e)
inside_is s e t = go (dec_le s t) (dec_lt t e)
  where
    go : Dec (s ≤ t) → Dec (t < e) → inside s e t ≡ min 1 (suc t - s) - min 1 (suc t - e)
    go (yes h) (yes k) = omega (arith, inside_yes s e t h k)
    go (yes h) (no k) = omega (arith, inside_late s e t (omega arith))
    go (no h) k = omega (arith, inside_early s e t (omega arith))

pub inside_one : (s e t : ℕ) → inside s e t ≤ 1
inside_one s e t = omega (arith, inside_is s e t)

pub inside_none : (a b t : ℕ) → b ≤ a → inside a b t ≡ 0
inside_none a b t h = omega (arith, inside_is a b t)

-- a window parted at b
pub inside_split : (a b c : ℕ) → a ≤ b → b ≤ c → inside a c ≡ inside a b ⊕ inside b c
inside_split a b c h k = fun_ext (λ t. go t (dec_lt t b) (dec_le a t) (dec_lt t c))
  where
    go : (t : ℕ) → Dec (t < b) → Dec (a ≤ t) → Dec (t < c) → inside a c t ≡ inside a b t + inside b c t
    go t (yes p) (yes q) r = omega (arith, inside_yes a c t q (omega arith), inside_yes a b t q p, inside_early b c t p)
    go t (yes p) (no q) r = omega (arith, inside_early a c t (omega arith), inside_early a b t (omega arith), inside_early b c t p)
    go t (no p) q (yes r) = omega (arith, inside_yes a c t (omega arith) r, inside_late a b t (omega arith), inside_yes b c t (omega arith) r)
    go t (no p) q (no r) = omega (arith, inside_late a c t (omega arith), inside_late a b t (omega arith), inside_late b c t (omega arith))

-- ---- windows that stand apart: none is empty, each ends before the next starts, and none starts before lo

abbrev pub Apart : ℕ → List ℕ → Type 0
Apart lo [] = Unit {0}
Apart lo (s ∷ []) = ⊥
Apart lo (s ∷ (e ∷ r)) = (lo ≤ s) × (s < e) × Apart (suc e) r

pub apart_lower : (lo less : ℕ) (l : List ℕ) → less ≤ lo → Apart lo l → Apart less l
apart_lower lo less [] h p = tt
apart_lower lo less (s ∷ []) h p = p
apart_lower lo less (s ∷ (e ∷ r)) h p = (omega arith, p.1, p.2)

pub cover_before : (l : List ℕ) (lo t : ℕ) → Apart lo l → t < lo → cover l t ≡ 0
unfolding cover
cover_before [] lo t p h = refl
cover_before (s ∷ []) lo t p h = refl
cover_before (s ∷ (e ∷ r)) lo t p h = omega (arith, inside_early s e t (omega arith), cover_before r (suc e) t p.2 (omega arith))

pub cover_one : (l : List ℕ) (lo t : ℕ) → Apart lo l → cover l t ≤ 1
unfolding cover
cover_one [] lo t p = omega arith
cover_one (s ∷ []) lo t p = omega arith
cover_one (s ∷ (e ∷ r)) lo t p = go (cover_one r (suc e) t p.2) (dec_lt t e)
  where
    go : cover r t ≤ 1 → Dec (t < e) → inside s e t + cover r t ≤ 1
    go ih (yes h) = omega (arith, inside_one s e t, cover_before r (suc e) t p.2 (omega arith))
    go ih (no h) = omega (arith, inside_late s e t (omega arith))

-- the end is behind every window
pub end_above : (lo s e : ℕ) (r : List ℕ) → Apart lo (s ∷ (e ∷ r)) → e ≤ end_of (s ∷ (e ∷ r))
unfolding end_of
end_above lo s e [] p = omega arith
end_above lo s e (c ∷ []) p = absurd p.2
end_above lo s e (c ∷ (d ∷ r)) p = omega (arith, p.2.0, p.2.1, end_above (suc e) c d r p.2)

pub end_rest : (lo s e : ℕ) (r : List ℕ) → Apart lo (s ∷ (e ∷ r)) → end_of r ≤ end_of (s ∷ (e ∷ r))
unfolding end_of
end_rest lo s e [] p = omega arith
end_rest lo s e (c ∷ []) p = absurd p.2
end_rest lo s e (c ∷ (d ∷ r)) p = omega arith

pub cover_after : (l : List ℕ) (lo t : ℕ) → Apart lo l → end_of l ≤ t → cover l t ≡ 0
unfolding cover
cover_after [] lo t p h = refl
cover_after (s ∷ []) lo t p h = refl
cover_after (s ∷ (e ∷ r)) lo t p h =
    omega (arith, inside_late s e t (omega (arith, end_above lo s e r p)), cover_after r (suc e) t p.2 (omega (arith, end_rest lo s e r p)))

-- a curve that covers nothing from hi on ends at hi or before
pub end_below : (l : List ℕ) (lo hi : ℕ) → Apart lo l → ((t : ℕ) → hi ≤ t → cover l t ≡ 0) → end_of l ≤ hi
unfolding cover end_of
end_below [] lo hi p h = omega arith
end_below (s ∷ []) lo hi p h = absurd p
end_below (s ∷ (e ∷ [])) lo hi p h = go (dec_lt hi e)
  where
    go : Dec (hi < e) → e ≤ hi
    go (yes k) = absurd (omega (arith, h (e - 1) (omega arith), inside_yes s e (e - 1) (omega arith) (omega arith)))
    go (no k) = omega arith
end_below (s ∷ (e ∷ (c ∷ r))) lo hi p h = end_below (c ∷ r) (suc e) hi p.2 (λ t k. omega (arith, h t k))

-- ---- two curves that stand apart and cover the same ticks are the same list

-- the first window of one does not start, and does not end, before that of the other
not_before : (s e s' : ℕ) (a b : List ℕ) → s < e → Apart s' b → inside s e s + cover a s ≡ cover b s → ¬ (s < s')
not_before s e s' a b k q h l = omega (arith, inside_yes s e s (omega arith) k, cover_before b s' s q l)

not_shorter : (s e s' e' : ℕ) (a b : List ℕ) → s' ≤ e → Apart (suc e) a → inside s e e + cover a e ≡ inside s' e' e + cover b e → ¬ (e < e')
not_shorter s e s' e' a b k p h l = omega (arith, inside_late s e e (omega arith), inside_yes s' e' e k l, cover_before a (suc e) e p (omega arith))

pub apart_same : (a b : List ℕ) (lo : ℕ) → Apart lo a → Apart lo b → ((t : ℕ) → cover a t ≡ cover b t) → a ≡ b
unfolding cover
apart_same [] [] lo p q h = refl
apart_same [] (s ∷ []) lo p q h = absurd q
apart_same [] (s ∷ (e ∷ b)) lo p q h = absurd (omega (arith, h s, inside_yes s e s (omega arith) q.1))
apart_same (s ∷ []) b lo p q h = absurd p
apart_same (s ∷ (e ∷ a)) [] lo p q h = absurd (omega (arith, h s, inside_yes s e s (omega arith) p.1))
apart_same (s ∷ (e ∷ a)) (s' ∷ []) lo p q h = absurd q
apart_same (s ∷ (e ∷ a)) (s' ∷ (e' ∷ b)) lo p q h =
    let es : s ≡ s' = omega (arith, not_before s e s' a (s' ∷ (e' ∷ b)) p.1 (omega arith, q.1, q.2) (h s), not_before s' e' s b (s ∷ (e ∷ a)) q.1 (omega arith, p.1, p.2) (sym (h s'))) in
    let ee : e ≡ e' = omega (arith, not_shorter s e s' e' a b (omega arith) p.2 (h e), not_shorter s' e' s e b a (omega arith) q.2 (sym (h e'))) in
    let r : a ≡ b = apart_same a b (suc e) p.2 (rw ee q.2) (λ t. omega (arith, h t, ap₂ (λ u v. inside u v t) es ee)) in
    cc

-- ---- a plain curve stands apart and ends at 1,000,000 or before

-- what a plain curve has at its front
pub record Front (low s e : ℕ) (r : List ℕ) : Type 0 where
  pub after : low ≤ s
  pub rises : s < e
  pub bounded : e ≤ 1000000
  pub rest : plain_from (e + 1) r ≡ true

pub plain_front : (low s e : ℕ) (r : List ℕ) → plain_from low (s ∷ (e ∷ r)) ≡ true → Front low s e r
unfolding plain_from
plain_front low s e r q =
    let q₁ = and_right (leb low s) (ltb s e && (leb e 1000000 && plain_from (e + 1) r)) q in
    let q₂ = and_right (ltb s e) (leb e 1000000 && plain_from (e + 1) r) q₁ in
    record {
      after = leb-true low s (and_left (leb low s) _ q);
      rises = ltb-true s e (and_left (ltb s e) _ q₁);
      bounded = leb-true e 1000000 (and_left (leb e 1000000) _ q₂);
      rest = and_right (leb e 1000000) (plain_from (e + 1) r) q₂;
    }

pub front_plain : (low s e : ℕ) (r : List ℕ) → Front low s e r → plain_from low (s ∷ (e ∷ r)) ≡ true
unfolding plain_from
front_plain low s e r f = rw (le-leb low s f.after, lt-ltb s e f.rises, le-leb e 1000000 f.bounded) f.rest

pub not_odd : (low s : ℕ) → plain_from low (s ∷ []) ≡ true → ⊥
unfolding plain_from
not_odd low s h = let z : ◌≡◌ {A = ℕ} 0 1 = cc in omega arith

pub plain_apart : (low : ℕ) (l : List ℕ) → plain_from low l ≡ true → Apart low l
plain_apart low [] h = tt
plain_apart low (s ∷ []) h = not_odd low s h
plain_apart low (s ∷ (e ∷ r)) h =
    let f = plain_front low s e r h in
    (f.after, f.rises, plain_apart (suc e) r (rw add-one at f.rest))

pub plain_end : (low : ℕ) (l : List ℕ) → plain_from low l ≡ true → end_of l ≤ 1000000
unfolding end_of
plain_end low [] h = omega arith
plain_end low (s ∷ []) h = absurd (not_odd low s h)
plain_end low (s ∷ (e ∷ [])) h = (plain_front low s e [] h).bounded
plain_end low (s ∷ (e ∷ (c ∷ r))) h = plain_end (e + 1) (c ∷ r) (plain_front low s e (c ∷ r) h).rest

pub apart_plain : (low : ℕ) (l : List ℕ) → Apart low l → end_of l ≤ 1000000 → plain_from low l ≡ true
unfolding plain_from
apart_plain low [] p h = refl
apart_plain low (s ∷ []) p h = absurd p
apart_plain low (s ∷ (e ∷ r)) p h =
    let b : e ≤ 1000000 = omega (arith, end_above low s e r p) in
    rw (le-leb low s p.0, lt-ltb s e p.1, le-leb e 1000000 b, add-one)
    (apart_plain (suc e) r p.2 (omega (arith, end_rest low s e r p)))

-- two plain curves that cover the same ticks are equal
pub plain_same : (a b : List ℕ) → is_plain a ≡ true → is_plain b ≡ true → ((t : ℕ) → cover a t ≡ cover b t) → a ≡ b
plain_same a b p q h = apart_same a b 0 (plain_apart 0 a p) (plain_apart 0 b q) h

pub plain_lower : (low less : ℕ) (l : List ℕ) → less ≤ low → plain_from low l ≡ true → plain_from less l ≡ true
plain_lower low less l k h = apart_plain less l (apart_lower low less l k (plain_apart low l h)) (plain_end low l h)

-- ---- a window in front of a curve

pub window_some : (a b : ℕ) (l : List ℕ) → a < b → window a b l ≡ a ∷ (b ∷ l)
unfolding window
window_some a b l h = rw (lt-ltb a b h)

pub window_none : (a b : ℕ) (l : List ℕ) → b ≤ a → window a b l ≡ l
unfolding window
window_none a b l h = rw (le-ltb a b h)

pub window_cover : (a b : ℕ) (l : List ℕ) → cover (window a b l) ≡ inside a b ⊕ cover l
unfolding cover
window_cover a b l = go (dec_lt a b)
  where
    go : Dec (a < b) → cover (window a b l) ≡ inside a b ⊕ cover l
    go (yes h) = rw (window_some a b l h)
    go (no h) = rw (window_none a b l (omega arith)) (fun_ext (λ t. omega (arith, inside_none a b t (omega arith))))

pub window_apart : (lo a b : ℕ) (l : List ℕ) → lo ≤ a → Apart (suc b) l → Apart lo l → Apart lo (window a b l)
window_apart lo a b l h p q = go (dec_lt a b)
  where
    go : Dec (a < b) → Apart lo (window a b l)
    go (yes k) = rw (window_some a b l k) (h, k, p)
    go (no k) = rw (window_none a b l (omega arith)) q

pub join_touch : (a b e : ℕ) (r : List ℕ) → join a b (b ∷ (e ∷ r)) ≡ a ∷ (e ∷ r)
unfolding join
join_touch a b e r = rw (eq-eqb b b refl)

pub join_apart : (lo a b : ℕ) (l : List ℕ) → lo ≤ a → a < b → Apart b l → Apart lo (join a b l)
unfolding join
join_apart lo a b [] h k p = (h, k, tt)
join_apart lo a b (s ∷ []) h k p = absurd p
join_apart lo a b (s ∷ (e ∷ r)) h k p = go (eqb b s) refl
  where
    go : (x : Bool) → eqb b s ≡ x → Apart lo (pick x (a ∷ (e ∷ r)) (a ∷ (b ∷ (s ∷ (e ∷ r)))))
    go true q = (h, omega arith, p.2)
    go false q = let z : ¬ (b ≡ s) = eqb-false b s q in (h, k, (omega arith, p.1, p.2))

pub join_gap : (a b : ℕ) (l : List ℕ) → Apart (suc b) l → join a b l ≡ a ∷ (b ∷ l)
unfolding join
join_gap a b [] p = refl
join_gap a b (s ∷ []) p = absurd p
join_gap a b (s ∷ (e ∷ r)) p = rw (ne_eqb b s (λ z. omega arith))

pub join_cover : (a b : ℕ) (l : List ℕ) → a < b → Apart b l → cover (join a b l) ≡ inside a b ⊕ cover l
unfolding join cover
join_cover a b [] k p = refl
join_cover a b (s ∷ []) k p = absurd p
join_cover a b (s ∷ (e ∷ r)) k p = fun_ext (λ t. go t (eqb b s) refl)
  where
    go : (t : ℕ) (x : Bool) → eqb b s ≡ x → cover (pick x (a ∷ (e ∷ r)) (a ∷ (b ∷ (s ∷ (e ∷ r))))) t ≡ inside a b t + (inside s e t + cover r t)
    go t true q =
        let z : b ≡ s = eqb-true b s q in
        omega (arith, ap (λ (f : ℕ → ℕ). f t) (inside_split a b e (omega arith) (omega arith)), ap (λ (y : ℕ). inside y e t) z)
    go t false q = refl

pub join_size : (a b : ℕ) (l : List ℕ) → a < b → Apart b l → size (join a b l) ≡ (b - a) + size l
unfolding join size
join_size a b [] k p = refl
join_size a b (s ∷ []) k p = absurd p
join_size a b (s ∷ (e ∷ r)) k p = go (eqb b s) refl
  where
    go : (x : Bool) → eqb b s ≡ x → size (pick x (a ∷ (e ∷ r)) (a ∷ (b ∷ (s ∷ (e ∷ r))))) ≡ (b - a) + ((e - s) + size r)
    go true q = omega (arith, eqb-true b s q)
    go false q = refl

-- two windows joined one after the other
pub join_join : (a b c : ℕ) (l : List ℕ) → b < c → join a b (join b c l) ≡ join a c l
unfolding join
join_join a b c [] h = rw (eq-eqb b b refl)
join_join a b c (s ∷ []) h = rw (eq-eqb b b refl)
join_join a b c (s ∷ (e ∷ r)) h = go (eqb c s)
  where
    go : (x : Bool) → join a b (pick x (b ∷ (e ∷ r)) (b ∷ (c ∷ (s ∷ (e ∷ r))))) ≡ pick x (a ∷ (e ∷ r)) (a ∷ (c ∷ (s ∷ (e ∷ r))))
    go true = join_touch a b e r
    go false = join_touch a b c (s ∷ (e ∷ r))
