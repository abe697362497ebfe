-- Fitting, by windows and by ticks: what it serves is what a queue serves, what is left is left. Assumes nothing.
use Prim.Native.Nat.{ℕ, zero, suc, ◌+◌, ◌-◌, ◌≤◌, ◌<◌, min, max}
use mathlib.Core.Path.{◌≡◌, refl, sym, ap, ap₂, ◌∙◌, fun_ext}
use mathlib.Core.List.{List, [], ◌∷◌}
use mathlib.Core.Bool.{Bool, true, false}
use native.Mathlib.Omega.{arith}
use native.Mathlib.Decide.{dec_le, dec_lt}
use lib.ListN.{length}
use lib.Dec.{leb}
use borrow.Author.Tests.{leb-true, leb-false, le-leb, lt-leb}
use Rattle.basics.specs.Choice.{pick}
use Rattle.windows.specs.Windows.{inside, cover, size, end_of, is_plain, window, join, upto, done, Fit, leaving, part, fit_in, fit, ◌⊕◌}
use Rattle.windows.proofs.Ticks.{inside_split, Apart, apart_lower, cover_before, cover_after, cover_one, end_below, apart_plain, plain_apart, plain_end, window_cover, window_apart, window_none, window_some, join_apart, join_cover, join_size}
use Rattle.windows.proofs.Counts.{upto_none, upto-⊕, upto_inside, count_all}
use Rattle.windows.proofs.Queue.{done_quiet, done_serves, Serves}
use Rattle.windows.proofs.Serving.{leaving_served, demand_parts, window_served}

-- ---- the numbers of a part: it starts at a, the later start, and has n ticks, as many as both allow

pub record Part (qs qe ps pe a n : ℕ) : Type 0 where
  pub some : 0 < n
  pub demand : qs + n ≤ qe
  pub supply : a + n ≤ pe
  pub after : qs ≤ a
  pub from : ps ≤ a
  pub side : ps < a → a ≡ qs

pub part_is : (qs qe ps pe : ℕ) → qs < qe → ps < pe → qs < pe → Part qs qe ps pe (max qs ps) (min (qe - qs) (pe - max qs ps))
part_is qs qe ps pe h k l = omega arith

-- ---- a part makes one of the two curves shorter, so that the number of windows bounds the number of parts

window_length : (a b : ℕ) (l : List ℕ) → length (window a b l) ≤ 2 + length l
window_length a b l = go (dec_lt a b)
  where
    go : Dec (a < b) → length (window a b l) ≤ 2 + length l
    go (yes h) = rw (window_some a b l h) (omega arith)
    go (no h) = rw (window_none a b l (omega arith)) (omega arith)

shorter : (qs qe a pe k : ℕ) (d s : List ℕ) → (4 + length d) + length s ≤ suc k
    → length (window (qs + min (qe - qs) (pe - a)) qe d) + length (window (a + min (qe - qs) (pe - a)) pe s) ≤ k
shorter qs qe a pe k d s h = go (dec_le (qe - qs) (pe - a))
  where
    n : ℕ
    n = min (qe - qs) (pe - a)

    go : Dec (qe - qs ≤ pe - a) → length (window (qs + n) qe d) + length (window (a + n) pe s) ≤ k
    go (yes c) = omega (arith, ap length (window_none (qs + n) qe d (omega arith)), window_length (a + n) pe s)
    go (no c) = omega (arith, window_length (qs + n) qe d, ap length (window_none (a + n) pe s (omega arith)))

fit_bound : (k m : ℕ) (d s : List ℕ) → length d + length s ≤ k → length d + length s ≤ m → fit_in k d s ≡ fit_in m d s
unfolding fit_in
fit_bound zero zero d s h i = refl
fit_bound zero (suc m) [] s h i = refl
fit_bound zero (suc m) (q ∷ d) s h i = absurd (omega arith)
fit_bound (suc k) zero [] s h i = refl
fit_bound (suc k) zero (q ∷ d) s h i = absurd (omega arith)
fit_bound (suc k) (suc m) [] s h i = refl
fit_bound (suc k) (suc m) (q ∷ []) s h i = refl
fit_bound (suc k) (suc m) (qs ∷ (qe ∷ d)) [] h i = refl
fit_bound (suc k) (suc m) (qs ∷ (qe ∷ d)) (p ∷ []) h i = refl
fit_bound (suc k) (suc m) (qs ∷ (qe ∷ d)) (ps ∷ (pe ∷ s)) h i =
    let a = max qs ps in
    let n = min (qe - qs) (pe - max qs ps) in
    rw (
      fit_bound k m (qs ∷ (qe ∷ d)) s (omega arith) (omega arith),
      fit_bound k m (window (qs + n) qe d) (window (a + n) pe s) (shorter qs qe a pe k d s (omega arith)) (shorter qs qe a pe m d s (omega arith)),
    )

-- any bound that is large enough gives the fitting
fit_any : (k : ℕ) (d s : List ℕ) → length d + length s ≤ k → fit_in k d s ≡ fit d s
unfolding fit
fit_any k d s h = fit_bound k (length d + length s) d s h (omega arith)

-- ---- fitting, a step at a time

pub fit_no_demand : (s : List ℕ) → fit [] s ≡ record { left = s; served = []; rest = [] }
unfolding fit_in
fit_no_demand s = sym (fit_any (suc (length s)) [] s (omega arith))

pub fit_no_supply : (qs qe : ℕ) (d : List ℕ) → fit (qs ∷ (qe ∷ d)) [] ≡ record { left = []; served = []; rest = qs ∷ (qe ∷ d) }
unfolding fit_in
fit_no_supply qs qe d = sym (fit_any (suc (suc (suc (length d)))) (qs ∷ (qe ∷ d)) [] (omega arith))

module _ (qs qe ps pe : ℕ) (d s : List ℕ) where
  abbrev bound : ℕ
  bound = (4 + length d) + length s

  -- the first supply window ends before the demand starts
  pub fit_leaving : pe ≤ qs → fit (qs ∷ (qe ∷ d)) (ps ∷ (pe ∷ s)) ≡ leaving ps pe (fit (qs ∷ (qe ∷ d)) s)
  unfolding fit_in
  fit_leaving h =
      sym (fit_any (suc bound) (qs ∷ (qe ∷ d)) (ps ∷ (pe ∷ s)) (omega arith))
      ∙ rw (le-leb pe qs h) (ap (leaving ps pe) (fit_any bound (qs ∷ (qe ∷ d)) s (omega arith)))

  -- it ends after the demand starts
  pub fit_part : qs < pe
      → fit (qs ∷ (qe ∷ d)) (ps ∷ (pe ∷ s))
      ≡ part ps (max qs ps) (min (qe - qs) (pe - max qs ps))
      (fit (window (qs + min (qe - qs) (pe - max qs ps)) qe d) (window (max qs ps + min (qe - qs) (pe - max qs ps)) pe s))
  unfolding fit_in
  fit_part h =
      let a = max qs ps in
      let n = min (qe - qs) (pe - max qs ps) in
      sym (fit_any (suc bound) (qs ∷ (qe ∷ d)) (ps ∷ (pe ∷ s)) (omega arith))
      ∙ rw (lt-leb pe qs h) (ap (part ps a n) (fit_any bound (window (qs + n) qe d) (window (a + n) pe s) (shorter qs qe a pe bound d s (omega arith))))

-- ---- what fitting gives

-- demand d that starts at ld or later, supply s that starts at lo or later
pub record Fitted (d s : List ℕ) (ld lo : ℕ) (o : Fit) : Type 0 where
  pub serves : cover o.served ≡ done (cover d) (cover s)
  pub leaves : cover s ≡ cover o.served ⊕ cover o.left
  pub remains : (t : ℕ) → upto (cover o.rest) t ≡ upto (cover d) t - size o.served
  pub served_apart : Apart (max ld lo) o.served
  pub left_apart : Apart lo o.left
  pub rest_apart : Apart ld o.rest

fitted_leaves : (d s : List ℕ) (ld lo qs ps pe : ℕ) (o : Fit) → ld ≤ qs → Apart qs d → pe ≤ qs → lo ≤ ps → ps < pe
    → Fitted d s qs (suc pe) o → Fitted d (ps ∷ (pe ∷ s)) ld lo (leaving ps pe o)
unfolding cover
fitted_leaves d s ld lo qs ps pe o i p h l z g = record {
  serves = g.serves ∙ sym (leaving_served d s qs ps pe p h);
  leaves = fun_ext (λ t. omega (arith, ap (λ (f : ℕ → ℕ). f t) g.leaves));
  remains = g.remains;
  served_apart = apart_lower (max qs (suc pe)) (max ld lo) o.served (omega arith) g.served_apart;
  left_apart = (l, z, g.left_apart);
  rest_apart = apart_lower qs ld o.rest i g.rest_apart;
}

-- the first n ticks of the demand are gone
rest_part : (qs qe n m t x : ℕ) (d : List ℕ) → Apart (suc qe) d → qs + n ≤ qe → upto (cover (window (qs + n) qe d)) t - m ≡ x
    → upto (inside qs (qs + n) ⊕ cover (window (qs + n) qe d)) t - (n + m) ≡ x
rest_part qs qe n m t x d p f e = go (dec_le t (qs + n))
  where
    c : ℕ → ℕ
    c = cover (window (qs + n) qe d)

    both : upto (inside qs (qs + n) ⊕ c) t ≡ (min t (qs + n) - min t qs) + upto c t
    both = omega (arith, upto-⊕ (inside qs (qs + n)) c t, upto_inside qs (qs + n) t)

    go : Dec (t ≤ qs + n) → upto (inside qs (qs + n) ⊕ c) t - (n + m) ≡ x
    go (yes h) =
        let a : Apart (qs + n) (window (qs + n) qe d) = window_apart (qs + n) (qs + n) qe d (omega arith) p (apart_lower (suc qe) (qs + n) d (omega arith) p) in
        let none : upto c t ≡ 0 = upto_none c (qs + n) (λ u k. cover_before (window (qs + n) qe d) (qs + n) u a k) t h in
        omega (arith, both, none)
    go (no h) = omega (arith, both)

fitted_part : (d s : List ℕ) (ld lo qs qe ps pe a n : ℕ) (o : Fit) → Part qs qe ps pe a n → ld ≤ qs → qs < qe → Apart (suc qe) d → lo ≤ ps → Apart (suc pe) s
    → Fitted (window (qs + n) qe d) (window (a + n) pe s) (qs + n) (a + n) o → Fitted (qs ∷ (qe ∷ d)) (ps ∷ (pe ∷ s)) ld lo (part ps a n o)
unfolding cover
fitted_part d s ld lo qs qe ps pe a n o b i z pd l pp g =
    let w : Apart (a + n) o.served = apart_lower (max (qs + n) (a + n)) (a + n) o.served (omega arith) g.served_apart in
    let j : cover (join a (a + n) o.served) ≡ inside a (a + n) ⊕ cover o.served = join_cover a (a + n) o.served (omega (arith, b.some)) w in
    let v : size (join a (a + n) o.served) ≡ n + size o.served = join_size a (a + n) o.served (omega (arith, b.some)) w ∙ omega arith in
    record {
      serves = j ∙ ap (λ (f : ℕ → ℕ). inside a (a + n) ⊕ f) g.serves
          ∙ sym (window_served d s qs qe ps pe n b.demand pd pp a z b.after b.from b.supply b.side);
      leaves = fun_ext (λ t. omega (
        arith,
        ap (λ (f : ℕ → ℕ). f t) j,
        ap (λ (f : ℕ → ℕ). f t) (window_cover ps a o.left),
        ap (λ (f : ℕ → ℕ). f t) (window_cover (a + n) pe s),
        ap (λ (f : ℕ → ℕ). f t) g.leaves,
        ap (λ (f : ℕ → ℕ). f t) (inside_split ps a pe b.from (omega (arith, b.supply))),
        ap (λ (f : ℕ → ℕ). f t) (inside_split a (a + n) pe (omega arith) b.supply),
      ));
      remains = λ t. sym (
          ap₂ (λ (f : ℕ → ℕ) (m : ℕ). upto f t - m) (demand_parts d s qs qe ps pe n b.demand pd pp) v
          ∙ rest_part qs qe n (size o.served) t (upto (cover o.rest) t) d pd b.demand (sym (g.remains t)));
      served_apart = join_apart (max ld lo) a (a + n) o.served (omega (arith, b.after, b.from)) (omega (arith, b.some)) w;
      left_apart = window_apart lo ps a o.left l (apart_lower (a + n) (suc a) o.left (omega (arith, b.some)) g.left_apart)
          (apart_lower (a + n) lo o.left (omega (arith, b.from)) g.left_apart);
      rest_apart = apart_lower (qs + n) ld o.rest (omega arith) g.rest_apart;
    }

-- nothing is wanted
fitted_none : (s : List ℕ) (ld lo : ℕ) → Apart lo s → Fitted [] s ld lo (record { left = s; served = []; rest = [] })
unfolding cover size upto
fitted_none s ld lo p = record {
  serves = sym (fun_ext (λ t. done_quiet (cover []) (cover s) (suc t) (λ u k. refl) t (omega arith)));
  leaves = fun_ext (λ t. omega arith);
  remains = λ t. omega arith;
  served_apart = tt;
  left_apart = p;
  rest_apart = tt;
}

-- nothing is offered
fitted_nowhere : (d : List ℕ) (ld lo : ℕ) → Apart ld d → Fitted d [] ld lo (record { left = []; served = []; rest = d })
unfolding cover size done
fitted_nowhere d ld lo p = record {
  serves = sym (fun_ext (λ t. omega arith));
  leaves = fun_ext (λ t. omega arith);
  remains = λ t. omega arith;
  served_apart = tt;
  left_apart = tt;
  rest_apart = p;
}

fitted_in : (k : ℕ) (d s : List ℕ) (ld lo : ℕ) → Apart ld d → Apart lo s → length d + length s ≤ k → Fitted d s ld lo (fit_in k d s)
unfolding fit_in
fitted_in zero [] s ld lo p q h = fitted_none s ld lo q
fitted_in zero (c ∷ d) s ld lo p q h = absurd (omega arith)
fitted_in (suc k) [] s ld lo p q h = fitted_none s ld lo q
fitted_in (suc k) (c ∷ []) s ld lo p q h = absurd p
fitted_in (suc k) (qs ∷ (qe ∷ d)) [] ld lo p q h = fitted_nowhere (qs ∷ (qe ∷ d)) ld lo p
fitted_in (suc k) (qs ∷ (qe ∷ d)) (c ∷ []) ld lo p q h = absurd q
fitted_in (suc k) (qs ∷ (qe ∷ d)) (ps ∷ (pe ∷ s)) ld lo p q h =
    go (leb pe qs) refl (fitted_in k (qs ∷ (qe ∷ d)) s qs (suc pe)) (fitted_in k (window (qs + n) qe d) (window (a + n) pe s) (qs + n) (a + n))
  where
    a : ℕ
    a = max qs ps

    n : ℕ
    n = min (qe - qs) (pe - max qs ps)

    go : (x : Bool) → leb pe qs ≡ x
        → (Apart qs (qs ∷ (qe ∷ d)) → Apart (suc pe) s → length (qs ∷ (qe ∷ d)) + length s ≤ k → Fitted (qs ∷ (qe ∷ d)) s qs (suc pe) (fit_in k (qs ∷ (qe ∷ d)) s))
        → (Apart (qs + n) (window (qs + n) qe d) → Apart (a + n) (window (a + n) pe s) → length (window (qs + n) qe d) + length (window (a + n) pe s) ≤ k
        → Fitted (window (qs + n) qe d) (window (a + n) pe s) (qs + n) (a + n) (fit_in k (window (qs + n) qe d) (window (a + n) pe s)))
        → Fitted (qs ∷ (qe ∷ d)) (ps ∷ (pe ∷ s)) ld lo
        (pick x (leaving ps pe (fit_in k (qs ∷ (qe ∷ d)) s)) (part ps a n (fit_in k (window (qs + n) qe d) (window (a + n) pe s))))
    go true e u r =
        fitted_leaves (qs ∷ (qe ∷ d)) s ld lo qs ps pe (fit_in k (qs ∷ (qe ∷ d)) s) p.0 (omega arith, p.1, p.2) (leb-true pe qs e) q.0 q.1
        (u (omega arith, p.1, p.2) q.2 (omega arith))
    go false e u r =
        let b : Part qs qe ps pe a n = part_is qs qe ps pe p.1 q.1 (leb-false pe qs e) in
        fitted_part d s ld lo qs qe ps pe a n (fit_in k (window (qs + n) qe d) (window (a + n) pe s)) b p.0 p.1 p.2 q.0 q.2
        (r (window_apart (qs + n) (qs + n) qe d (omega arith) p.2 (apart_lower (suc qe) (qs + n) d (omega (arith, b.demand)) p.2))
        (window_apart (a + n) (a + n) pe s (omega arith) q.2 (apart_lower (suc pe) (a + n) s (omega (arith, b.supply)) q.2))
        (shorter qs qe a pe k d s (omega arith)))

pub fitted : (d s : List ℕ) (ld lo : ℕ) → Apart ld d → Apart lo s → Fitted d s ld lo (fit d s)
unfolding fit
fitted d s ld lo p q = fitted_in (length d + length s) d s ld lo p q (omega arith)

-- ---- of plain curves

module _ (d s : List ℕ) (p : is_plain d ≡ true) (q : is_plain s ≡ true) where
  plainly : Fitted d s 0 0 (fit d s)
  plainly = fitted d s 0 0 (plain_apart 0 d p) (plain_apart 0 s q)

  -- fitting is the queue that the supply serves
  pub fit_ticks : cover (fit d s).served ≡ done (cover d) (cover s)
  fit_ticks = plainly.serves

  -- "Served plus supply left is the supply, tick for tick, with no tick in both"
  pub fit_leaves : (t : ℕ) → cover (fit d s).served t + cover (fit d s).left t ≡ cover s t
  fit_leaves t = sym (ap (λ (f : ℕ → ℕ). f t) plainly.leaves)

  pub fit_parted : (t : ℕ) → cover (fit d s).served t + cover (fit d s).left t ≤ 1
  fit_parted t = omega (arith, fit_leaves t, cover_one s 0 t (plain_apart 0 s q))

  -- each unit is served at the earliest tick left: where a tick of the supply is left, all that has come is served
  pub fit_earliest : Serves (cover d) (cover s) (cover (fit d s).served)
  fit_earliest = rw fit_ticks (done_serves (cover d) (cover s))

  served_end : end_of (fit d s).served ≤ end_of s
  served_end =
      end_below (fit d s).served 0 (end_of s) plainly.served_apart
      (λ t h. omega (arith, fit_leaves t, cover_after s 0 t (plain_apart 0 s q) h))

  left_end : end_of (fit d s).left ≤ end_of s
  left_end =
      end_below (fit d s).left 0 (end_of s) plainly.left_apart
      (λ t h. omega (arith, fit_leaves t, cover_after s 0 t (plain_apart 0 s q) h))

  rest_end : end_of (fit d s).rest ≤ end_of d
  unfolding upto
  rest_end =
      end_below (fit d s).rest 0 (end_of d) plainly.rest_apart
      (λ t h. omega (arith, plainly.remains t, plainly.remains (suc t), cover_after d 0 t (plain_apart 0 d p) h))

  pub fit_served_plain : is_plain (fit d s).served ≡ true
  fit_served_plain = apart_plain 0 (fit d s).served plainly.served_apart (omega (arith, served_end, plain_end 0 s q))

  pub fit_left_plain : is_plain (fit d s).left ≡ true
  fit_left_plain = apart_plain 0 (fit d s).left plainly.left_apart (omega (arith, left_end, plain_end 0 s q))

  pub fit_rest_plain : is_plain (fit d s).rest ≡ true
  fit_rest_plain = apart_plain 0 (fit d s).rest plainly.rest_apart (omega (arith, rest_end, plain_end 0 d p))

  -- served plus demand left has the demand's length
  pub fit_size : size (fit d s).served + size (fit d s).rest ≡ size d
  fit_size =
      let n = end_of d + end_of s in
      omega (
        arith,
        plainly.remains n,
        fit_earliest.causal n,
        count_all d 0 n (plain_apart 0 d p) (omega arith),
        count_all (fit d s).served 0 n plainly.served_apart (omega (arith, served_end)),
        count_all (fit d s).rest 0 n plainly.rest_apart (omega (arith, rest_end)),
      )

  -- what is left of the demand is its last ticks, as many as were not served
  pub fit_remains : (t : ℕ) → upto (cover (fit d s).rest) t ≡ upto (cover d) t - size (fit d s).served
  fit_remains = plainly.remains
