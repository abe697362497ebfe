-- The span that a list of periods gives, pair by pair, is their least common multiple. Assumes nothing.
use Prim.Native.Nat.{ℕ, zero, suc, ◌+◌, ◌%◌, ◌≤◌, ◌<◌, ◌∣◌}
use mathlib.Core.Path.{◌≡◌, refl, sym, ◌∙◌}
use mathlib.Core.List.{List, [], ◌∷◌, ◌++◌, append_assoc, append-nil}
use mathlib.Core.Bool.{Bool, true, false, true≢false}
use native.Mathlib.Omega.{arith}
use native.Mathlib.Nat.{dvd_refl, dvd_trans, le_of_dvd, pos_of_dvd_of_pos, mod-eq-zero_of_dvd, dvd_of_mod-eq-zero}
use native.Mathlib.Decide.{ℕ_discrete}
use lib.ListN.{length, get_or, take, drop, take-append-drop}
use lib.Seq.{drop-cons}
use Rattle.std.proofs.Common.{map-id}
use Rattle.std.proofs.lemmas.Iterator.{YieldsList}
use Rattle.std.proofs.lemmas.Iterator.Consumers.{YieldsList-so_far, YieldsList-turn, YieldsList-end}
use Rattle.std.specs.Iterator.{Yields}
use lib.Dec.{eqb, leb}
use borrow.Author.Tests.{eqb-true, le-leb, leb-true, leb-false}
use Rattle.basics.specs.Choice.{pick}
use Rattle.basics.proofs.Tests.{and_left, and_right}
use Rattle.table.specs.Rules.{all, in_ticks}
use Rattle.table.specs.Euclid.{IsLcm}
use Rattle.table.specs.Span.{is_multiple, first_multiple, span_of}
use Rattle.table.specs.Multiples.{Divide, Spans, InSpan, JoinsAll}
use Rattle.std.specs.Prelude.{Option, Some, None}
use Rattle.std.specs.Bool.{then_some}

-- ---- a period more

pub joins_over : (periods : List ℕ) → JoinsAll None periods None
joins_over periods = record { bounded = tt; leads = λ whole ahead s. s }

pub joins_lcm : (m p r : ℕ) → IsLcm m p r → r ≤ 16000 → JoinsAll (Some m) (p ∷ []) (Some r)
joins_lcm m p r l h = record {
  bounded = (l.some, h);
  leads = λ whole ahead s. record {
    some = l.some;
    small = h;
    into = λ n d. let x = s.into n d in (l.least n x.0 x.1.0, x.1.1);
    back = λ n d a. s.back n (dvd_trans m l.left d) (dvd_trans p l.right d, a);
  };
}

pub joins_large : (m p r : ℕ) → IsLcm m p r → 16000 < r → JoinsAll (Some m) (p ∷ []) None
joins_large m p r l h = record {
  bounded = tt;
  leads = λ whole ahead s n z b d.
      let x = s.into n d in
      omega (arith, le_of_dvd z (l.least n x.0 x.1.0));
}

pub joins_up_to : (m p r : ℕ) → IsLcm m p r → JoinsAll (Some m) (p ∷ []) (then_some (leb r 16000) r)
joins_up_to m p r l = go (leb r 16000) refl
  where
    go : (small : Bool) → leb r 16000 ≡ small → JoinsAll (Some m) (p ∷ []) (then_some small r)
    go true e = joins_lcm m p r l (leb-true r 16000 e)
    go false e = joins_large m p r l (leb-false r 16000 e)

-- what a number of 1 to 16,000 divides by is one of them
divisor_in_ticks : (p n : ℕ) → 0 < n → n ≤ 16000 → p ∣ n → in_ticks p ≡ true
divisor_in_ticks p n z b d = rw (le-leb 1 p (pos_of_dvd_of_pos d z), le-leb p 16000 (omega (arith, le_of_dvd z d)))

pub joins_outside : (m p : ℕ) → in_ticks p ≡ false → JoinsAll (Some m) (p ∷ []) None
joins_outside m p e = record {
  bounded = tt;
  leads = λ whole ahead s n z b d. true≢false (sym (divisor_in_ticks p n z b (s.into n d).1.0) ∙ e);
}

pub joins_none : (span : Option ℕ) → InSpan span → JoinsAll span [] span
joins_none span b = record { bounded = b; leads = λ whole ahead s. s }

pub joins_both : {a b c : Option ℕ} {ps qs : List ℕ} → JoinsAll a ps b → JoinsAll b qs c → JoinsAll a (ps ++ qs) c
joins_both {a} {b} {c} {ps} {qs} x y = record {
  bounded = y.bounded;
  leads = λ whole ahead s. y.leads whole ahead (x.leads whole (qs ++ ahead) (rw (append_assoc ps qs ahead) at s));
}

-- ---- all periods

divides_multiple : (ps : List ℕ) (n : ℕ) → Divide ps n → is_multiple ps n ≡ true
unfolding all
divides_multiple [] n d = refl
divides_multiple (p ∷ ps) n d = rw (mod-eq-zero_of_dvd p d.0) (divides_multiple ps n d.1)

multiple_divides : (ps : List ℕ) (n : ℕ) → is_multiple ps n ≡ true → Divide ps n
unfolding all
multiple_divides [] n e = tt
multiple_divides (p ∷ ps) n e =
    let a = eqb (n % p) 0 in
    (dvd_of_mod-eq-zero p (eqb-true (n % p) 0 (and_left a (is_multiple ps n) e)), multiple_divides ps n (and_right a (is_multiple ps n) e))

not_true : (b : Bool) → (b ≡ true → ⊥) → b ≡ false
not_true true h = absurd (h refl)
not_true false h = refl

module _ (ps : List ℕ) where
  search_finds : (m k n : ℕ) → n ≤ m → m < n + k → ((u : ℕ) → n ≤ u → u < m → Divide ps u → ⊥) → Divide ps m → first_multiple ps k n ≡ Some m
  unfolding first_multiple
  search_finds m zero n h i q d = absurd (omega arith)
  search_finds m (suc k) n h i q d = go (ℕ_discrete n m) (search_finds m k (suc n))
    where
      go : Dec (n ≡ m) → (suc n ≤ m → m < suc n + k → ((u : ℕ) → suc n ≤ u → u < m → Divide ps u → ⊥) → Divide ps m → first_multiple ps k (suc n) ≡ Some m)
          → pick (is_multiple ps n) (Some n) (first_multiple ps k (suc n)) ≡ Some m
      go (yes e) ih = rw (e, divides_multiple ps m d)
      go (no e) ih =
          let f : is_multiple ps n ≡ false = not_true (is_multiple ps n) (λ t. q n (omega arith) (omega arith) (multiple_divides ps n t)) in
          rw f (ih (omega arith) (omega arith) (λ u a b. q u (omega arith) b) d)

  search_none : (k n : ℕ) → ((u : ℕ) → n ≤ u → u < n + k → Divide ps u → ⊥) → first_multiple ps k n ≡ None
  unfolding first_multiple
  search_none zero n q = refl
  search_none (suc k) n q =
      let f : is_multiple ps n ≡ false = not_true (is_multiple ps n) (λ t. q n (omega arith) (omega arith) (multiple_divides ps n t)) in
      rw f (search_none k (suc n) (λ u a b. q u (omega arith) (omega arith)))

  spans_start : Spans ps ps (Some 1)
  spans_start = record { some = omega arith; small = omega arith; into = λ n d. (one_divides n, d); back = λ n a d. d }
    where
      one_divides : (n : ℕ) → 1 ∣ n
      one_divides n = dvd_of_mod-eq-zero 1 (omega arith)

  spans_all : (r : Option ℕ) → Spans ps [] r → span_of ps ≡ r
  spans_all (Some m) s =
      search_finds m 16000 1 s.some (omega (arith, s.small))
      (λ u a b d. omega (arith, le_of_dvd a (s.into u d).0)) (s.back m (dvd_refl m) tt)
  spans_all None s = search_none 16000 1 (λ u a b d. s u a (omega arith) d)

  -- the walk that starts with 1 and joins every period gives the least common multiple
  pub joined_all : (r : Option ℕ) → JoinsAll (Some 1) ps r → r ≡ span_of ps
  joined_all r j = sym (spans_all r (j.leads ps [] (rw (append-nil ps) spans_start)))

split_at : (all : List ℕ) (n p : ℕ) (front : List ℕ) → front ≡ take n all → n < length all → p ≡ get_or all n p → front ++ (p ∷ drop (suc n) all) ≡ all
split_at all n p front f l g = rw (f, g, ← drop-cons all n p l) (take-append-drop n all)

-- ---- a walk over all periods, which has passed some of them

module _ {S : Type 0} {steps : S → Option ℕ → S → Type 0} {s : S} {all passed : List ℕ} {m : ℕ} {r : Option ℕ} (t u : S) (j : JoinsAll (Some 1) passed (Some m)) (y : Yields steps s passed t) (e : steps t r u) where
  -- at one that has no multiple
  pub span_stops : {p : ℕ} → r ≡ Some p → JoinsAll (Some m) (p ∷ []) None → YieldsList steps (λ p. p) s all → None ≡ span_of all
  span_stops {p} is n road =
      let front : passed ≡ take (length passed) all = sym (map-id passed) ∙ YieldsList-so_far road passed t y in
      let turn : (length passed < length all) × (p ≡ get_or all (length passed) p) = YieldsList-turn road passed t y r u p is e in
      let rest : List ℕ = drop (suc (length passed)) all in
      let split : passed ++ (p ∷ rest) ≡ all = split_at all (length passed) p passed front turn.0 turn.1 in
      joined_all all None (rw split at (joins_both j (joins_both {ps = p ∷ []} {qs = rest} n (joins_over rest))))

  -- after the last
  pub span_ends : r ≡ None → YieldsList steps (λ p. p) s all → Some m ≡ span_of all
  span_ends is road = joined_all all (Some m) (rw (sym (map-id passed) ∙ (YieldsList-end road passed t y r u is e).0) at j)

-- ---- what the span is: the least number above 0 that every period divides, or none up to 16,000 is such

-- of the k numbers from n on
pub record IsFirst (ps : List ℕ) (k n h : ℕ) : Type 0 where
  pub from : n ≤ h
  pub below : h < n + k
  pub divides : Divide ps h
  pub sooner : (u : ℕ) → n ≤ u → u < h → Divide ps u → ⊥

abbrev pub SearchSays : List ℕ → ℕ → ℕ → Option ℕ → Type 0
SearchSays ps k n (Some h) = IsFirst ps k n h
SearchSays ps k n None = (u : ℕ) → n ≤ u → u < n + k → Divide ps u → ⊥

later_says : (ps : List ℕ) (k n : ℕ) (r : Option ℕ) → (Divide ps n → ⊥) → SearchSays ps k (suc n) r → SearchSays ps (suc k) n r
later_says ps k n (Some h) q s = record {
  from = omega (arith, s.from);
  below = omega (arith, s.below);
  divides = s.divides;
  sooner = λ u a b d. at_first u a d (ℕ_discrete u n) b;
}
  where
    at_first : (u : ℕ) → n ≤ u → Divide ps u → Dec (u ≡ n) → u < h → ⊥
    at_first u a d (yes e) b = q (rw e at d)
    at_first u a d (no e) b = s.sooner u (omega arith) b d
later_says ps k n None q s = λ u a b d. at_first u a b d (ℕ_discrete u n)
  where
    at_first : (u : ℕ) → n ≤ u → u < n + suc k → Divide ps u → Dec (u ≡ n) → ⊥
    at_first u a b d (yes e) = q (rw e at d)
    at_first u a b d (no e) = s u (omega arith) (omega arith) d

clash : {b : Bool} → b ≡ true → b ≡ false → ⊥
clash h k = let z : ◌≡◌ {A = ℕ} 0 1 = cc in omega arith

search_says : (ps : List ℕ) (k n : ℕ) → SearchSays ps k n (first_multiple ps k n)
unfolding first_multiple
search_says ps zero n = λ u a b d. omega arith
search_says ps (suc k) n = go (is_multiple ps n) refl (search_says ps k (suc n))
  where
    go : (b : Bool) → is_multiple ps n ≡ b → SearchSays ps k (suc n) (first_multiple ps k (suc n)) → SearchSays ps (suc k) n (pick b (Some n) (first_multiple ps k (suc n)))
    go true e s = record { from = omega arith; below = omega arith; divides = multiple_divides ps n e; sooner = λ u a b d. omega arith }
    go false e s = later_says ps k n (first_multiple ps k (suc n)) (λ d. clash (divides_multiple ps n d) e) s

pub span_says : (ps : List ℕ) → SearchSays ps 16000 1 (span_of ps)
span_says ps = search_says ps 16000 1
