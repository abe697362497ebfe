-- The sum of two curves, a window at a time. Assumes nothing.
use Prim.Native.Nat.{ℕ, suc, ◌+◌, ◌-◌, ◌≤◌, ◌<◌}
use mathlib.Core.Path.{◌≡◌, refl, sym, ap, ◌∙◌}
use mathlib.Core.List.{List, [], ◌∷◌}
use mathlib.Core.Bool.{Bool, true, false}
use native.Mathlib.Decide.{dec_lt}
use native.Mathlib.Omega.{arith}
use lib.ListN.{length, get_or}
use lib.Dec.{leb}
use borrow.Author.Tests.{le-leb, lt-leb}
use Rattle.basics.specs.Choice.{pick}
use Rattle.windows.specs.Windows.{end_of, is_plain, add_up}
use Rattle.windows.specs.Walks.{place, merge, grow, grown}
use Rattle.windows.proofs.Ticks.{Apart, apart_lower, plain_apart}
use Rattle.windows.proofs.Adding.{Sorted, sorted_lower, sorted_apart, sorted_merge, grow_over, grown_is}
use Rattle.walks.specs.Steps.{SumSound, SecondNext, Takes, merge_ahead, sum_ahead}
use Rattle.walks.specs.declared.Step.{Step}
use Rattle.walks.specs.declared.adding.Sum.{Sum}
use Rattle.walks.proofs.Fronts.{behind, Faces, faces, no_window}

-- the first start, if there is one, is above s
abbrev pub Above : ℕ → List ℕ → Type 0
Above s [] = Unit {0}
Above s (a ∷ l) = s < a

above_apart : (s : ℕ) (l : List ℕ) → Apart (suc s) l → Above s l
above_apart s [] p = tt
above_apart s (a ∷ []) p = absurd p
above_apart s (a ∷ (b ∷ l)) p = p.0

above_place : (s x y : ℕ) (l : List ℕ) → Above s l → s < x → Above s (place x y l)
unfolding place
above_place s x y [] h k = k
above_place s x y (a ∷ []) h k = k
above_place s x y (a ∷ (b ∷ r)) h k = go (leb a x)
  where
    go : (t : Bool) → Above s (pick t (a ∷ (b ∷ place x y r)) (x ∷ (y ∷ (a ∷ (b ∷ r)))))
    go true = h
    go false = k

place_first : (s e : ℕ) (l : List ℕ) → Above s l → place s e l ≡ s ∷ (e ∷ l)
unfolding place
place_first s e [] h = refl
place_first s e (a ∷ []) h = refl
place_first s e (a ∷ (b ∷ r)) h = rw (lt-leb a s h)

above_merge : (s : ℕ) (l m : List ℕ) → Above s l → Apart (suc s) m → Above s (merge l m)
unfolding merge
above_merge s l [] h p = h
above_merge s l (x ∷ []) h p = h
above_merge s l (x ∷ (y ∷ r)) h p = above_place s x y (merge l r) (above_merge s l r h (apart_lower (suc y) (suc s) r (omega arith) p.2)) p.0

-- the second curve has the earlier start
merge_right : (s e : ℕ) (l r : List ℕ) → Above s l → Apart 0 (s ∷ (e ∷ r)) → merge l (s ∷ (e ∷ r)) ≡ s ∷ (e ∷ merge l r)
unfolding merge
merge_right s e l r h p = place_first s e (merge l r) (above_merge s l r h (apart_lower (suc e) (suc s) r (omega arith) p.2))

-- the first curve has it, or both start together
merge_left : (a b : ℕ) (l m : List ℕ) → Apart a m → merge (a ∷ (b ∷ l)) m ≡ a ∷ (b ∷ merge l m)
unfolding merge place
merge_left a b l [] p = refl
merge_left a b l (x ∷ []) p = refl
merge_left a b l (x ∷ (y ∷ r)) p = rw (merge_left a b l r (apart_lower (suc y) a r (omega arith) p.2), le-leb a x p.0)

-- ---- the next window of both

-- the second curve has the earlier start, or the first has none
pub merge_second : (l m : List ℕ) → Faces m → Above (get_or m 0 0) l → merge l m ≡ get_or m 0 0 ∷ (get_or m 1 0 ∷ merge l (behind m))
merge_second l m f a = ap (merge l) f.is ∙ merge_right (get_or m 0 0) (get_or m 1 0) l (behind m) a (rw f.is at f.apart)

-- the first curve has it
pub merge_first : (l m : List ℕ) → Faces l → Apart (get_or l 0 0) m → merge l m ≡ get_or l 0 0 ∷ (get_or l 1 0 ∷ merge (behind l) m)
merge_first l m f a = ap (λ (x : List ℕ). merge x m) f.is ∙ merge_left (get_or l 0 0) (get_or l 1 0) (behind l) m a

-- what the walk takes

pub takes_second : {w : Sum} {step : Step Sum} → SecondNext w → 2 ≤ length w.b.now → step.start ≡ get_or w.b.now 0 0 → step.end ≡ get_or w.b.now 1 0
    → step.behind.a.now ≡ w.a.now → step.behind.b.now ≡ behind w.b.now → Takes w step
takes_second {w} {step} n h es ee ea eb =
    let f = faces w.b.now n.sound.right h in
    record {
      is = rw (es, ee, ea, eb) (merge_second w.a.now w.b.now f (sooner w.a.now n.sooner));
      rises = omega (arith, f.rises);
      bounded = omega (arith, f.bounded);
      plain = record { left = rw ea n.sound.left; right = rw eb f.later };
    }
  where
    sooner : (l : List ℕ) → (0 < length l → (0 < length w.b.now) × (get_or w.b.now 0 0 < get_or l 0 0)) → Above (get_or w.b.now 0 0) l
    sooner [] k = tt
    sooner (a ∷ l) k = (k (omega arith)).1

pub takes_none : {w : Sum} → SecondNext w → length w.b.now < 2 → merge_ahead w ≡ []
unfolding merge
takes_none {w} n h =
    let none = no_window w.b.now n.sound.right h in
    let empty : length w.b.now ≡ 0 = ap length none in
    rw (none, no_window w.a.now n.sound.left (go empty (dec_lt 0 (length w.a.now))))
  where
    go : length w.b.now ≡ 0 → Dec (0 < length w.a.now) → length w.a.now < 2
    go e (yes k) = absurd (omega (arith, (n.sooner k).0))
    go e (no k) = omega arith

pub second_next : {w : Sum} → SumSound w → length w.a.now < 2 → SecondNext w
second_next {w} p h =
    let e : length w.a.now ≡ 0 = ap length (no_window w.a.now p.left h) in
    record { sound = p; sooner = λ k. absurd (omega arith) }

pub takes_first : {w : Sum} {step : Step Sum} → SumSound w → 2 ≤ length w.a.now → (0 < length w.b.now → get_or w.a.now 0 0 ≤ get_or w.b.now 0 0)
    → step.start ≡ get_or w.a.now 0 0 → step.end ≡ get_or w.a.now 1 0 → step.behind.a.now ≡ behind w.a.now → step.behind.b.now ≡ w.b.now → Takes w step
takes_first {w} {step} p h k es ee ea eb =
    let f = faces w.a.now p.left h in
    record {
      is = rw (es, ee, ea, eb) (merge_first w.a.now w.b.now f (later w.b.now p.right k));
      rises = omega (arith, f.rises);
      bounded = omega (arith, f.bounded);
      plain = record { left = rw ea f.later; right = rw eb p.right };
    }
  where
    later : (m : List ℕ) → is_plain m ≡ true → (0 < length m → get_or w.a.now 0 0 ≤ get_or m 0 0) → Apart (get_or w.a.now 0 0) m
    later [] q i = tt
    later (a ∷ []) q i = absurd (plain_apart 0 (a ∷ []) q)
    later (a ∷ (b ∷ m)) q i = let t = plain_apart 0 (a ∷ (b ∷ m)) q in (i (omega arith), t.1, t.2)

-- ---- an open window: it and what is left of both curves make the windows `whole`

pub record Open (whole : List ℕ) (o : Step Sum) : Type 0 where
  pub is : grow o.start o.end (merge_ahead o.behind) ≡ whole
  pub rises : o.start < o.end
  pub bounded : o.end ≤ 1000000
  pub sorted : Sorted o.start (merge_ahead o.behind)
  pub plain : SumSound o.behind

pub open_first_lem : {w : Sum} {o : Step Sum} → SumSound w → Takes w o → Open (sum_ahead w) o
unfolding grown
open_first_lem {w} p t =
    let a = w.a.now in
    let b = w.b.now in
    let q : Sorted 0 (merge_ahead w) = sorted_merge a b 0 (sorted_apart 0 a (plain_apart 0 a p.left)) (plain_apart 0 b p.right) in
    record { is = rw t.is; rises = t.rises; bounded = t.bounded; sorted = (rw t.is at q).2; plain = t.plain }

-- no window is left
pub open_end : {whole : List ℕ} {o : Step Sum} → Open whole o → merge_ahead o.behind ≡ [] → whole ≡ o.start ∷ (o.end ∷ sum_ahead o.behind)
unfolding grow grown
open_end p e = sym p.is ∙ rw e

-- the next window starts later
pub open_gap : {whole : List ℕ} {o k : Step Sum} → Open whole o → Takes o.behind k → o.end < k.start → whole ≡ o.start ∷ (o.end ∷ sum_ahead o.behind)
unfolding grow grown
open_gap {o = o} {k = k} p t h = sym p.is ∙ rw (t.is, lt-leb k.start o.end h)

-- the next window is joined, and ends in time
pub open_more : {whole : List ℕ} {o k : Step Sum} → Open whole o → Takes o.behind k → k.start ≤ o.end → o.end + (k.end - k.start) ≤ 1000000
    → Open whole (record { start = o.start; end = o.end + (k.end - k.start); behind = k.behind })
unfolding grow
open_more {o = o} {k = k} p t h b =
    let q = rw t.is at p.sorted in
    record {
      is = rw (t.is, le-leb k.start o.end h) at p.is;
      rises = omega (arith, p.rises);
      bounded = b;
      sorted = sorted_lower k.start o.start (merge_ahead k.behind) q.0 q.2;
      plain = t.plain;
    }

-- it is joined, and ends too late
pub open_over : {whole : List ℕ} {o k : Step Sum} → Open whole o → Takes o.behind k → k.start ≤ o.end → 1000000 < o.end + (k.end - k.start)
    → 1000000 < end_of whole
unfolding grow
open_over {o = o} {k = k} p t h b =
    let f = o.end + (k.end - k.start) in
    let q = rw t.is at p.sorted in
    let e = rw (t.is, le-leb k.start o.end h) at p.is in
    rw (← e) (grow_over 1000000 o.start f (merge_ahead k.behind) (omega (arith, p.rises)) (sorted_lower k.start o.start (merge_ahead k.behind) q.0 q.2) b)

-- ---- how the sum ends

-- a window that ends in time changes nothing about whether the whole does
pub ends_pair : {ahead more : List ℕ} {s e : ℕ} → ahead ≡ s ∷ (e ∷ more) → e ≤ 1000000 → leb (end_of ahead) 1000000 ≡ leb (end_of more) 1000000
unfolding end_of
ends_pair {ahead} {more} {s} {e} p h = rw p (go more)
  where
    go : (r : List ℕ) → leb (end_of (s ∷ (e ∷ r))) 1000000 ≡ leb (end_of r) 1000000
    go [] = le-leb e 1000000 h
    go (x ∷ r) = refl

-- ---- the whole sum

pub sum_starts : (a b : List ℕ) → is_plain a ≡ true → is_plain b ≡ true → grown (merge a b) ≡ add_up a b
sum_starts a b p q = grown_is a b (plain_apart 0 a p) (plain_apart 0 b q)
