-- An array of entries that is filled place by place. Assumes nothing.
use Prim.Native.Nat.{ℕ, zero, suc, ◌+◌, ◌<◌, min}
use mathlib.Core.Path.{◌≡◌, refl, sym, ap, ◌∙◌}
use mathlib.Core.List.{List}
use native.Mathlib.Omega.{arith}
use native.Mathlib.Decide.{dec_lt}
use lib.ListN.{length, get_or, set, replicate, length-set, length-replicate, get_or-replicate}
use lib.Seq.{get_or-set_same, get_or-set_other, ext_get_or}
use lib.Dec.{ltb}
use borrow.Author.Tests.{lt-ltb, le-ltb}
use Rattle.basics.specs.Choice.{pick}
use Rattle.entries.specs.Entries.{listed}

-- ---- what is listed, by its places

module _ {A : Type 0} (f : ℕ → A) where
  pub listed_length : (k i : ℕ) → length (listed f k i) ≡ k
  unfolding listed
  listed_length zero i = refl
  listed_length (suc k) i = ap suc (listed_length k (suc i))

  listed_on : (d : A) (k i j : ℕ) → j < k → get_or (listed f k i) j d ≡ f (i + j)
  unfolding listed
  listed_on d zero i j h = absurd (omega arith)
  listed_on d (suc k) i zero h = let e : i + 0 ≡ i = omega arith in rw e
  listed_on d (suc k) i (suc j) h = let e : i + suc j ≡ suc i + j = omega arith in rw e (listed_on d k (suc i) j (omega arith))

  pub listed_at : (d : A) (k j : ℕ) → j < k → get_or (listed f k 0) j d ≡ f j
  listed_at d k j h = listed_on d k 0 j h ∙ ap f (omega arith)

  -- what stands at each of so many places is all that there is
  pub listed_by : (d : A) (room : ℕ) (l : List A) → length l ≡ room → ((i : ℕ) → i < room → get_or l i d ≡ f i) → l ≡ listed f room 0
  listed_by d room l long each =
      ext_get_or d l (listed f room 0) (long ∙ sym (listed_length room 0)) (λ i h. each i (omega (arith, long)) ∙ sym (listed_at d room i (omega (arith, long))))

-- ---- a walk along the places

module _ {A : Type 0} (g : ℕ → A) (d : A) where
  -- what stands at a place if n are counted
  abbrev pub counted : ℕ → ℕ → A
  counted n k = pick (ltb k n) (g k) d

  -- the places below i are filled, and the others empty
  pub record Filled (room i : ℕ) (l : List A) : Type 0 where
    pub long : length l ≡ room
    pub each : (k : ℕ) → k < room → get_or l k d ≡ counted i k

  pub filled_none : (room : ℕ) (a : A) → a ≡ d → Filled room 0 (replicate room a)
  filled_none room a e = record {
    long = length-replicate room a;
    each = λ k h. get_or-replicate room k a d h ∙ e ∙ rw (le-ltb k 0 (omega arith));
  }

  pub filled_next : (room i : ℕ) (l : List A) (a : A) → i < room → a ≡ g i → Filled room i l → Filled room (i + 1) (set l i a)
  filled_next room i l a h e w = record { long = length-set l i a ∙ w.long; each = λ k q. at k q (dec_lt k i) (dec_lt i k) }
    where
      at : (k : ℕ) → k < room → Dec (k < i) → Dec (i < k) → get_or (set l i a) k d ≡ counted (i + 1) k
      at k q (yes b) _ = get_or-set_other l i k a d (λ s. omega arith) ∙ w.each k q ∙ rw (lt-ltb k (i + 1) (omega arith), lt-ltb k i b)
      at k q (no b) (yes c) =
          get_or-set_other l i k a d (λ s. omega arith) ∙ w.each k q ∙ rw (le-ltb k (i + 1) (omega arith), le-ltb k i (omega arith))
      at k q (no b) (no c) =
          let s : k ≡ i = omega arith in
          rw (lt-ltb k (i + 1) (omega arith), s) (get_or-set_same l i a d (omega (arith, w.long)) ∙ e)

  -- all that are counted are filled, as far as there are places
  pub filled_all : (room i n : ℕ) (l : List A) → i ≡ min n room → Filled room i l → l ≡ listed (counted n) room 0
  filled_all room i n l e w =
      ext_get_or d l (listed (counted n) room 0) (w.long ∙ sym (listed_length (counted n) room 0)) (λ k h. at k (omega (arith, w.long)) (dec_lt k n))
    where
      at : (k : ℕ) → k < room → Dec (k < n) → get_or l k d ≡ get_or (listed (counted n) room 0) k d
      at k h (yes b) = w.each k h ∙ rw (lt-ltb k i (omega arith)) (sym (listed_at (counted n) d room k h ∙ rw (lt-ltb k n b)))
      at k h (no b) = w.each k h ∙ rw (le-ltb k i (omega arith)) (sym (listed_at (counted n) d room k h ∙ rw (le-ltb k n (omega arith))))
