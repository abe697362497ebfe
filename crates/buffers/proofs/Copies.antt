-- A curve copied to the front of a buffer, a number at a time. Assumes nothing.
use Prim.Native.Nat.{ℕ, ◌+◌, ◌≤◌, ◌<◌}
use mathlib.Core.Path.{◌≡◌, refl, sym, ap, ◌∙◌}
use mathlib.Core.List.{List, [], ◌∷◌, ◌++◌}
use native.Mathlib.Omega.{arith}
use native.Mathlib.Numerals.{add-one}
use lib.ListN.{length, take, set, get_or, length-set}
use lib.Seq.{length-take-le, take-length, take-suc, take-suc-set}
use Rattle.buffers.specs.Parts.{Wrote}

-- the first i numbers of a buffer that was `old` are those of a list
pub record Filled (old new list : List ℕ) (i : ℕ) : Type 0 where
  pub same : length new ≡ length old
  pub within : i ≤ length list
  pub room : length list ≤ length old
  pub front : take i new ≡ take i list

-- at first none
pub filled_none : (old list : List ℕ) → length list ≤ length old → Filled old old list 0
filled_none old list h = record { same = refl; within = omega arith; room = h; front = refl }

-- one number more
pub filled_next : {old new list : List ℕ} {i : ℕ} → Filled old new list i → i < length list → Filled old (set new i (get_or list i 0)) list (i + 1)
filled_next {old} {new} {list} {i} f h = record {
  same = length-set new i (get_or list i 0) ∙ f.same;
  within = omega arith;
  room = f.room;
  front =
      rw add-one
      (take-suc-set new i (get_or list i 0) (omega (arith, f.same, f.room))
      ∙ ap (λ (l : List ℕ). l ++ (get_or list i 0 ∷ [])) f.front
      ∙ sym (take-suc list i 0 h));
}

-- in the end all
pub filled_all : {old new list : List ℕ} {i : ℕ} → Filled old new list i → length list ≤ i → Wrote old new (length list) list
filled_all {old} {new} {list} {i} f h =
    let e : length list ≡ i = omega (arith, f.within) in
    record {
      same = f.same;
      count = omega (arith, f.same, f.room);
      front = ap (λ (k : ℕ). take k new) e ∙ f.front ∙ ap (λ (k : ℕ). take k list) (sym e) ∙ take-length list;
    }

-- a curve at the front of one buffer is copied to the front of another
pub copied : {k : ℕ} {old new first from l : List ℕ} → Wrote first from k l → Wrote old new (length (take k from)) (take k from) → Wrote old new k l
copied {k} {old} {new} {first} {from} w c =
    let size : length (take k from) ≡ k = length-take-le k from w.count in
    record {
      same = c.same;
      count = omega (arith, c.count, size);
      front = ap (λ (n : ℕ). take n new) (sym size) ∙ c.front ∙ w.front;
    }
