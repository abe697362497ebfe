-- Bytes put one behind the other are the stores of all of them in a row. Assumes nothing.
use Prim.Native.Nat.{ℕ, suc, ◌+◌, ◌≤◌}
use mathlib.Core.Path.{◌≡◌, refl, sym, ap, ◌∙◌}
use mathlib.Core.List.{List, [], ◌∷◌, ◌++◌, append_assoc, append-nil}
use native.Mathlib.Nat.{add-zero}
use native.Mathlib.Omega.{arith}
use lib.ListN.{length, take, drop, set, length-append, length-drop, drop_of_length-le}
use lib.Seq.{sets, sets-eq, length-sets, length-take-le, take_all, drop-drop}
use Rattle.putting.specs.Puts.{Put}

-- ---- stores in a row

-- bytes stored in a row are put
stored_put : (old bytes : List ℕ) (n : ℕ) → Put old (sets old n bytes) n bytes (n + length bytes)
stored_put old bytes n = record {
  count = refl;
  same = length-sets old n bytes;
  fits = λ h. sets-eq bytes old n h ∙ append_assoc (take n old) bytes (drop (n + length bytes) old);
}

-- bytes put, where they fit, are stored in a row
put_stored : {old new bytes : List ℕ} {n r : ℕ} → Put old new n bytes r → r ≤ length old → new ≡ sets old n bytes
put_stored {old} {new} {bytes} {n} {r} w h =
    w.fits h
    ∙ ap (λ (k : ℕ). take n old ++ (bytes ++ drop k old)) w.count
    ∙ sym ((stored_put old bytes n).fits (omega (arith, w.count)))

-- two rows, one behind the other, are one
sets_append : (old a b : List ℕ) (n m : ℕ) → m ≡ n + length a → sets (sets old n a) m b ≡ sets old n (a ++ b)
sets_append old [] b n m e = ap (λ (k : ℕ). sets old k b) (omega arith)
sets_append old (x ∷ a) b n m e = sets_append (set old n x) a b (suc n) m (omega arith)

-- ---- bytes put

-- no byte
pub put_none : (old : List ℕ) (n : ℕ) → Put old old n [] n
put_none old n = rw (add-zero n) at (stored_put old [] n)

-- bytes, and more behind them
pub put_more : {old mid new a b : List ℕ} {n m r : ℕ} → Put old mid n a m → Put mid new m b r → Put old new n (a ++ b) r
put_more {old} {mid} {new} {a} {b} {n} {m} {r} v w =
    let c : r ≡ n + length (a ++ b) = omega (arith, v.count, w.count, length-append a b) in
    record {
      count = c;
      same = w.same ∙ v.same;
      fits = λ h.
          put_stored w (omega (arith, v.same))
          ∙ ap (λ (l : List ℕ). sets l m b) (put_stored v (omega (arith, w.count)))
          ∙ sets_append old a b n m v.count
          ∙ (stored_put old (a ++ b) n).fits (omega (arith, c))
          ∙ ap (λ (k : ℕ). take n old ++ ((a ++ b) ++ drop k old)) (sym c);
    }

-- ---- what is still to come

-- of the bytes `all`, to be put behind n, `rest` is still to come, behind m: once it is put too, all is
pub record Begun (old now : List ℕ) (n m : ℕ) (rest all : List ℕ) : Type 0 where
  pub ends : (new : List ℕ) (r : ℕ) → Put now new m rest r → Put old new n all r

-- at first all is still to come
pub begun_none : (old : List ℕ) (n : ℕ) (all : List ℕ) → Begun old old n n all all
begun_none old n all = record { ends = λ new r w. w }

-- a line is put
pub begun_next : {old mid now line rest all : List ℕ} {n m k : ℕ} → Begun old mid n m (line ++ rest) all → Put mid now m line k → Begun old now n k rest all
begun_next b v = record { ends = λ new r w. b.ends new r (put_more v w) }

-- in the end all is put
pub begun_all : {old now all : List ℕ} {n m : ℕ} → Begun old now n m [] all → Put old now n all m
begun_all {now = now} {m = m} b = b.ends now m (put_none now m)

-- ---- the part of a buffer behind what is there

-- bytes put at the front of that part, k bytes long, are put behind what is there
pub put_behind : (old : List ℕ) (at k : ℕ) {part bytes : List ℕ} {r : ℕ} → at + k ≡ length old → Put (take k (drop at old)) part 0 bytes r
    → Put old (take at old ++ (part ++ drop k (drop at old))) at bytes (at + r)
put_behind old at k {part} {bytes} {r} h w =
    let l : length (drop at old) ≡ k = omega (arith, length-drop at old) in
    let none : drop k (drop at old) ≡ [] = drop_of_length-le (drop at old) {i = k} (omega (arith, l)) in
    let whole : take k (drop at old) ≡ drop at old = take_all k (drop at old) (omega (arith, l)) in
    let v : Put (drop at old) part 0 bytes r = rw whole at w in
    let alone : part ++ drop k (drop at old) ≡ part = ap (λ (l : List ℕ). part ++ l) none ∙ append-nil part in
    rw alone (record {
      count = omega (arith, v.count);
      same = omega (arith, length-append (take at old) part, length-take-le at old (omega arith), v.same, l);
      fits = λ q.
          ap (λ (l : List ℕ). take at old ++ l)
          (v.fits (omega (arith, l)) ∙ ap (λ (l : List ℕ). bytes ++ l) (drop-drop r at old));
    })
