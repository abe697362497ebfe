-- A line as it is put, and line behind line. Assumes nothing.
use Prim.Native.Nat.{ℕ, ◌+◌, ◌≤◌, ◌<◌}
use mathlib.Core.Path.{◌≡◌, refl, sym, ap, ◌∙◌}
use mathlib.Core.List.{List, [], ◌∷◌, ◌++◌, append_assoc, map}
use native.Mathlib.Omega.{arith}
use lib.ListN.{length, get_or, take, drop, length-append}
use Rattle.std.proofs.lemmas.List.{map-append, take-append-drop, take_more}
use Rattle.table.specs.declared.Release.TheVariants.{Once, Every}
use Rattle.table.specs.declared.Server.{Server}
use Rattle.table.proofs.Entries.{entry_next, entry_end}
use Rattle.fields.specs.Fields.{span_word, server_word, once_word, every_word}
use Rattle.putting.specs.Decimal.{decimal, field, feed}
use Rattle.putting.specs.Puts.{Put}
use Rattle.putting.proofs.Puts.{Begun, begun_none, begun_next, begun_all, put_more, put_behind}
use Rattle.writing.specs.Text.{joined, ended, kind_word, released_fields, span_line, server_line}
use Rattle.writing.proofs.Lengths.{ended_append}

-- ---- a line: a word, fields with a tab in front of each, a line feed

last_field : (f : List ℕ) → joined (f ∷ []) ++ feed ≡ f ++ feed
unfolding joined
last_field f = refl

more_field : (f g : List ℕ) (fs : List (List ℕ)) (r : List ℕ) → joined (g ∷ fs) ++ feed ≡ r → joined (f ∷ (g ∷ fs)) ++ feed ≡ f ++ (9 ∷ r)
unfolding joined
more_field f g fs r e = append_assoc f (9 ∷ joined (g ∷ fs)) feed ∙ ap (λ (l : List ℕ). f ++ (9 ∷ l)) e

pub span_put : (H : ℕ) → span_line H ++ feed ≡ (span_word ++ field H) ++ feed
unfolding span_line
span_put H = more_field span_word (decimal H) [] _ (last_field (decimal H))

pub server_put : (s : Server) → server_line s ++ feed ≡ server_word ++ (9 ∷ (kind_word s.kind ++ (field s.capacity ++ (field s.period ++ feed))))
unfolding server_line
server_put s =
    more_field server_word _ _ _ (more_field (kind_word s.kind) _ _ _ (more_field (decimal s.capacity) _ _ _ (last_field (decimal s.period))))

pub once_put : (i s w d : ℕ) → joined (released_fields (Once i) s w d) ++ feed ≡ (once_word ++ field s) ++ (field w ++ (field i ++ (field d ++ feed)))
once_put i s w d =
    more_field once_word _ _ _ (more_field (decimal s) _ _ _ (more_field (decimal w) _ _ _ (more_field (decimal i) _ _ _ (last_field (decimal d)))))

pub every_put : (o p s w d : ℕ)
    → joined (released_fields (Every o p) s w d) ++ feed ≡ (every_word ++ field s) ++ (field w ++ (field o ++ (field p ++ (field d ++ feed))))
every_put o p s w d =
    more_field every_word _ _ _ (more_field (decimal s) _ _ _
    (more_field (decimal w) _ _ _ (more_field (decimal o) _ _ _ (more_field (decimal p) _ _ _ (last_field (decimal d))))))

-- ---- "Each line is written into the part of the buffer behind the lines already there"

module _ {A : Type 0} (line : A → List ℕ) (xs : List A) where
  -- the lines up to the place i, and the one of that place
  pub lines_next : (x : A) (i : ℕ) → i < length xs → x ≡ get_or xs i x → ended (map line (take (i + 1) xs)) ≡ ended (map line (take i xs)) ++ (line x ++ feed)
  unfolding ended
  lines_next x i h is =
      let one : take (i + 1) xs ≡ take i xs ++ (x ∷ []) = take_more xs i x h ∙ ap (λ (y : A). take i xs ++ (y ∷ [])) (sym is) in
      ap (λ (l : List A). ended (map line l)) one
      ∙ ap ended (map-append line (take i xs) (x ∷ []))
      ∙ ended_append (map line (take i xs)) (line x ∷ [])

  -- they are no more than all
  pub lines_within : (i : ℕ) → length (ended (map line (take i xs))) ≤ length (ended (map line xs))
  lines_within i =
      let parts = ap (λ (l : List A). ended (map line l)) (sym (take-append-drop i xs))
      ∙ ap ended (map-append line (take i xs) (drop i xs))
      ∙ ended_append (map line (take i xs)) (map line (drop i xs)) in
      omega (arith, ap length parts, length-append (ended (map line (take i xs))) (ended (map line (drop i xs))))

  module _ {old mid : List ℕ} {n at : ℕ} (i : ℕ) (room : n + length (ended (map line xs)) ≤ length old) (v : Put old mid n (ended (map line (take i xs))) at) where
    -- the place behind the lines already there is in the buffer
    pub line_inside : at ≤ length mid
    line_inside = omega (arith, room, v.count, v.same, lines_within i)

    -- there is room for one more
    pub line_fits : (x : A) {out part : List ℕ} {r : ℕ} → i < length xs → x ≡ get_or xs i x → Put out part 0 (line x ++ feed) r → at + r ≤ length mid
    line_fits x h is w =
        omega (arith, room, v.count, v.same, w.count, lines_within (i + 1), ap length (lines_next x i h is), length-append (ended (map line (take i xs))) (line x ++ feed))

  -- the line of the place i is put into the part of the buffer, k bytes long, that is behind those already there
  pub line_put : (x : A) (i : ℕ) (mid : List ℕ) (at k : ℕ) {old part : List ℕ} {n r : ℕ} → i < length xs → x ≡ get_or xs i x → at + k ≡ length mid
      → Put old mid n (ended (map line (take i xs))) at → Put (take k (drop at mid)) part 0 (line x ++ feed) r
      → Put old (take at mid ++ (part ++ drop k (drop at mid))) n (ended (map line (take (i + 1) xs))) (at + r)
  line_put x i mid at k h is e v w = rw (lines_next x i h is) (put_more v (put_behind mid at k e w))

-- ---- the same by the lines that are still to come

-- of the bytes `all`, to be put behind n, `rest` is still to come, behind `at`, and there is room for it
pub record Lining (old now : List ℕ) (n at : ℕ) (rest all : List ℕ) : Type 0 where
  pub begun : Begun old now n at rest all
  pub room : at + length rest ≤ length now
  pub same : length now ≡ length old

-- at first all is still to come
pub lining_none : (old : List ℕ) (n : ℕ) (all : List ℕ) → n + length all ≤ length old → Lining old old n n all all
lining_none old n all h = record { begun = begun_none old n all; room = h; same = refl }

-- the part of the buffer behind the lines already there, k bytes long, has a line more at its front
lining_next : (mid : List ℕ) (at k : ℕ) {old part line rest all : List ℕ} {n r : ℕ} → Lining old mid n at (line ++ rest) all → at + k ≡ length mid
    → Put (take k (drop at mid)) part 0 line r → Lining old (take at mid ++ (part ++ drop k (drop at mid))) n (at + r) rest all
lining_next mid at k {line = line} {rest = rest} l h w =
    let v = put_behind mid at k h w in
    record {
      begun = begun_next l.begun v;
      room = omega (arith, l.room, v.same, v.count, length-append line rest);
      same = v.same ∙ l.same;
    }

-- in the end all is put
lining_all : {old now all : List ℕ} {n at : ℕ} → Lining old now n at [] all → Put old now n all at
lining_all l = begun_all l.begun

module _ {A : Type 0} (line : A → List ℕ) (xs : List A) (n : ℕ) (h : n ≤ length xs) where
  lines_ahead : (d : A) (i : ℕ) → i < n → ended (map line (drop i (take n xs))) ≡ (line (get_or xs i d) ++ feed) ++ ended (map line (drop (i + 1) (take n xs)))
  unfolding ended
  lines_ahead d i k =
      ap (λ (l : List A). ended (map line l)) (entry_next xs n h d i k)
      ∙ sym (append_assoc (line (get_or xs i d)) feed (ended (map line (drop (i + 1) (take n xs)))))

  lines_end : (i : ℕ) → n ≤ i → ended (map line (drop i (take n xs))) ≡ []
  unfolding ended
  lines_end i k = ap (λ (l : List A). ended (map line l)) (entry_end xs n h i k)

  -- the line of place i is put into the part of the buffer behind the lines already there
  pub line_lined : (d : A) (i : ℕ) (mid : List ℕ) (at k : ℕ) {old part all : List ℕ} {m r : ℕ} → i < n
      → Lining old mid m at (ended (map line (drop i (take n xs)))) all → Put (take k (drop at mid)) part 0 (line (get_or xs i d) ++ feed) r
      → at + k ≡ length mid
      → Lining old (take at mid ++ (part ++ drop k (drop at mid))) m (at + r) (ended (map line (drop (i + 1) (take n xs)))) all
  line_lined d i mid at k q l w e = lining_next mid at k (rw (lines_ahead d i q) at l) e w

  -- there is room for it
  pub line_room : (d : A) (i : ℕ) {mid old all lent part : List ℕ} {at m r : ℕ} → i < n
      → Lining old mid m at (ended (map line (drop i (take n xs)))) all → Put lent part 0 (line (get_or xs i d) ++ feed) r → at + r ≤ length mid
  line_room d i q l w =
      omega (arith, w.count, l.room, ap length (lines_ahead d i q), length-append (line (get_or xs i d) ++ feed) (ended (map line (drop (i + 1) (take n xs)))))

  -- all lines are put
  pub lines_lined : (i : ℕ) {now old all : List ℕ} {at m : ℕ} → n ≤ i → Lining old now m at (ended (map line (drop i (take n xs)))) all → Put old now m all at
  lines_lined i q l = lining_all (rw (lines_end i q) at l)
