-- Lines put one by one, each from the place of its answer. Assumes nothing.
use Rattle.std.proofs.Common.{ℕ, zero, suc, ◌≡◌, ◌+◌, ◌≤◌, ◌<◌, List, [], ◌∷◌, ◌++◌, length, take, drop, get_or, refl, sym, ap, ◌∙◌, append_assoc, append-nil, drop-cons, arith}
use Rattle.std.proofs.lemmas.List.{take_more}
use lib.Seq.{length-take-le}
use Rattle.putting.specs.declared.Page.{Page}
use Rattle.putting.specs.Pages.{Adds}
use Rattle.putting.proofs.Pages.{adds_more}
use Rattle.printing.specs.Report.{numbered, listed}

module _ {A : Type 0} (line : ℕ → A → List ℕ) where
  numbered_append : (xs ys : List A) (i : ℕ) → numbered line (xs ++ ys) i ≡ numbered line xs i ++ numbered line ys (i + length xs)
  unfolding numbered
  numbered_append [] ys i = ap (numbered line ys) (omega arith)
  numbered_append (x ∷ xs) ys i =
      let e : suc i + length xs ≡ i + suc (length xs) = omega arith in
      ap (λ (l : List ℕ). line (suc i) x ++ l) (numbered_append xs ys (suc i) ∙ ap (λ (j : ℕ). numbered line xs (suc i) ++ numbered line ys j) e)
      ∙ sym (append_assoc (line (suc i) x) (numbered line xs (suc i)) (numbered line ys (i + suc (length xs))))

  -- the lines up to the place i, and the one of that place
  numbered_next : (xs : List A) (x : A) (i : ℕ) → i < length xs → x ≡ get_or xs i x → numbered line (take (i + 1) xs) 0 ≡ numbered line (take i xs) 0 ++ line (i + 1) x
  unfolding numbered
  numbered_next xs x i h is =
      let one : take (i + 1) xs ≡ take i xs ++ (x ∷ []) = take_more xs i x h ∙ ap (λ (y : A). take i xs ++ (y ∷ [])) (sym is) in
      let number : suc (0 + length (take i xs)) ≡ i + 1 = omega (arith, length-take-le i xs (omega arith)) in
      ap (λ (l : List A). numbered line l 0) one
      ∙ numbered_append (take i xs) (x ∷ []) 0
      ∙ ap (λ (l : List ℕ). numbered line (take i xs) 0 ++ l) (append-nil _ ∙ ap (λ (j : ℕ). line j x) number)

  -- a line more is put
  pub line_put : {p q r : Page} (xs : List A) (x : A) (i : ℕ) → i < length xs → x ≡ get_or xs i x → Adds p q (numbered line (take i xs) 0) → Adds q r (line (i + 1) x)
      → Adds p r (numbered line (take (i + 1) xs) 0)
  line_put xs x i h is v w = rw (numbered_next xs x i h is) (adds_more v w)

  -- the lines of the first k from place i on are those that the report names
  listed_from : (none : A) (xs : List A) (k i : ℕ) → i + k ≤ length xs → numbered line (take k (drop i xs)) i ≡ listed line none xs k i
  unfolding numbered listed
  listed_from none xs zero i h = refl
  listed_from none xs (suc k) i h =
      rw (drop-cons xs i none (omega arith))
      (ap (λ (l : List ℕ). line (suc i) (get_or xs i none) ++ l) (listed_from none xs k (suc i) (omega arith)))

  pub lines_listed : (none : A) (xs : List A) (n : ℕ) → n ≤ length xs → numbered line (take n xs) 0 ≡ listed line none xs n 0
  lines_listed none xs n h = listed_from none xs n 0 (omega arith)
