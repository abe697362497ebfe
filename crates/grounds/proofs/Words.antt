-- A field is bad just when the words of Words.antt say so. Assumes nothing.
use Prim.Native.Nat.{ℕ}
use mathlib.Core.Path.{◌≡◌, refl, sym, ap, subst, ◌∙◌}
use mathlib.Core.List.{List, [], ◌∷◌}
use mathlib.Core.Bool.{Bool, true, false, true≢false}
use native.Mathlib.Omega.{arith}
use lib.ListN.{length}
use lib.Dec.{leb, eqb}
use borrow.Author.Tests.{eqb-true, eq-eqb, ne_eqb, leb-false, lt-leb}
use Rattle.std.specs.Prelude.{Result, Ok, Err}
use Rattle.basics.specs.Choice.{pick}
use Rattle.basics.proofs.Tests.{and_left, and_right}
use Rattle.table.specs.Rules.{all}
use Rattle.table.specs.declared.Kind.{Kind}
use Rattle.table.specs.declared.Kind.TheVariants.{Deferrable, Periodic}
use Rattle.fields.specs.Fields.{same_bytes, deferrable_word, periodic_word, dash, is_digit, starts_with_zero, digits_from, field_number}
use Rattle.lines.specs.Lines.{kind_of}
use Rattle.refusals.specs.declared.Ground.{Ground}
use Rattle.refusals.specs.declared.Ground.TheVariants as what
use Rattle.grounds.specs.Grounds.{May, a_number, a_number_or_dash, a_kind, Field, is_number, is_dash, is_kind, is_bad, of_number, of_kind, read_as}
use Rattle.grounds.specs.Words.{BadNumber, no_byte, dash_alone, other_byte, zero_first, six_digits, BadKind, no_kind, other_kind, BadAs}

-- ---- the tests of bytes, as equations

same_is : (f g : List ℕ) → same_bytes f g ≡ true → f ≡ g
unfolding same_bytes
same_is [] [] e = refl
same_is [] (b ∷ g) e = absurd (true≢false (sym e))
same_is (a ∷ f) [] e = absurd (true≢false (sym e))
same_is (a ∷ f) (b ∷ g) e =
    ap (λ c. c ∷ f) (eqb-true a b (and_left (eqb a b) (same_bytes f g) e)) ∙ ap (λ l. b ∷ l) (same_is f g (and_right (eqb a b) (same_bytes f g) e))

same_self : (f : List ℕ) → same_bytes f f ≡ true
unfolding same_bytes
same_self [] = refl
same_self (a ∷ f) = rw (eq-eqb a a refl, same_self f)

is_same : (f g : List ℕ) → f ≡ g → same_bytes f g ≡ true
is_same f g e = subst (λ h. same_bytes f h ≡ true) e (same_self f)

differ : (f g : List ℕ) → (f ≡ g → ⊥) → same_bytes f g ≡ false
differ f g h = go (same_bytes f g) refl
  where
    go : (b : Bool) → same_bytes f g ≡ b → b ≡ false
    go true e = absurd (h (same_is f g e))
    go false e = refl

not_same : (f g : List ℕ) → same_bytes f g ≡ false → f ≡ g → ⊥
not_same f g e q = true≢false (sym (is_same f g q) ∙ e)

none_is : (f : List ℕ) → eqb (length f) 0 ≡ true → f ≡ []
none_is [] e = refl
none_is (a ∷ f) e = absurd (true≢false (sym e ∙ ne_eqb (length (a ∷ f)) 0 (λ q. omega arith)))

some_is : (f : List ℕ) → (f ≡ [] → ⊥) → eqb (length f) 0 ≡ false
some_is f h = go (eqb (length f) 0) refl
  where
    go : (b : Bool) → eqb (length f) 0 ≡ b → b ≡ false
    go true e = absurd (h (none_is f e))
    go false e = refl

not_none : (f : List ℕ) → eqb (length f) 0 ≡ false → f ≡ [] → ⊥
not_none f e q = true≢false (ap (λ l. eqb (length l) 0) (sym q) ∙ e)

-- ---- digits: none in the empty field are not digits, `-` is no digit, and no field that starts with a zero is empty

none_digits : all is_digit [] ≡ true
unfolding all
none_digits = refl

dash_digits : all is_digit dash ≡ false
unfolding all
dash_digits = refl

digits_no_dash : (f : List ℕ) → all is_digit f ≡ true → f ≡ dash → ⊥
digits_no_dash f d q = true≢false (sym d ∙ (ap (all is_digit) q ∙ dash_digits))

-- ---- numbers

abbrev NumberWords : List ℕ → Result ℕ Ground → Type 0
NumberWords f (Ok v) = Unit {0}
NumberWords f (Err x) = BadNumber f x

number_words : (f : List ℕ) → NumberWords f (field_number f)
number_words f = go (eqb (length f) 0) refl (same_bytes f dash) refl (all is_digit f) refl (starts_with_zero f) refl (leb (length f) 5) refl
  where
    go : (a : Bool) → eqb (length f) 0 ≡ a → (b : Bool) → same_bytes f dash ≡ b → (c : Bool) → all is_digit f ≡ c → (d : Bool) → starts_with_zero f ≡ d
        → (e : Bool) → leb (length f) 5 ≡ e
        → NumberWords f (pick a (Err what.Empty) (pick b (Err what.Dash) (pick c (pick d (Err what.LeadingZero) (pick e (Ok (digits_from 0 f)) (Err what.TooManyDigits))) (Err what.NoDigit))))
    go true p b q c r d s e t = no_byte (none_is f p)
    go false p true q c r d s e t = dash_alone (same_is f dash q)
    go false p false q true r true s e t = zero_first r s
    go false p false q true r false s true t = tt
    go false p false q true r false s false t = six_digits r s (leb-false (length f) 5 t)
    go false p false q false r d s e t = other_byte (not_same f dash q) r

words_number : (f : List ℕ) (x : Ground) → BadNumber f x → field_number f ≡ Err x
unfolding same_bytes
words_number f x (no_byte e) = ap field_number e
words_number f x (dash_alone e) = ap field_number e
words_number f x (other_byte h d) =
    rw (some_is f (λ q. true≢false (sym (ap (all is_digit) q ∙ none_digits) ∙ d)), differ f dash h, d)
words_number f x (zero_first d z) =
    rw (some_is f (λ q. true≢false (sym z ∙ ap starts_with_zero q)), differ f dash (digits_no_dash f d), d, z)
words_number f x (six_digits d z l) =
    rw (some_is f (λ q. absurd (omega (arith, l, ap length q))), differ f dash (digits_no_dash f d), d, z, lt-leb (length f) 5 l)

-- ---- kinds

abbrev KindWords : List ℕ → Result Kind Ground → Type 0
KindWords f (Ok k) = Unit {0}
KindWords f (Err x) = BadKind f x

kind_words : (f : List ℕ) → KindWords f (kind_of f)
kind_words f = go (eqb (length f) 0) refl (same_bytes f deferrable_word) refl (same_bytes f periodic_word) refl
  where
    go : (a : Bool) → eqb (length f) 0 ≡ a → (b : Bool) → same_bytes f deferrable_word ≡ b → (c : Bool) → same_bytes f periodic_word ≡ c
        → KindWords f (pick a (Err what.Empty) (pick b (Ok Deferrable) (pick c (Ok Periodic) (Err what.UnknownKind))))
    go true p b q c r = no_kind (none_is f p)
    go false p true q c r = tt
    go false p false q true r = tt
    go false p false q false r = other_kind (not_none f p) (not_same f deferrable_word q) (not_same f periodic_word r)

words_kind : (f : List ℕ) (x : Ground) → BadKind f x → kind_of f ≡ Err x
words_kind f x (no_kind e) = ap kind_of e
words_kind f x (other_kind h d p) = rw (some_is f h, differ f deferrable_word d, differ f periodic_word p)

-- ---- fields

abbrev FieldWords : May → List ℕ → Field → Type 0
FieldWords m f (is_number v) = Unit {0}
FieldWords m f is_dash = Unit {0}
FieldWords m f is_kind = Unit {0}
FieldWords m f (is_bad x) = BadAs m f x

field_words : (m : May) (f : List ℕ) → FieldWords m f (read_as m f)
field_words a_number f = go (field_number f) (number_words f)
  where
    go : (x : Result ℕ Ground) → NumberWords f x → FieldWords a_number f (of_number x)
    go (Ok v) h = tt
    go (Err x) h = h
field_words a_number_or_dash f = go (same_bytes f dash) refl (field_number f) (number_words f)
  where
    go : (b : Bool) → same_bytes f dash ≡ b → (x : Result ℕ Ground) → NumberWords f x → FieldWords a_number_or_dash f (pick b is_dash (of_number x))
    go true e x h = tt
    go false e (Ok v) h = tt
    go false e (Err x) h = (not_same f dash e, h)
field_words a_kind f = go (kind_of f) (kind_words f)
  where
    go : (x : Result Kind Ground) → KindWords f x → FieldWords a_kind f (of_kind x)
    go (Ok k) h = tt
    go (Err x) h = h

-- a bad field is bad in the words
pub bad_words : (m : May) (f : List ℕ) (x : Ground) → read_as m f ≡ is_bad x → BadAs m f x
bad_words m f x e = subst (FieldWords m f) e (field_words m f)

-- and what is bad in the words is a bad field
pub words_bad : (m : May) (f : List ℕ) (x : Ground) → BadAs m f x → read_as m f ≡ is_bad x
words_bad a_number f x h = ap of_number (words_number f x h)
words_bad a_number_or_dash f x (d, h) = ap (λ b. pick b is_dash (of_number (field_number f))) (differ f dash d) ∙ ap of_number (words_number f x h)
words_bad a_kind f x h = ap of_kind (words_kind f x h)
