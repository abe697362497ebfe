-- The law of a line's grounds: a line is refused on its stated ground and on no other. Assumes nothing.
use Prim.Native.Nat.{ℕ, ◌≤◌, ◌<◌}
use mathlib.Core.Path.{◌≡◌, refl, sym, ap, subst, ◌∙◌}
use mathlib.Core.List.{List}
use mathlib.Core.Bool.{Bool, true, false, true≢false}
use native.Mathlib.Omega.{arith}
use native.Mathlib.Decide.{dec_lt}
use Rattle.std.specs.Prelude.{Option, Result, Ok, Err, is_ok}
use Rattle.fields.specs.Fields.{field_at, word_of}
use Rattle.lines.specs.Lines.{wrong, wrong_at, line_of}
use Rattle.refusals.specs.declared.Ground.{Ground}
use Rattle.refusals.specs.declared.Ground.TheVariants as what
use Rattle.fields.specs.declared.Word.{Word}
use Rattle.lines.specs.declared.Line.{Line}
use Rattle.lines.specs.declared.Wrong.{Wrong}
use Rattle.grounds.specs.Grounds.{is_bad, is_good, field_there, range_there, InLine, AllGood, GroundOf, misplaced, too_many, field_count, bad_field, out_of_range, Right, LineGround, NoGround}
use Rattle.grounds.proofs.Judged.{Judged, line_judged}

-- a test that is passed and is not
both_ways : {A : Type 0} {b : Bool} → b ≡ true → b ≡ false → A
both_ways p q = absurd (true≢false (sym p ∙ q))

-- ---- grounds exclude each other

-- of two places that each are the first of their kind, none is before the other
same_place : (P : ℕ → Bool) (p q : ℕ) → 2 ≤ p → 2 ≤ q → P p ≡ false → P q ≡ false
    → ((k : ℕ) → 2 ≤ k → k < p → P k ≡ true) → ((k : ℕ) → 2 ≤ k → k < q → P k ≡ true) → p ≡ q
same_place P p q a b e f g h = go (dec_lt p q) (dec_lt q p)
  where
    go : Dec (p < q) → Dec (q < p) → p ≡ q
    go (yes k) d = both_ways (h p a k) e
    go (no k) (yes l) = both_ways (g q b l) f
    go (no k) (no l) = omega arith

module _ (w : Option Word) (n servers tasks : ℕ) (line : List ℕ) where
  abbrev Of : Ground → ℕ → Type 0
  Of = GroundOf w n servers tasks line

  bad_not_good : {x : Ground} {place : ℕ} {A : Type 0} → InLine w n servers tasks line place → field_there w n servers tasks line place ≡ is_bad x → AllGood w n servers tasks line → A
  bad_not_good {place = place} i e g = both_ways (g place i.behind (omega (arith, i.upto))) (ap is_good e)

  -- a wrong line is refused on one ground only
  pub one_ground : {x y : Ground} {p q : ℕ} → Of x p → Of y q → wrong_at x p ≡ wrong_at y q
  one_ground (misplaced e) (misplaced f) = refl
  one_ground (misplaced e) (too_many p f) = both_ways p e
  one_ground (misplaced e) (field_count p r f) = both_ways p e
  one_ground (misplaced e) (bad_field c i g f) = both_ways c.placed e
  one_ground (misplaced e) (out_of_range c a i r f) = both_ways c.placed e
  one_ground (too_many p e) (misplaced f) = both_ways p f
  one_ground (too_many p e) (too_many q f) = refl
  one_ground (too_many p e) (field_count q r f) = both_ways r e
  one_ground (too_many p e) (bad_field c i g f) = both_ways c.room e
  one_ground (too_many p e) (out_of_range c a i r f) = both_ways c.room e
  one_ground (field_count p r e) (misplaced f) = both_ways p f
  one_ground (field_count p r e) (too_many q f) = both_ways r f
  one_ground (field_count p r e) (field_count q s f) = refl
  one_ground (field_count p r e) (bad_field c i g f) = absurd (e c.count)
  one_ground (field_count p r e) (out_of_range c a i s f) = absurd (e c.count)
  one_ground (bad_field c i g e) (misplaced f) = both_ways c.placed f
  one_ground (bad_field c i g e) (too_many q f) = both_ways c.room f
  one_ground (bad_field c i g e) (field_count q s f) = absurd (f c.count)
  one_ground (bad_field {x = x} {place = p} c i g e) (bad_field {x = y} {place = q} d j h f) =
      let k : p ≡ q = same_place (λ l. is_good (field_there w n servers tasks line l)) p q i.behind j.behind (ap is_good e) (ap is_good f) g h in
      let z = sym e ∙ (ap (field_there w n servers tasks line) k ∙ f) in
      let l : x ≡ y = cc in
      ap (λ z. wrong_at z p) l ∙ ap (wrong_at y) k
  one_ground (bad_field c i g e) (out_of_range d a j s f) = bad_not_good i e a
  one_ground (out_of_range c a i r e) (misplaced f) = both_ways c.placed f
  one_ground (out_of_range c a i r e) (too_many q f) = both_ways c.room f
  one_ground (out_of_range c a i r e) (field_count q s f) = absurd (f c.count)
  one_ground (out_of_range c a i r e) (bad_field d j h f) = bad_not_good j f a
  one_ground (out_of_range {place = p} c a i r e) (out_of_range {place = q} d b j s f) =
      ap (wrong_at what.OutOfRange) (same_place (range_there w n servers tasks line) p q i.behind j.behind e f r s)

  -- and one that has passed on none
  pub right_none : {x : Ground} {p : ℕ} → Right w n servers tasks line → Of x p → ⊥
  right_none k (misplaced e) = both_ways k.counted.placed e
  right_none k (too_many p e) = both_ways k.counted.room e
  right_none k (field_count p r e) = e k.counted.count
  right_none k (bad_field c i g e) = bad_not_good i e k.fields
  right_none k (out_of_range {place = p} c a i r e) = both_ways (k.ranges p i.behind (omega (arith, i.upto))) e

  judged_is : {x : Ground} {p : ℕ} (l : Result Line Wrong) → Judged w n servers tasks line l → Of x p → l ≡ wrong x p
  judged_is (Ok s) k g = absurd (right_none k g)
  judged_is (Err e) k g = ap (λ (z : Wrong). Err z) (one_ground k g)

module _ (n servers tasks : ℕ) (line : List ℕ) where
  abbrev the_word : Option Word
  the_word = word_of (field_at line 1)

  -- a line that is refused has the ground
  pub refused_ground : (x : Ground) (place : ℕ) → line_of n servers tasks line ≡ wrong x place → LineGround n servers tasks line x place
  refused_ground x place e = subst (Judged the_word n servers tasks line) e (line_judged n servers tasks line)

  -- a line that has a ground is refused, on it
  pub ground_refuses : (x : Ground) (place : ℕ) → LineGround n servers tasks line x place → line_of n servers tasks line ≡ wrong x place
  ground_refuses x place g = judged_is the_word n servers tasks line (line_of n servers tasks line) (line_judged n servers tasks line) g

  -- a line that says something has no ground, and one that has no ground says something
  pub said_none : is_ok (line_of n servers tasks line) ≡ true → NoGround n servers tasks line
  said_none e x place g = both_ways e (ap is_ok (ground_refuses x place g))

  pub none_said : NoGround n servers tasks line → is_ok (line_of n servers tasks line) ≡ true
  none_said h = go (line_of n servers tasks line) refl
    where
      go : (l : Result Line Wrong) → line_of n servers tasks line ≡ l → is_ok l ≡ true
      go (Ok s) e = refl
      go (Err w) e = absurd (h w.ground w.place (refused_ground w.ground w.place e))

  -- two grounds of a line are one, at one place
  pub ground_once : (x y : Ground) (p q : ℕ) → LineGround n servers tasks line x p → LineGround n servers tasks line y q → (x ≡ y) × (p ≡ q)
  ground_once x y p q g h =
      let e : wrong x p ≡ wrong y q = sym (ground_refuses x p g) ∙ ground_refuses y q h in
      let f : wrong_at x p ≡ wrong_at y q = cc in
      (ap (λ (w : Wrong). w.ground) f, ap (λ (w : Wrong). w.place) f)
