-- The releases of a task, one after the other, and the work that came before one. Assumes nothing.
use Prim.Native.Nat.{ℕ, ◌+◌, ◌-◌, ◌%◌, ◌≤◌, ◌<◌}
use mathlib.Core.Path.{◌≡◌, refl, sym, ap, ◌∙◌, fun_ext}
use mathlib.Core.Bool.{true, false, ◌&&◌}
use native.Mathlib.Omega.{arith}
use native.Mathlib.Nat.{zero-mod, mod-eq_of_lt, mod-add-mod, add-mod_right}
use native.Mathlib.Decide.{dec_lt, ℕ_discrete}
use lib.Dec.{leb, ltb, eqb}
use borrow.Author.Tests.{leb-true, le-leb, lt-leb, lt-ltb, le-ltb, eqb-true, eq-eqb, ne_eqb}
use Rattle.basics.specs.Choice.{pick}
use Rattle.windows.specs.Windows.{◌⊕◌}
use Rattle.basics.proofs.Tests.{and_left, and_right}
use Rattle.windows.proofs.Queue.{none}
use Rattle.table.specs.Rules.{release_obeys}
use Rattle.table.specs.declared.Release.{Release}
use Rattle.table.specs.declared.Release.TheVariants.{Once, Every}
use Rattle.table.specs.Releases.{released_at}
use Rattle.schedule.proofs.Impulses.{impulse}
use Rattle.demands.specs.Walks.{first_release, next_release}

-- ---- one release after the other

-- a rest of d behind a multiple
mod_behind : (x d p : ℕ) → x % p ≡ 0 → d < p → (x + d) % p ≡ d
mod_behind x d p h k = sym (mod-add-mod x p d) ∙ ap (λ (y : ℕ). (y + d) % p) h ∙ ap (λ (y : ℕ). y % p) (omega arith) ∙ mod-eq_of_lt k

-- `next` is the release that follows one at r, below 16,000
pub record Follows (release : Release) (r next : ℕ) : Type 0 where
  pub later : r < next
  pub between : (t : ℕ) → r < t → t < next → released_at release t ≡ false
  pub again : next < 16000 → released_at release next ≡ true

-- a period is at least 1
period_some : (offset period : ℕ) → release_obeys (Every offset period) ≡ true → 1 ≤ period
period_some offset period h =
    leb-true 1 period (and_left (leb 1 period) (leb period 16000) (and_right (leb offset 16000) (leb 1 period && leb period 16000) h))

-- and at most 16,000
pub period_most : (offset period : ℕ) → release_obeys (Every offset period) ≡ true → period ≤ 16000
period_most offset period h =
    leb-true period 16000 (and_right (leb 1 period) (leb period 16000) (and_right (leb offset 16000) (leb 1 period && leb period 16000) h))

module _ (offset period r : ℕ) (h : released_at (Every offset period) r ≡ true) where
  -- a release is at the offset or later
  released_from : offset ≤ r
  released_from = leb-true offset r (and_left (leb offset r) (eqb ((r - offset) % period) 0) h)

  -- and whole periods behind it
  released_at_lem : (r - offset) % period ≡ 0
  released_at_lem = eqb-true ((r - offset) % period) 0 (and_right (leb offset r) (eqb ((r - offset) % period) 0) h)

  -- within a period behind a release there is none
  none_between : (t : ℕ) → r < t → t < r + period → released_at (Every offset period) t ≡ false
  none_between t k l =
      let e : (r - offset) + (t - r) ≡ t - offset = omega (arith, released_from) in
      let z : (t - offset) % period ≡ t - r = ap (λ (y : ℕ). y % period) (sym e) ∙ mod_behind (r - offset) (t - r) period released_at_lem (omega arith) in
      rw (le-leb offset t (omega (arith, released_from)), ne_eqb ((t - offset) % period) 0 (λ q. omega arith))

  -- a period behind a release there is one
  released_again : released_at (Every offset period) (r + period) ≡ true
  released_again =
      let e : (r + period) - offset ≡ (r - offset) + period = omega (arith, released_from) in
      let z : ((r + period) - offset) % period ≡ 0 = ap (λ (y : ℕ). y % period) e ∙ add-mod_right (r - offset) period ∙ released_at_lem in
      rw (le-leb offset (r + period) (omega (arith, released_from)), eq-eqb (((r + period) - offset) % period) 0 z)

-- the release that the walk goes to
pub next_follows : (release : Release) (r : ℕ) → release_obeys release ≡ true → r < 16000 → released_at release r ≡ true
    → Follows release r (next_release release r)
next_follows (Once instant) r h k e = record {
  later = k;
  between = λ t l m. let z : r ≡ instant = eqb-true r instant e in ne_eqb t instant (λ q. omega arith);
  again = λ l. absurd (omega arith);
}
next_follows (Every offset period) r h k e = record {
  later = omega (arith, period_some offset period h);
  between = none_between offset period r e;
  again = λ l. released_again offset period r e;
}

-- the first release is one
pub first_released : (release : Release) → released_at release (first_release release) ≡ true
first_released (Once instant) = eq-eqb instant instant refl
first_released (Every offset period) =
    let e : offset - offset ≡ 0 = omega arith in
    let z : (offset - offset) % period ≡ 0 = ap (λ (y : ℕ). y % period) e ∙ zero-mod period in
    rw (le-leb offset offset (omega arith), eq-eqb ((offset - offset) % period) 0 z)

-- before it there is none
pub none_before : (release : Release) (t : ℕ) → t < first_release release → released_at release t ≡ false
none_before (Once instant) t h = ne_eqb t instant (λ q. omega arith)
none_before (Every offset period) t h = rw (lt-leb offset t h)

-- ---- the work that comes before tick r

-- at tick t, if that is before r
unfoldable pub gains_before : Release → ℕ → ℕ → ℕ → ℕ
gains_before release w r t = pick (ltb t r) (pick (released_at release t) w 0) 0

module _ (release : Release) (w : ℕ) where
  -- before r comes all that is gained
  pub gains_early : (r t : ℕ) → t < r → gains_before release w r t ≡ pick (released_at release t) w 0
  unfolding gains_before
  gains_early r t h = rw (lt-ltb t r h)

  -- later none comes
  gains_late : (r t : ℕ) → r ≤ t → gains_before release w r t ≡ 0
  unfolding gains_before
  gains_late r t h = rw (le-ltb t r h)

  -- none comes before the first release
  pub gains_first : gains_before release w (first_release release) ≡ none
  gains_first = fun_ext (λ t. go t (dec_lt t (first_release release)))
    where
      go : (t : ℕ) → Dec (t < first_release release) → gains_before release w (first_release release) t ≡ 0
      go t (yes h) = gains_early (first_release release) t h ∙ ap (λ b. pick b w 0) (none_before release t h)
      go t (no h) = gains_late (first_release release) t (omega arith)

  -- before the next release comes the work of one more
  pub gains_next : (r next : ℕ) → released_at release r ≡ true → Follows release r next → gains_before release w next ≡ gains_before release w r ⊕ impulse r w
  gains_next r next h f = fun_ext (λ t. go t (ℕ_discrete t r) (dec_lt t r) (dec_lt t next))
    where
      here : (t : ℕ) → t ≡ r → pick (released_at release t) w 0 ≡ w
      here t e = ap (λ (u : ℕ). pick (released_at release u) w 0) e ∙ ap (λ b. pick b w 0) h

      on : (t : ℕ) → t ≡ r → impulse r w t ≡ w
      on t e = rw (eq-eqb t r e)

      off : (t : ℕ) → ¬ (t ≡ r) → impulse r w t ≡ 0
      off t e = rw (ne_eqb t r e)

      go : (t : ℕ) → Dec (t ≡ r) → Dec (t < r) → Dec (t < next) → gains_before release w next t ≡ gains_before release w r t + impulse r w t
      go t (yes e) k l = omega (arith, gains_early next t (omega (arith, f.later)), here t e, on t e, gains_late r t (omega arith))
      go t (no e) (yes k) l = omega (arith, gains_early next t (omega (arith, f.later)), gains_early r t k, off t e)
      go t (no e) (no k) (yes l) =
          omega (arith, gains_early next t l, ap (λ b. pick b w 0) (f.between t (omega arith) l), gains_late r t (omega arith), off t e)
      go t (no e) (no k) (no l) = omega (arith, gains_late next t (omega arith), gains_late r t (omega arith), off t e)
