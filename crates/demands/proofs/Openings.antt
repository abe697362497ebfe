-- A demand written along the releases: the windows behind are closed, and the last is open. Assumes nothing.
use Prim.Native.Nat.{ℕ, ◌+◌, ◌*◌, ◌≤◌, ◌<◌, min}
use mathlib.Core.Path.{◌≡◌, refl, sym, ap, ◌∙◌, fun_ext}
use mathlib.Core.List.{List, []}
use mathlib.Core.Bool.{true}
use native.Mathlib.Omega.{arith}
use native.Mathlib.Decide.{dec_le, dec_lt}
use lib.ListN.{length, take}
use Rattle.basics.specs.Choice.{pick}
use Rattle.windows.specs.Windows.{inside, cover, plain_from, ◌⊕◌}
use Rattle.windows.proofs.Ticks.{inside_early, inside_late, inside_one, inside_none, Apart, cover_one, plain_apart, apart_same}
use Rattle.windows.proofs.Queue.{none, smooth, smooth_absorbed, smooth_units, done_quiet}
use Rattle.windows.proofs.Adding.{open_longer}
use Rattle.table.specs.declared.Release.{Release}
use Rattle.table.specs.declared.Task.{Task}
use Rattle.table.specs.Releases.{released_at, gains}
use Rattle.schedule.specs.Curves.{demand_of}
use Rattle.schedule.proofs.Impulses.{impulse, impulse_smooth}
use Rattle.schedule.proofs.Demands.{inside_cut, smooth_both, smooth_past, demand_inside, demand_cover}
use Rattle.buffers.specs.Parts.{Curve, Drawn, Wrote, with_window}
use Rattle.demands.specs.Walks.{TaskObeyed, first_release, next_release}
use Rattle.demands.proofs.Releases.{Follows, next_follows, first_released, none_before, gains_before, gains_early, gains_first, gains_next}

-- ---- ticks

-- closed windows before an open one: nothing waits
open_alone : (f : ℕ → ℕ) (s e : ℕ) → ((t : ℕ) → f t ≤ 1) → ((t : ℕ) → s ≤ t → f t ≡ 0) → smooth (f ⊕ inside s e) ≡ f ⊕ inside s e
open_alone f s e one over = smooth_units (f ⊕ inside s e) (λ t. go t (dec_lt t s))
  where
    go : (t : ℕ) → Dec (t < s) → f t + inside s e t ≤ 1
    go t (yes h) = omega (arith, one t, inside_early s e t h)
    go t (no h) = omega (arith, over t (omega arith), inside_one s e t)

-- n units that come while the window is open make it longer by n
open_more : (f : ℕ → ℕ) (s e r n : ℕ) → ((t : ℕ) → f t ≤ 1) → ((t : ℕ) → s ≤ t → f t ≡ 0) → s ≤ r → r ≤ e
    → smooth ((f ⊕ inside s e) ⊕ inside r (r + n)) ≡ f ⊕ inside s (e + n)
open_more f s e r n one over h k =
    ap smooth (fun_ext (λ t. omega arith))
    ∙ sym (smooth_absorbed (inside s e ⊕ inside r (r + n)) f)
    ∙ ap (λ (g : ℕ → ℕ). smooth (g ⊕ f)) (open_longer s e r n h k)
    ∙ ap smooth (fun_ext (λ t. omega arith))
    ∙ open_alone f s (e + n) one over

-- work that comes at tick r, behind work that is done in closed windows and an open one
open_impulse : (x f : ℕ → ℕ) (s e r n : ℕ) → smooth x ≡ f ⊕ inside s e → ((t : ℕ) → f t ≤ 1) → ((t : ℕ) → s ≤ t → f t ≡ 0) → s ≤ r → r ≤ e
    → smooth (x ⊕ impulse r n) ≡ f ⊕ inside s (e + n)
open_impulse x f s e r n is one over h k =
    sym (smooth_both x (impulse r n))
    ∙ ap (λ (g : ℕ → ℕ). smooth (g ⊕ smooth (impulse r n))) is
    ∙ ap (λ (g : ℕ → ℕ). smooth ((f ⊕ inside s e) ⊕ g)) (sym (impulse_smooth r n))
    ∙ open_more f s e r n one over h k

-- ---- the walk: before tick r came the work that the first n numbers of out and the open window (s, e) cover

pub record Walk (release : Release) (w span : ℕ) (first out : List ℕ) (s e n r : ℕ) : Type 0 where
  pub same : length out ≡ length first
  pub curve : Curve out n s
  pub started : s < span
  pub within : s ≤ r
  pub bounded : e ≤ 16000 * r
  pub covers : smooth (gains_before release w r) ≡ cover (take n out) ⊕ inside s e

module _ {release : Release} {w span : ℕ} {first out : List ℕ} {s e n r : ℕ} (k : Walk release w span first out s e n r) where
  -- the closed windows cover a tick once at most
  closed_one : (t : ℕ) → cover (take n out) t ≤ 1
  closed_one t = cover_one (take n out) 0 t (plain_apart 0 (take n out) k.curve.curve.plain)

  -- the open window is closed, and an empty one opened at the next release
  pub walk_close : {new : List ℕ} {m : ℕ} → e < r → r < span → Drawn out new m (with_window (take n out) s e) → Walk release w span first new r r m r
  walk_close {new} {m} h l d = record {
    same = d.same ∙ k.same;
    curve = record {
      room = omega (arith, d.same, k.curve.room);
      count = d.count;
      curve = record {
        plain = d.plain;
        over = λ t q. omega (arith, d.covers t, k.curve.curve.over t (omega (arith, k.within)), inside_late s e t (omega arith));
      };
    };
    started = l;
    within = omega arith;
    bounded = omega arith;
    covers = k.covers ∙ fun_ext (λ t. omega (arith, d.covers t, inside_none r r t (omega arith)));
  }

  -- one release more, while the window is open
  pub walk_next : {next : ℕ} → w ≤ 16000 → r ≤ e → released_at release r ≡ true → Follows release r next → Walk release w span first out s (e + w) n next
  walk_next {next} most h q f = record {
    same = k.same;
    curve = k.curve;
    started = k.started;
    within = omega (arith, k.within, f.later);
    bounded = omega (arith, k.bounded, f.later);
    covers =
        ap smooth (gains_next release w r next q f)
        ∙ open_impulse (gains_before release w r) (cover (take n out)) s e r w k.covers closed_one k.curve.curve.over k.within h;
  }

-- ---- the first release

module _ (task : Task) (span : ℕ) (out : List ℕ) (ok : TaskObeyed task) (small : span ≤ 16000) (room : 16000 ≤ length out) where
  -- nothing written, and the open window empty at the first release
  walk_empty : first_release task.release < span
      → Walk task.release task.work span out out (first_release task.release) (first_release task.release) 0 (first_release task.release)
  unfolding cover plain_from
  walk_empty h =
      let s = first_release task.release in
      record {
        same = refl;
        curve = record { room = room; count = omega arith; curve = record { plain = refl; over = λ t q. refl } };
        started = h;
        within = omega arith;
        bounded = omega arith;
        covers =
            ap smooth (gains_first task.release task.work)
            ∙ smooth_units none (λ t. omega arith)
            ∙ fun_ext (λ t. omega (arith, inside_none s s t (omega arith)));
      }

  -- the window of the first release is open
  pub walk_first : first_release task.release < span
      → Walk task.release task.work span out out (first_release task.release) (first_release task.release + task.work) 0 (next_release task.release (first_release task.release))
  walk_first h =
      walk_next (walk_empty h) ok.most (omega arith) (first_released task.release)
      (next_follows task.release (first_release task.release) ok.release (omega arith) (first_released task.release))

  -- a curve below the span that covers the work of the task is its demand
  demand_is : (l : List ℕ) → Apart 0 l → ((t : ℕ) → t < span → cover l t ≡ smooth (gains task) t) → ((t : ℕ) → span ≤ t → cover l t ≡ 0)
      → l ≡ demand_of span task
  demand_is l p f g = apart_same l (demand_of span task) 0 p (demand_inside span task ok.some).apart (λ t. go t (dec_lt t span))
    where
      go : (t : ℕ) → Dec (t < span) → cover l t ≡ cover (demand_of span task) t
      go t (yes h) = f t h ∙ sym (demand_cover span task ok.some t h)
      go t (no h) = g t (omega arith) ∙ sym ((demand_inside span task ok.some).over t (omega arith))

  -- a task that is first released at the end of the span or later demands nothing
  pub demand_none : span ≤ first_release task.release → Wrote out out 0 (demand_of span task)
  unfolding cover
  demand_none h = record {
    same = refl;
    count = omega arith;
    front =
        demand_is [] tt
        (λ t k. sym (done_quiet (gains task) (λ _. 1) span (λ u l. ap (λ b. pick b task.work 0) (none_before task.release u (omega arith))) t k))
        (λ t k. refl);
  }

  -- ---- the last window

  module _ {now new : List ℕ} {s e n r m : ℕ} (k : Walk task.release task.work span out now s e n r) (past : span ≤ r)
      (d : Drawn now new m (with_window (take n now) s (min e span))) where
    -- below the span it is covered what the task gains
    last_covers : (t : ℕ) → t < span → cover (take m new) t ≡ smooth (gains task) t
    last_covers t h =
        d.covers t
        ∙ ap (λ (x : ℕ). cover (take n now) t + x) (inside_cut span s e t h (dec_le e span) (dec_le s t))
        ∙ ap (λ (f : ℕ → ℕ). f t) (sym k.covers)
        ∙ smooth_past (gains_before task.release task.work r) (gains task) t (λ u l. gains_early task.release task.work r u (omega arith))

    -- from the end of the span on it covers nothing
    last_over : (t : ℕ) → span ≤ t → cover (take m new) t ≡ 0
    last_over t h =
        omega (arith, d.covers t, k.curve.curve.over t (omega (arith, k.started)), inside_late s (min e span) t (omega arith))

    -- what is written is the demand
    pub demand_last : Wrote out new m (demand_of span task)
    demand_last = record {
      same = d.same ∙ k.same;
      count = d.count;
      front = demand_is (take m new) (plain_apart 0 (take m new) d.plain) last_covers last_over;
    }
