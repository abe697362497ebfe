-- Demand 3, responses: what the answer of a task says of the machine's run. Assumes nothing.
use Prim.Native.Nat.{ℕ, zero, suc, ◌+◌, ◌-◌, ◌*◌, ◌≤◌, ◌<◌}
use mathlib.Core.Path.{◌≡◌, refl, sym, ap, ◌∙◌}
use mathlib.Core.List.{List, [], ◌∷◌}
use mathlib.Core.Logic.{inl, inr}
use mathlib.Core.Bool.{Bool, true, false}
use native.Mathlib.Omega.{arith}
use native.Mathlib.Nat.{one-le-mul}
use native.Mathlib.Decide.{dec_le, ℕ_discrete}
use lib.ListN.{length, get_or}
use Rattle.std.specs.Prelude.{Some, None}
use Rattle.basics.specs.Choice.{pick}
use Rattle.windows.specs.Windows.{cover, upto, provide}
use Rattle.windows.proofs.Counts.{upto_same}
use Rattle.windows.proofs.Providing.{provide_says, provide_reached}
use Rattle.table.specs.declared.Release.{Release}
use Rattle.table.specs.declared.Table.{Table}
use Rattle.table.specs.Places.{task_at, Obeyed}
use Rattle.table.specs.Releases.{released_at}
use Rattle.machine.specs.Run.{runs_in}
use Rattle.table.proofs.Obeyed.{task_some}
use Rattle.schedule.specs.Curves.{releases_from, running_of}
use Rattle.schedule.proofs.FromCurves.{running_inside, running_cover}
use Rattle.schedule.proofs.AsMachine.{run_is_machine}
use Rattle.answers.specs.Answers.{worst, unfinished, none, verdict_of}
use Rattle.answers.specs.Jobs.{Job, releases_of, Ends, Ended, Worst, Unfinished}
use Rattle.answers.proofs.Judging.{JobFrom, finish, Finishes, worst_of, unfinished_of, none_of_lem}

-- ---- jobs

-- a job by its place in the list is one by its number
numbered : (rs : List ℕ) (j i : ℕ) → i < length rs → JobFrom j rs (j + i) (get_or rs i 0)
unfolding JobFrom
numbered [] j i h = absurd (omega arith)
numbered (x ∷ xs) j zero h = inl (omega arith, refl)
numbered (x ∷ xs) j (suc i) h =
    let e : j + suc i ≡ suc j + i = omega arith in
    inr (rw e (numbered xs (suc j) i (omega arith)))

job_numbered : (rs : List ℕ) (n r : ℕ) → Job rs n r → JobFrom 1 rs n r
job_numbered rs n r p =
    let e : 1 + (n - 1) ≡ n = omega (arith, p.some) in
    let w : JobFrom 1 rs (1 + (n - 1)) (get_or rs (n - 1) 0) = numbered rs 1 (n - 1) (omega (arith, p.some, p.most)) in
    rw (e, p.release) at w

-- and the other way round
record Placed (rs : List ℕ) (j n r : ℕ) : Type 0 where
  place : ℕ
  is : n ≡ j + place
  below : place < length rs
  release : get_or rs place 0 ≡ r

placed : (rs : List ℕ) (j n r : ℕ) → JobFrom j rs n r → Placed rs j n r
unfolding JobFrom
placed [] j n r p = absurd p
placed (x ∷ xs) j n r (inl p) = record { place = 0; is = omega (arith, p.0); below = omega arith; release = p.1 }
placed (x ∷ xs) j n r (inr p) =
    let w = placed xs (suc j) n r p in
    record { place = suc w.place; is = omega (arith, w.is); below = omega (arith, w.below); release = w.release }

numbered_job : (rs : List ℕ) (n r : ℕ) → JobFrom 1 rs n r → Job rs n r
numbered_job rs n r p =
    let w = placed rs 1 n r p in
    let e : n - 1 ≡ w.place = omega (arith, w.is) in
    record { some = omega (arith, w.is); most = omega (arith, w.is, w.below); release = rw e w.release }

-- where the list of releases is empty, no tick has one
no_release : (r : Release) (k t : ℕ) → releases_from r k t ≡ [] → (u : ℕ) → t ≤ u → u < t + k → released_at r u ≡ false
unfolding releases_from
no_release r zero t e u a b = absurd (omega arith)
no_release r (suc k) t e u a b = go (released_at r t) refl e (no_release r k (suc t))
  where
    go : (c : Bool) → released_at r t ≡ c → pick c (t ∷ releases_from r k (suc t)) (releases_from r k (suc t)) ≡ []
        → (releases_from r k (suc t) ≡ [] → (u : ℕ) → suc t ≤ u → u < suc t + k → released_at r u ≡ false) → released_at r u ≡ false
    go true i e ih = let z : suc (length (releases_from r k (suc t))) ≡ 0 = ap length e in absurd (omega arith)
    go false i e ih = here (ℕ_discrete u t)
      where
        here : Dec (u ≡ t) → released_at r u ≡ false
        here (yes d) = rw d i
        here (no d) = ih e u (omega arith) (omega arith)

module _ (table : Table) (ok : Obeyed table) (k : ℕ) (h : k < table.tasks_n) where
  abbrev curve : List ℕ
  curve = running_of table k

  abbrev work : ℕ
  work = (task_at table k).work

  -- in the span the curve covers the ticks in which the task runs
  runs_cover : (t : ℕ) → t < table.span → cover curve t ≡ runs_in table k t
  runs_cover t l = running_cover table ok k h t l ∙ run_is_machine table ok k h t

  runs_count : (t : ℕ) → t ≤ table.span → upto (cover curve) t ≡ upto (runs_in table k) t
  runs_count t l = upto_same (cover curve) (runs_in table k) t (λ u m. runs_cover u (omega arith))

  -- a job that is provided ends
  provided_ends : (n t : ℕ) → 1 ≤ n → provide curve (n * work) ≡ Some t → Ends table k n t
  provided_ends n t s e = record { within = in_span; ran = sym (runs_count t in_span) ∙ reached.0; last = ticks }
    where
      reached : (upto (cover curve) t ≡ n * work) × (cover curve (t - 1) ≡ 1)
      reached = provide_reached curve (n * work) 0 (running_inside table ok k h).apart (one-le-mul s (task_some table ok k h)) t e

      not_late : Dec (t ≤ table.span) → t ≤ table.span
      not_late (yes l) = l
      not_late (no l) = absurd (omega (arith, reached.1, (running_inside table ok k h).over (t - 1) (omega arith)))

      in_span : t ≤ table.span
      in_span = not_late (dec_le t table.span)

      ticks : (u : ℕ) → t ≡ suc u → runs_in table k u ≡ 1
      ticks u d =
          let p : t - 1 ≡ u = omega arith in
          sym (runs_cover u (omega (arith, in_span))) ∙ (rw p at reached.1)

  -- one that is not is short at the end of the span
  not_provided_short : (n : ℕ) → 1 ≤ n → provide curve (n * work) ≡ None → upto (runs_in table k) table.span < n * work
  not_provided_short n s e =
      let w = provide_says curve (n * work) 0 (running_inside table ok k h).apart (one-le-mul s (task_some table ok k h)) in
      let v : (j : ℕ) → upto (cover curve) j < n * work = rw e at w in
      omega (arith, v table.span, runs_count table.span (omega arith))

  -- a job that finishes on the curve ends in the machine, at that instant
  abbrev finishes_ended : (n : ℕ) → 1 ≤ n → Finishes curve work n → Ended table k n
  finishes_ended n s e = record { instant = finish curve work n; ends = provided_ends n (finish curve work n) s e }

  pub worst_is : (m q : ℕ) → verdict_of table k ≡ worst m q → Worst table k m q
  unfolding verdict_of
  worst_is m q e =
      let w = worst_of curve work (releases_of table k) none 1 m q e in
      let a = w.from in
      record {
        all = λ n r j. finishes_ended n j.some (w.all n r (job_numbered (releases_of table k) n r j)).ends;
        most = λ n r j. (w.all n r (job_numbered (releases_of table k) n r j)).most;
        job = a.job;
        released = numbered_job (releases_of table k) a.job q a.released;
        attains = a.attains;
        first = λ n r j l. a.first n r (job_numbered (releases_of table k) n r j) l;
      }

  pub unfinished_is : (q : ℕ) → verdict_of table k ≡ unfinished q → Unfinished table k q
  unfolding verdict_of
  unfinished_is q e =
      let u = unfinished_of curve work (releases_of table k) none 1 q refl e in
      let j = numbered_job (releases_of table k) u.job q u.released in
      record {
        job = u.job;
        released = j;
        short = not_provided_short u.job j.some u.short;
        before = λ n r p l. finishes_ended n p.some (u.before n r (job_numbered (releases_of table k) n r p) l);
      }

  -- ---- "For a task with a release in the span": where there is none, no tick of the span has one
  pub none_is : verdict_of table k ≡ none → (t : ℕ) → t < table.span → released_at (task_at table k).release t ≡ false
  unfolding verdict_of
  none_is e t l =
      no_release (task_at table k).release table.span 0 (none_of_lem curve work (releases_of table k) none 1 e) t (omega arith) (omega arith)
