-- What the judgement of a list of jobs says of each of them. Assumes nothing.
use Prim.Native.Nat.{ℕ, suc, ◌-◌, ◌*◌, ◌≤◌, ◌<◌}
use mathlib.Core.Path.{◌≡◌, refl, sym, ap, ◌∙◌}
use mathlib.Core.List.{List, [], ◌∷◌}
use mathlib.Core.Logic.{◌⊎◌, inl, inr}
use mathlib.Core.Bool.{Bool, true, false, true≢false}
use native.Mathlib.Omega.{arith}
use lib.Dec.{ltb}
use borrow.Author.Tests.{ltb-true, ltb-false}
use Rattle.std.specs.Prelude.{Option, Some, None}
use Rattle.basics.specs.Choice.{pick}
use Rattle.windows.specs.Windows.{provide}
use Rattle.answers.specs.Answers.{Verdict, worst, unfinished, none, worse, after_job, judged}

-- ---- outcomes, told apart

abbrev is_none : Verdict → Bool
is_none (worst m q) = false
is_none (unfinished q) = false
is_none none = true

abbrev is_worst : Verdict → Bool
is_worst (worst m q) = true
is_worst (unfinished q) = false
is_worst none = false

abbrev response_in : Verdict → ℕ
response_in (worst m q) = m
response_in (unfinished q) = 0
response_in none = 0

abbrev release_in : Verdict → ℕ
release_in (worst m q) = q
release_in (unfinished q) = q
release_in none = 0

-- the instant of an answer, and 0 if there is none
abbrev pub instant_of : Option ℕ → ℕ
instant_of (Some t) = t
instant_of None = 0

-- ---- jobs, numbered from j on

-- job n of the list is released at r
unfoldable pub JobFrom : ℕ → List ℕ → ℕ → ℕ → Type 0
JobFrom j [] n r = ⊥
JobFrom j (x ∷ xs) n r = ((n ≡ j) × (x ≡ r)) ⊎ JobFrom (suc j) xs n r

-- no job of the list has a number below j
pub job_from : (j : ℕ) (rs : List ℕ) (n r : ℕ) → JobFrom j rs n r → j ≤ n
unfolding JobFrom
job_from j [] n r p = absurd p
job_from j (x ∷ xs) n r (inl p) = omega (arith, p.0)
job_from j (x ∷ xs) n r (inr p) = omega (arith, job_from (suc j) xs n r p)

module _ (running : List ℕ) (work : ℕ) where
  -- when job n ends, or 0 if it does not
  abbrev pub finish : ℕ → ℕ
  finish n = instant_of (provide running (n * work))

  -- job n ends
  abbrev pub Finishes : ℕ → Type 0
  Finishes n = provide running (n * work) ≡ Some (finish n)

  finish_is : (n t : ℕ) → provide running (n * work) ≡ Some t → finish n ≡ t
  finish_is n t e = ap instant_of e

  finishes : (n t : ℕ) → provide running (n * work) ≡ Some t → Finishes n
  finishes n t e = e ∙ ap Some (sym (finish_is n t e))

  -- job n, released at r, ends with a response of m at most
  pub record Met (m n r : ℕ) : Type 0 where
    pub ends : Finishes n
    pub most : finish n - r ≤ m

  -- the first of the jobs to have the response m is released at q
  pub record Attained (j : ℕ) (rs : List ℕ) (m q : ℕ) : Type 0 where
    pub job : ℕ
    pub released : JobFrom j rs job q
    pub attains : finish job - q ≡ m
    pub first : (n r : ℕ) → JobFrom j rs n r → n < job → finish n - r < m

  -- where the worst response m comes from: from before, or from a job that is the first to have it
  abbrev pub From : Verdict → ℕ → List ℕ → ℕ → ℕ → Type 0
  From (worst a b) j rs m q = ((a ≡ m) × (b ≡ q)) ⊎ ((a < m) × Attained j rs m q)
  From (unfinished b) j rs m q = ⊥
  From none j rs m q = Attained j rs m q

  -- ---- one job more in front

  module _ (j t r : ℕ) (rs : List ℕ) (e : provide running (j * work) ≡ Some t) where
    -- it is the first to have the response
    front_attains : (m q : ℕ) → t - r ≡ m → r ≡ q → Attained j (r ∷ rs) m q
    unfolding JobFrom
    front_attains m q a b = record {
      job = j;
      released = inl (refl, b);
      attains = omega (arith, finish_is j t e);
      first = λ n x p h. absurd (omega (arith, job_from j (r ∷ rs) n x p));
    }

    -- a later one is
    later_attains : (m q : ℕ) → t - r < m → Attained (suc j) rs m q → Attained j (r ∷ rs) m q
    unfolding JobFrom
    later_attains m q h a = record { job = a.job; released = inr a.released; attains = a.attains; first = sooner }
      where
        sooner : (n x : ℕ) → JobFrom j (r ∷ rs) n x → n < a.job → finish n - x < m
        sooner n x (inl p) k = rw (p.0, sym p.1, finish_is j t e) h
        sooner n x (inr p) k = a.first n x p k

    -- what was the worst before it
    from_front : (sofar : Verdict) (m q : ℕ) → From (worse sofar (t - r) r) (suc j) rs m q → From sofar j (r ∷ rs) m q
    from_front none m q (inl p) = front_attains m q p.0 p.1
    from_front none m q (inr p) = later_attains m q p.0 p.1
    from_front (unfinished b) m q p = p
    from_front (worst a b) m q p = go (ltb a (t - r)) refl p
      where
        go : (c : Bool) → ltb a (t - r) ≡ c → From (pick c (worst (t - r) r) (worst a b)) (suc j) rs m q → From (worst a b) j (r ∷ rs) m q
        go true i (inl p) = inr (omega (arith, ltb-true a (t - r) i, p.0), front_attains m q p.0 p.1)
        go true i (inr p) = inr (omega (arith, ltb-true a (t - r) i, p.0), later_attains m q p.0 p.1)
        go false i (inl p) = inl p
        go false i (inr p) = inr (p.0, later_attains m q (omega (arith, ltb-false a (t - r) i, p.0)) p.1)

    -- its response is no more than the worst
    front_most : (sofar : Verdict) (m q : ℕ) → From (worse sofar (t - r) r) (suc j) rs m q → t - r ≤ m
    front_most none m q (inl p) = omega (arith, p.0)
    front_most none m q (inr p) = omega (arith, p.0)
    front_most (unfinished b) m q p = absurd p
    front_most (worst a b) m q p = go (ltb a (t - r)) refl p
      where
        go : (c : Bool) → ltb a (t - r) ≡ c → From (pick c (worst (t - r) r) (worst a b)) (suc j) rs m q → t - r ≤ m
        go true i (inl p) = omega (arith, p.0)
        go true i (inr p) = omega (arith, p.0)
        go false i (inl p) = omega (arith, ltb-false a (t - r) i, p.0)
        go false i (inr p) = omega (arith, ltb-false a (t - r) i, p.0)

  -- ---- the worst response

  -- what the worst response m, of the job released at q, says of the jobs of a list
  pub record WorstOf (sofar : Verdict) (j : ℕ) (rs : List ℕ) (m q : ℕ) : Type 0 where
    pub all : (n r : ℕ) → JobFrom j rs n r → Met m n r
    pub from : From sofar j rs m q

  -- no job is left
  worst_kept : (sofar : Verdict) (j m q : ℕ) → sofar ≡ worst m q → WorstOf sofar j [] m q
  unfolding JobFrom
  worst_kept (worst a b) j m q e = record { all = λ n r p. absurd p; from = inl (ap response_in e, ap release_in e) }
  worst_kept (unfinished b) j m q e = absurd (true≢false (sym (ap is_worst e)))
  worst_kept none j m q e = absurd (true≢false (sym (ap is_worst e)))

  -- one job more in front
  worst_front : (sofar : Verdict) (j t r : ℕ) (rs : List ℕ) (m q : ℕ) → provide running (j * work) ≡ Some t
      → WorstOf (worse sofar (t - r) r) (suc j) rs m q → WorstOf sofar j (r ∷ rs) m q
  unfolding JobFrom
  worst_front sofar j t r rs m q e w = record { all = each; from = from_front j t r rs e sofar m q w.from }
    where
      each : (n x : ℕ) → JobFrom j (r ∷ rs) n x → Met m n x
      each n x (inl p) =
          rw (p.0, sym p.1)
          (record { ends = finishes j t e; most = rw (finish_is j t e) (front_most j t r rs e sofar m q w.from) })
      each n x (inr p) = w.all n x p

  pub worst_of : (rs : List ℕ) (sofar : Verdict) (j m q : ℕ) → judged running work j rs sofar ≡ worst m q → WorstOf sofar j rs m q
  unfolding judged
  worst_of [] sofar j m q e = worst_kept sofar j m q e
  worst_of (r ∷ rs) sofar j m q e = go (provide running (j * work)) refl e (λ t. worst_of rs (worse sofar (t - r) r) (suc j) m q)
    where
      go : (x : Option ℕ) → provide running (j * work) ≡ x → after_job x r sofar (judged running work (suc j) rs) ≡ worst m q
          → ((t : ℕ) → judged running work (suc j) rs (worse sofar (t - r) r) ≡ worst m q → WorstOf (worse sofar (t - r) r) (suc j) rs m q)
          → WorstOf sofar j (r ∷ rs) m q
      go (Some t) i e ih = worst_front sofar j t r rs m q i (ih t e)
      go None i e ih = absurd (true≢false (sym (ap is_worst e)))

  -- ---- the first job that does not end

  pub record UnfinishedOf (j : ℕ) (rs : List ℕ) (q : ℕ) : Type 0 where
    pub job : ℕ
    pub released : JobFrom j rs job q
    pub short : provide running (job * work) ≡ None
    pub before : (n r : ℕ) → JobFrom j rs n r → n < job → Finishes n

  -- nothing is unfinished so far
  abbrev is_settled : Verdict → Bool
  is_settled (worst m q) = true
  is_settled (unfinished q) = false
  is_settled none = true

  settled_worse : (sofar : Verdict) (n r : ℕ) → is_settled sofar ≡ true → is_settled (worse sofar n r) ≡ true
  settled_worse none n r e = refl
  settled_worse (unfinished b) n r e = e
  settled_worse (worst a b) n r e = go (ltb a n)
    where
      go : (c : Bool) → is_settled (pick c (worst n r) (worst a b)) ≡ true
      go true = refl
      go false = refl

  -- the job in front is the first
  front_unfinished : (j r : ℕ) (rs : List ℕ) (q : ℕ) → provide running (j * work) ≡ None → r ≡ q → UnfinishedOf j (r ∷ rs) q
  unfolding JobFrom
  front_unfinished j r rs q e i = record {
    job = j;
    released = inl (refl, i);
    short = e;
    before = λ n x p h. absurd (omega (arith, job_from j (r ∷ rs) n x p));
  }

  -- a later one is
  later_unfinished : (j t r : ℕ) (rs : List ℕ) (q : ℕ) → provide running (j * work) ≡ Some t → UnfinishedOf (suc j) rs q → UnfinishedOf j (r ∷ rs) q
  unfolding JobFrom
  later_unfinished j t r rs q e u = record { job = u.job; released = inr u.released; short = u.short; before = sooner }
    where
      sooner : (n x : ℕ) → JobFrom j (r ∷ rs) n x → n < u.job → Finishes n
      sooner n x (inl p) k = rw p.0 (finishes j t e)
      sooner n x (inr p) k = u.before n x p k

  pub unfinished_of : (rs : List ℕ) (sofar : Verdict) (j q : ℕ) → is_settled sofar ≡ true → judged running work j rs sofar ≡ unfinished q
      → UnfinishedOf j rs q
  unfolding judged
  unfinished_of [] sofar j q s e = absurd (true≢false (sym s ∙ ap is_settled e))
  unfinished_of (r ∷ rs) sofar j q s e =
      go (provide running (j * work)) refl e (λ t. unfinished_of rs (worse sofar (t - r) r) (suc j) q (settled_worse sofar (t - r) r s))
    where
      go : (x : Option ℕ) → provide running (j * work) ≡ x → after_job x r sofar (judged running work (suc j) rs) ≡ unfinished q
          → ((t : ℕ) → judged running work (suc j) rs (worse sofar (t - r) r) ≡ unfinished q → UnfinishedOf (suc j) rs q)
          → UnfinishedOf j (r ∷ rs) q
      go (Some t) i e ih = later_unfinished j t r rs q i (ih t e)
      go None i e ih = front_unfinished j r rs q i (ap release_in e)

  -- ---- no job

  some_worse : (sofar : Verdict) (n r : ℕ) → is_none (worse sofar n r) ≡ false
  some_worse none n r = refl
  some_worse (unfinished b) n r = refl
  some_worse (worst a b) n r = go (ltb a n)
    where
      go : (c : Bool) → is_none (pick c (worst n r) (worst a b)) ≡ false
      go true = refl
      go false = refl

  -- once there is an outcome, there is one at the end
  some_stays : (rs : List ℕ) (sofar : Verdict) (j : ℕ) → is_none sofar ≡ false → is_none (judged running work j rs sofar) ≡ false
  unfolding judged
  some_stays [] sofar j s = s
  some_stays (r ∷ rs) sofar j s = go (provide running (j * work)) (λ t. some_stays rs (worse sofar (t - r) r) (suc j) (some_worse sofar (t - r) r))
    where
      go : (x : Option ℕ) → ((t : ℕ) → is_none (judged running work (suc j) rs (worse sofar (t - r) r)) ≡ false)
          → is_none (after_job x r sofar (judged running work (suc j) rs)) ≡ false
      go (Some t) ih = ih t
      go None ih = refl

  -- where there is none at the end, there is no job
  pub none_of_lem : (rs : List ℕ) (sofar : Verdict) (j : ℕ) → judged running work j rs sofar ≡ none → rs ≡ []
  unfolding judged
  none_of_lem [] sofar j e = refl
  none_of_lem (r ∷ rs) sofar j e = absurd (go (provide running (j * work)) e)
    where
      go : (x : Option ℕ) → after_job x r sofar (judged running work (suc j) rs) ≡ none → ⊥
      go (Some t) e = true≢false (sym (ap is_none e) ∙ some_stays rs (worse sofar (t - r) r) (suc j) (some_worse sofar (t - r) r))
      go None e = true≢false (sym (ap is_none e))
