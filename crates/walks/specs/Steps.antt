-- What the walks of the private functions have before them and must give: cited by their contracts, and by no public one.
use Rattle.std.specs.Prelude.{ℕ, ◌<◌, ◌≤◌, ◌≡◌, List, [], ◌∷◌, true, Option, Some, None, Result, Ok, Err, length, get_or}
use Rattle.windows.specs.Windows.{is_plain, end_of}
use Rattle.windows.specs.Walks.{merge, grown, cut_from}
use Rattle.walks.specs.declared.Step.{Step}
use Rattle.walks.specs.declared.OverLimit.{OverLimit}
use Rattle.walks.specs.declared.cutting.Cut.{Cut}
use Rattle.walks.specs.declared.adding.Sum.{Sum}

-- a window of a walk, and the walk behind it
pub record Next {W : Type 0} (sound : W → Type 0) (ahead : W → List ℕ) (w : W) (step : Step W) : Type 0 where
  pub is : ahead w ≡ step.start ∷ (step.end ∷ ahead step.behind)
  pub bounded : step.end ≤ 1000000
  pub behind : sound step.behind

-- of a walk, the next window, which is in front of what lies ahead behind it; none where nothing lies ahead
abbrev pub Gives : {W : Type 0} → (W → Type 0) → (W → List ℕ) → W → Result (Option (Step W)) OverLimit → Type 0
Gives sound ahead w (Ok (Some step)) = Next sound ahead w step
Gives sound ahead w (Ok None) = ahead w ≡ []
Gives sound ahead w (Err over) = 1000000 < end_of (ahead w)

-- ---- cutting

-- the pieces that are still to come
abbrev pub pieces_ahead : Cut → List ℕ
pieces_ahead w = cut_from w.period w.from w.ahead.now

-- a place in a plain curve, inside its first window
pub record CutSound (w : Cut) : Type 0 where
  pub period : 0 < w.period
  pub plain : is_plain w.ahead.now ≡ true
  pub inside : 0 < length w.ahead.now → w.from < get_or w.ahead.now 1 0

-- ---- adding up

-- the windows of both in order, and their sum
abbrev pub merge_ahead : Sum → List ℕ
merge_ahead w = merge w.a.now w.b.now

abbrev pub sum_ahead : Sum → List ℕ
sum_ahead w = grown (merge_ahead w)

pub record SumSound (w : Sum) : Type 0 where
  pub left : is_plain w.a.now ≡ true
  pub right : is_plain w.b.now ≡ true

-- the next window is one of the second curve, if there is one
pub record SecondNext (w : Sum) : Type 0 where
  pub sound : SumSound w
  pub sooner : 0 < length w.a.now → (0 < length w.b.now) × (get_or w.b.now 0 0 < get_or w.a.now 0 0)

pub record Takes (w : Sum) (step : Step Sum) : Type 0 where
  pub is : merge_ahead w ≡ step.start ∷ (step.end ∷ merge_ahead step.behind)
  pub rises : step.start < step.end
  pub bounded : step.end ≤ 1000000
  pub plain : SumSound step.behind

abbrev pub TakeGives : Sum → Option (Step Sum) → Type 0
TakeGives w (Some step) = Takes w step
TakeGives w None = merge_ahead w ≡ []
