-- How the code goes about it, where that is not document 01's own way: the contracts of private functions cite this, those of the public
-- calls do not. Laws in proofs/ join each to 01's definition.
use Rattle.std.specs.Prelude.{ℕ, suc, ◌+◌, ◌-◌, max, List, [], ◌∷◌, leb, ltb, Option, Some, None}
use Rattle.basics.specs.Choice.{pick}
use Rattle.windows.specs.Windows.{join, parted, cut_at, Fit}

-- ---- adding up: the windows of both in order, each joined to the open one if it starts in time

-- a window put among windows in the order of their starts
unfoldable pub place : ℕ → ℕ → List ℕ → List ℕ
place s e [] = s ∷ (e ∷ [])
place s e (a ∷ []) = s ∷ (e ∷ (a ∷ []))
place s e (a ∷ (b ∷ r)) = pick (leb a s) (a ∷ (b ∷ place s e r)) (s ∷ (e ∷ (a ∷ (b ∷ r))))

-- the windows of both, in the order of their starts
unfoldable pub merge : List ℕ → List ℕ → List ℕ
merge l [] = l
merge l (s ∷ []) = l
merge l (s ∷ (e ∷ r)) = place s e (merge l r)

-- work is being done from s to f, and the windows bring more
unfoldable pub grow : ℕ → ℕ → List ℕ → List ℕ
grow s f [] = s ∷ (f ∷ [])
grow s f (a ∷ []) = s ∷ (f ∷ [])
grow s f (a ∷ (b ∷ r)) = pick (leb a f) (grow s (f + (b - a)) r) (s ∷ (f ∷ grow a b r))

unfoldable pub grown : List ℕ → List ℕ
grown [] = []
grown (a ∷ []) = []
grown (a ∷ (b ∷ r)) = grow a b r

-- ---- time to provide: window after window

unfoldable pub walk : List ℕ → ℕ → Option ℕ
walk [] n = None
walk (s ∷ []) n = None
walk (s ∷ (e ∷ r)) n = pick (leb n (e - s)) (Some (s + n)) (walk r (n - (e - s)))

-- ---- cutting: from the instant `from` in the first window on

unfoldable pub cut_from : ℕ → ℕ → List ℕ → List ℕ
cut_from T from [] = []
cut_from T from (s ∷ []) = []
cut_from T from (s ∷ (e ∷ r)) = parted T (max s from) (suc (max s from)) (e - suc (max s from)) (cut_at T r)

-- ---- fitting: what is left of the first windows, and a piece of one of the three results put in front

-- a curve whose first window starts at q, if it started before
unfoldable pub raise : ℕ → List ℕ → List ℕ
raise q [] = []
raise q (s ∷ []) = s ∷ []
raise q (s ∷ (e ∷ r)) = max s q ∷ (e ∷ r)

abbrev pub served_first : ℕ → ℕ → Fit → Fit
served_first a b o = record { left = o.left; served = a ∷ (b ∷ o.served); rest = o.rest }

abbrev pub rest_first : ℕ → ℕ → Fit → Fit
rest_first a b o = record { left = o.left; served = o.served; rest = a ∷ (b ∷ o.rest) }

-- a served window that is open from a to b, if it is not empty
abbrev pub open_first : ℕ → ℕ → Fit → Fit
open_first a b o = record { left = o.left; served = pick (ltb a b) (join a b o.served) o.served; rest = o.rest }
