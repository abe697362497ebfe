-- Document 01, 'Windows and curves'. A curve is the flat list of its windows' starts and ends. What happens at a tick is told by
-- numbers: f t is how many units tick t has.
use Rattle.std.specs.Prelude.{ℕ, zero, suc, ◌+◌, ◌-◌, ◌%◌, min, max, List, [], ◌∷◌, Bool, true, false, ◌&&◌, length, ltb, leb, eqb, Option, Some, None}
use Rattle.basics.specs.Choice.{pick}

-- ---- windows and curves

-- "A window (s, e) covers ticks s to e−1": 1 where it covers the tick t, and 0 elsewhere
unfoldable pub inside : ℕ → ℕ → ℕ → ℕ
inside s e t = pick (leb s t && ltb t e) 1 0

-- how many windows of a curve cover the tick t: 1 or 0 if the curve is plain
unfoldable pub cover : List ℕ → ℕ → ℕ
cover [] t = 0
cover (s ∷ []) t = 0
cover (s ∷ (e ∷ r)) t = inside s e t + cover r t

-- "its length is e−s": the lengths of all windows together
unfoldable pub size : List ℕ → ℕ
size [] = 0
size (s ∷ []) = 0
size (s ∷ (e ∷ r)) = (e - s) + size r

-- where the last window ends, and 0 if there is none
unfoldable pub end_of : List ℕ → ℕ
end_of [] = 0
end_of (e ∷ []) = e
end_of (s ∷ (e ∷ r)) = end_of (e ∷ r)

-- "plain when s < e in each window, each end is less than the next start, and no end is above 1,000,000"; and no start is below low.
-- A curve of odd length is not plain, the empty one is
unfoldable pub plain_from : ℕ → List ℕ → Bool
plain_from low [] = true
plain_from low (s ∷ []) = false
plain_from low (s ∷ (e ∷ r)) = leb low s && (ltb s e && (leb e 1000000 && plain_from (e + 1) r))

abbrev pub is_plain : List ℕ → Bool
is_plain l = plain_from 0 l

-- a window in front of a curve, unless it is empty
unfoldable pub window : ℕ → ℕ → List ℕ → List ℕ
window a b l = pick (ltb a b) (a ∷ (b ∷ l)) l

-- "Windows that touch are joined in every plain result": a window in front, joined to the first if they touch
unfoldable pub join : ℕ → ℕ → List ℕ → List ℕ
join a b [] = a ∷ (b ∷ [])
join a b (s ∷ []) = a ∷ (b ∷ [])
join a b (s ∷ (e ∷ r)) = pick (eqb b s) (a ∷ (e ∷ r)) (a ∷ (b ∷ (s ∷ (e ∷ r))))

-- the windows of the ticks, of the k from t on, at which f is not 0
unfoldable pub runs : (ℕ → ℕ) → ℕ → ℕ → List ℕ
runs f zero t = []
runs f (suc k) t = pick (ltb 0 (f t)) (join t (suc t) (runs f k (suc t))) (runs f k (suc t))

-- the windows of the ticks below n at which f is not 0
abbrev pub windows_of : (ℕ → ℕ) → ℕ → List ℕ
windows_of f n = runs f n 0

-- how many units the ticks below t have
unfoldable pub upto : (ℕ → ℕ) → ℕ → ℕ
upto f zero = 0
upto f (suc t) = upto f t + f t

-- ---- adding up

-- x t units of work come at tick t, of which sup t can be done there
module _ (x sup : ℕ → ℕ) where
  -- the work that waits before tick t
  unfoldable pub waiting : ℕ → ℕ
  waiting zero = 0
  waiting (suc t) = (waiting t + x t) - min (sup t) (waiting t + x t)

  -- the work that is done at tick t
  unfoldable pub done : ℕ → ℕ
  done t = min (sup t) (waiting t + x t)

-- one unit can be done at every tick
abbrev pub always : ℕ → ℕ
always t = 1

infixl 65 ◌⊕◌
abbrev pub ◌⊕◌ : (ℕ → ℕ) → (ℕ → ℕ) → ℕ → ℕ
(x ⊕ y) t = x t + y t

-- "Each tick of either curve brings one unit of work at that tick. The result is the ticks at which work is done when one unit is done
-- per tick as soon as any waits." All is done when both ends, one behind the other, have passed
abbrev pub add_up : List ℕ → List ℕ → List ℕ
add_up a b = windows_of (done (cover a ⊕ cover b) always) (end_of a + end_of b)

-- ---- cutting

-- a window that starts at a: m and the k - 1 instants behind it lie strictly inside, and it ends at m + k; rest is behind it
unfoldable pub parted : ℕ → ℕ → ℕ → ℕ → List ℕ → List ℕ
parted T a m zero rest = a ∷ (m ∷ rest)
parted T a m (suc k) rest = pick (eqb (m % T) 0) (a ∷ (m ∷ parted T m (suc m) k rest)) (parted T a (suc m) k rest)

-- "each window is parted at every multiple of T strictly inside it, and nothing else changes"
unfoldable pub cut_at : ℕ → List ℕ → List ℕ
cut_at T [] = []
cut_at T (s ∷ []) = []
cut_at T (s ∷ (e ∷ r)) = parted T s (suc s) (e - suc s) (cut_at T r)

-- ---- fitting

-- "Three plain results: supply left, served, demand left"
pub record Fit : Type 0 where
  pub left : List ℕ
  pub served : List ℕ
  pub rest : List ℕ

-- the supply window (ps, pe) ends before the demand starts, and is left
abbrev pub leaving : ℕ → ℕ → Fit → Fit
leaving ps pe o = record { left = ps ∷ (pe ∷ o.left); served = o.served; rest = o.rest }

-- the n ticks from a on are served, and the supply before them, from ps on, is left: "The unused supply keeps both its sides"
abbrev pub part : ℕ → ℕ → ℕ → Fit → Fit
part ps a n o = record { left = window ps a o.left; served = join a (a + n) o.served; rest = o.rest }

-- "Take the first demand window q and the first supply window that ends after q starts. The served part starts at the later of the two
-- starts and is as long as both allow. The unserved rest of q starts at q's start plus the served length. .. When a supply window is
-- used up, the search for the next goes on in the part of the supply that starts there. It ends when demand is empty or no supply
-- window ends after the first demand window's start". k is at least the number of windows looked at
unfoldable pub fit_in : ℕ → List ℕ → List ℕ → Fit
fit_in zero d s = record { left = s; served = []; rest = d }
fit_in (suc k) [] s = record { left = s; served = []; rest = [] }
fit_in (suc k) (q ∷ []) s = record { left = s; served = []; rest = q ∷ [] }
fit_in (suc k) (qs ∷ (qe ∷ d)) [] = record { left = []; served = []; rest = qs ∷ (qe ∷ d) }
fit_in (suc k) (qs ∷ (qe ∷ d)) (p ∷ []) = record { left = p ∷ []; served = []; rest = qs ∷ (qe ∷ d) }
fit_in (suc k) (qs ∷ (qe ∷ d)) (ps ∷ (pe ∷ s)) =
    let a = max qs ps in
    let n = min (qe - qs) (pe - max qs ps) in
    let later = fit_in k (qs ∷ (qe ∷ d)) s in
    let next = fit_in k (window (qs + n) qe d) (window (a + n) pe s) in
    pick (leb pe qs) (leaving ps pe later) (part ps a n next)

unfoldable pub fit : List ℕ → List ℕ → Fit
fit d s = fit_in (length d + length s) d s

-- ---- time to provide

-- the first instant, of the k from t on, at which the curve has given n ticks; `None` is "not provided"
unfoldable pub first_given : List ℕ → ℕ → ℕ → ℕ → Option ℕ
first_given l n zero t = None
first_given l n (suc k) t = pick (eqb (upto (cover l) t) n) (Some t) (first_given l n k (suc t))

-- "the instant at which the curve has given n ticks, or 'not provided' if it has fewer"
abbrev pub provide : List ℕ → ℕ → Option ℕ
provide l n = first_given l n (suc (end_of l)) 0
