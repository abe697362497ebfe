-- What the walk of a fitting has before it and must give, and the room that its results need (01, number 11).
use Rattle.std.specs.Prelude.{ℕ, ◌+◌, ◌≤◌, ◌<◌, max, ◌≡◌, List, [], ◌∷◌, Bool, true, ◌&&◌, length, get_or, drop, leb, Option, Some, None}
use Rattle.basics.specs.Choice.{pick}
use Rattle.windows.specs.Windows.{is_plain, plain_from, window, Fit, leaving, fit}
use Rattle.windows.specs.Walks.{raise, served_first, rest_first}
use Rattle.fitting.specs.declared.Fitting.{Fitting}
use Rattle.fitting.specs.declared.Stretch.{Stretch}
use Rattle.fitting.specs.declared.Counts.{Counts}
use Rattle.fitting.specs.declared.Piece.{Piece}
use Rattle.fitting.specs.declared.Part.{Part}
use Rattle.fitting.specs.declared.Part.TheVariants.{Left, Served, Rest}
use Rattle.walks.specs.Rooms.{fits_in}

-- ---- fitting

-- what is left of the demand and of the supply, and their fitting
abbrev pub demand_ahead : Fitting → List ℕ
demand_ahead w = raise w.wanted w.demand.now

abbrev pub supply_ahead : Fitting → List ℕ
supply_ahead w = raise w.free w.supply.now

abbrev pub fit_ahead : Fitting → Fit
fit_ahead w = fit (demand_ahead w) (supply_ahead w)

-- what a fitting stands on
pub record FitSound (w : Fitting) : Type 0 where
  pub demand : is_plain (demand_ahead w) ≡ true
  pub supply : is_plain (supply_ahead w) ≡ true

-- a window in front of one of the three results
abbrev pub part_first : Part → ℕ → ℕ → Fit → Fit
part_first Left = leaving
part_first Served = served_first
part_first Rest = rest_first

-- the fitting is the one behind the piece with the piece in front
pub record Goes (w : Fitting) (p : Piece) : Type 0 where
  pub is : fit_ahead w ≡ part_first p.part p.start p.end (fit_ahead p.behind)
  pub sound : FitSound p.behind

abbrev pub FitGives : Fitting → Option Piece → Type 0
FitGives w (Some p) = Goes w p
FitGives w None = fit_ahead w ≡ record { left = []; served = []; rest = [] }

-- a curve handed on by its place: from one of its numbers on, or from its end
pub record ByPlace (curve ahead : List ℕ) : Type 0 where
  pub place : ℕ
  pub inside : place ≤ length curve
  pub is : ahead ≡ drop place curve

-- and from its first window that is not yet used up or passed at an instant: without the first, where that has ended by then
pub record Unpassed (curve : List ℕ) (instant : ℕ) (ahead : List ℕ) : Type 0 where
  pub by_place : ByPlace curve ahead
  pub few : by_place.place ≤ 2
  pub is : ahead ≡ pick (leb (get_or curve 1 0) instant) (drop 2 curve) curve

-- what is handed on behind a piece: "the search for the next goes on in the part of the supply that starts there"
pub record HandsOn (w : Fitting) (p : Piece) : Type 0 where
  pub supply : Unpassed w.supply.now p.end p.behind.supply.now
  pub demand : ByPlace w.demand.now p.behind.demand.now

-- the demand alone is left
pub record Unsupplied (w : Fitting) : Type 0 where
  pub demand : is_plain (demand_ahead w) ≡ true
  pub none : w.supply.now ≡ []

-- an instant of what is left of the first supply window, or its end
pub record InSupply (w : Fitting) (till : ℕ) : Type 0 where
  pub plain : is_plain (supply_ahead w) ≡ true
  pub some : 2 ≤ length w.supply.now
  pub after : max (get_or w.supply.now 0 0) w.free ≤ till
  pub within : till ≤ get_or w.supply.now 1 0

-- the supply from there on, and the same demand
pub record Supplied (w : Fitting) (till : ℕ) (v : Fitting) : Type 0 where
  pub demand : v.demand.now ≡ w.demand.now
  pub wanted : v.wanted ≡ w.wanted
  pub supply : supply_ahead v ≡ window till (get_or w.supply.now 1 0) (drop 2 w.supply.now)
  pub plain : is_plain (supply_ahead v) ≡ true

-- demand that starts at `from` or before, and a supply window from there to `end`
pub record InStretch (w : Fitting) (from end : ℕ) : Type 0 where
  pub plain : is_plain (demand_ahead w) ≡ true
  pub some : 0 < length w.demand.now
  pub starts : max (get_or w.demand.now 0 0) w.wanted ≤ from
  pub below : from < end
  pub bounded : end ≤ 1000000

abbrev pub demand_behind : Stretch → List ℕ
demand_behind r = raise r.wanted r.demand.now

pub record Stretches (w : Fitting) (from end : ℕ) (r : Stretch) : Type 0 where
  pub rises : from < r.till
  pub within : r.till ≤ end
  pub plain : is_plain (demand_behind r) ≡ true
  pub is : (s : List ℕ) → plain_from (end + 1) s ≡ true
      → fit (demand_ahead w) (from ∷ (end ∷ s)) ≡ served_first from r.till (fit (demand_behind r) (window r.till end s))

-- ---- the room that the three results need

abbrev pub fit_rooms : Fit → ℕ → ℕ → ℕ → Bool
fit_rooms o left served rest = leb (length o.left) left && (leb (length o.served) served && leb (length o.rest) rest)

-- of a part, its count; and the counts with a window more in it
abbrev pub count_of : Part → Counts → ℕ
count_of Left n = n.left
count_of Served n = n.served
count_of Rest n = n.rest

abbrev pub window_more : Part → Counts → Counts
window_more Left n = record { left = n.left + 2; served = n.served; rest = n.rest }
window_more Served n = record { left = n.left; served = n.served + 2; rest = n.rest }
window_more Rest n = record { left = n.left; served = n.served; rest = n.rest + 2 }

-- what is left of a room that a window of a part is taken from
abbrev pub RoomGives : Part → Counts → Option Counts → Type 0
RoomGives part room (Some less) = room ≡ window_more part less
RoomGives part room None = count_of part room < 2

pub record FitWrites (o : Fit) (n : Counts) : Type 0 where
  pub left : n.left ≡ length o.left
  pub served : n.served ≡ length o.served
  pub rest : n.rest ≡ length o.rest

-- ---- number 11

-- each result has its own buffer
abbrev pub fits_all : Fit → ℕ → ℕ → ℕ → Bool
fits_all o left served rest = fits_in o.left left && (fits_in o.served served && fits_in o.rest rest)
