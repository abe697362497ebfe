-- How the walk over a server's free ticks goes, piece by piece: cited by the contracts of private functions only.
use Rattle.std.specs.Prelude.{ℕ, ◌+◌, ◌-◌, ◌%◌, ◌≤◌, ◌<◌, ◌≡◌, List, length, get_or}
use Rattle.windows.specs.Windows.{cover}
use Rattle.windows.specs.Servers.{held}
use Rattle.holding.specs.declared.Place.{Place}
use Rattle.holding.specs.declared.Piece.{Piece}
use Rattle.holding.specs.declared.Piece.TheVariants.{Held, Left}

-- the ticks of a free curve that a demand takes, at most C in each period of T ticks, and those that it leaves
abbrev pub held_from : ℕ → ℕ → List ℕ → List ℕ → ℕ → ℕ
held_from C T demand free = held C T (cover demand) (cover free)

abbrev pub left_from : ℕ → ℕ → List ℕ → List ℕ → ℕ → ℕ
left_from C T demand free t = cover free t - held_from C T demand free t

-- before the first tick, with no period under way
abbrev pub first_place : List ℕ → Place
first_place demand = record { demand = 0; wanted = get_or demand 0 0; at = 0; until = 0; budget = 0 }

-- the place w, gone on to `at`: a period that is over is followed by the one that `at` lies in
pub record Entered (C T : ℕ) (w : Place) (at : ℕ) (r : Place) : Type 0 where
  pub demand : r.demand ≡ w.demand
  pub wanted : r.wanted ≡ w.wanted
  pub there : r.at ≡ at
  pub kept : at < w.until → (r.until ≡ w.until) × (r.budget ≡ w.budget)
  pub anew : w.until ≤ at → (r.until ≡ at - at % T + T) × (r.budget ≡ C)

-- at a free tick of a window that ends at `end`, inside a period and before the end of the window of demand
pub record Offered (demand : List ℕ) (w : Place) (end : ℕ) : Type 0 where
  pub soon : w.at < end
  pub most : end ≤ 16000
  pub under : w.at < w.until
  pub pair : w.demand < length demand → w.demand + 1 < length demand
  pub wants : w.demand < length demand → w.wanted < get_or demand (w.demand + 1) 0

-- the ticks up to `stop` can be held: the demand has come, and the window of demand, the period and the budget allow as many
pub record Holds (demand : List ℕ) (w : Place) (stop : ℕ) : Type 0 where
  pub some : w.at < stop
  pub pair : w.demand + 1 < length demand
  pub come : w.wanted ≤ w.at
  pub window : w.wanted + stop ≤ w.at + get_or demand (w.demand + 1) 0
  pub period : stop ≤ w.until
  pub budget : stop ≤ w.at + w.budget

-- the ticks up to `stop` can not be held: no demand is left, or it comes later, or no budget is left in the period
pub data Leaves (demand : List ℕ) (w : Place) (stop : ℕ) : Type 0 where
  done : length demand ≤ w.demand → Leaves demand w stop
  later : w.demand < length demand → stop ≤ w.wanted → Leaves demand w stop
  spent : w.budget ≡ 0 → stop ≤ w.until → Leaves demand w stop

-- a piece of a window that ends at `end`: some ticks, that can be held, or can not
abbrev pub Cuts : List ℕ → Place → ℕ → Piece → Type 0
Cuts demand w end (Held stop) = (w.at < stop) × (stop ≤ end) × Holds demand w stop
Cuts demand w end (Left stop) = (w.at < stop) × (stop ≤ end) × Leaves demand w stop

-- a window of demand is left in part, or used up and the next one follows
pub data Moved (demand : List ℕ) (w : Place) (stop : ℕ) (r : Place) : Type 0 where
  part : w.wanted + stop < w.at + get_or demand (w.demand + 1) 0 → r.demand ≡ w.demand → r.wanted + w.at ≡ w.wanted + stop → Moved demand w stop r
  whole : w.wanted + stop ≡ w.at + get_or demand (w.demand + 1) 0 → r.demand ≡ w.demand + 2 → r.wanted ≡ get_or demand (w.demand + 2) 0
      → Moved demand w stop r

pub record Served (demand : List ℕ) (w : Place) (stop : ℕ) (r : Place) : Type 0 where
  pub there : r.at ≡ stop
  pub until : r.until ≡ w.until
  pub budget : r.budget + stop ≡ w.budget + w.at
  pub moved : Moved demand w stop r
