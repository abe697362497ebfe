-- Document 01, 'Servers, one tick at a time': which of the free ticks a server with a capacity and a period holds.
use Rattle.std.specs.Prelude.{ℕ, zero, suc, ◌+◌, ◌-◌, ◌%◌, min, eqb}
use Rattle.basics.specs.Choice.{pick}
use Rattle.windows.specs.Windows.{upto}

-- how many units r has in the period of T ticks that t lies in, at ticks below t
abbrev pub so_far : ℕ → (ℕ → ℕ) → ℕ → ℕ
so_far T r t = upto r t - upto r (t - t % T)

-- the free ticks whose period has fewer than C ticks of r so far
abbrev pub limited : ℕ → ℕ → (ℕ → ℕ) → (ℕ → ℕ) → ℕ → ℕ
limited C T free r t = min (free t) (C - so_far T r t)

-- before a tick: the ticks held so far in its period, and the work that waits
pub record Before : Type 0 where
  pub spent : ℕ
  pub waits : ℕ

-- x t units of work come at tick t, of which the server may do free t there, and C in a period of T ticks
module _ (C T : ℕ) (x free : ℕ → ℕ) where
  -- "each unit at the earliest free tick whose period has fewer than C held ticks so far"
  abbrev pub holds_at : ℕ → Before → ℕ
  holds_at t b = min (min (free t) (C - b.spent)) (b.waits + x t)

  unfoldable pub before : ℕ → Before
  before zero = record { spent = 0; waits = 0 }
  before (suc t) =
      let b = before t in
      record { spent = pick (eqb (suc t % T) 0) 0 (b.spent + holds_at t b); waits = (b.waits + x t) - holds_at t b }

  -- what the server holds of tick t
  unfoldable pub held : ℕ → ℕ
  held t = holds_at t (before t)
