-- The windows that are ahead of a walk along a curve: those from an index on. Assumes nothing.
use Rattle.std.proofs.Common.{ℕ, Bool, true, false, leb, ◌≡◌, ◌+◌, ◌-◌, ◌≤◌, ◌<◌, List, length, get_or, drop, refl, sym, ap, ◌∙◌, max, arith, length-drop}
use Rattle.std.proofs.lemmas.List.{get_or-drop, drop-drop}
use Rattle.std.proofs.lemmas.Bool.Decides.{leb_tells}
use mathlib.Core.Logic.{◌⊎◌, inl, inr}
use Rattle.basics.specs.Choice.{pick}
use native.Mathlib.Decide.{dec_lt}
use Rattle.holding.specs.declared.Place.{Place}
use Rattle.holding.specs.Pieces.{Entered}
use Rattle.holding.proofs.Standing.{Behind}
use Rattle.holding.proofs.HoldTurns.{Given, Stands, Turn, turn_in, free_window, free_most}

abbrev pub index_of : List ℕ → List ℕ → ℕ
index_of free ahead = length free - length ahead

pub record Ahead (free ahead : List ℕ) : Type 0 where
  pub short : length ahead ≤ length free
  pub rest : ahead ≡ drop (index_of free ahead) free

pub ahead_all : (free : List ℕ) → Ahead free free
ahead_all free = let none : length free - length free ≡ 0 = omega arith in record { short = omega arith; rest = rw none refl }

module _ {free ahead : List ℕ} (w : Ahead free ahead) where
  module _ (pair : 2 ≤ length ahead) where
    pub ahead_there : index_of free ahead < length free
    ahead_there = omega (arith, w.short)

    pub ahead_start : get_or ahead 0 0 ≡ get_or free (index_of free ahead) 0
    ahead_start =
        ap (λ (l : List ℕ). get_or l 0 0) w.rest
        ∙ get_or-drop (index_of free ahead) free 0 0
        ∙ ap (λ (n : ℕ). get_or free n 0) (omega arith)

    pub ahead_end : get_or ahead 1 0 ≡ get_or free (index_of free ahead + 1) 0
    ahead_end = ap (λ (l : List ℕ). get_or l 1 0) w.rest ∙ get_or-drop (index_of free ahead) free 1 0

    -- behind a piece that ends at an instant: the window is used up, or it is not
    pub ahead_behind : (stop : ℕ) → {next : List ℕ} → next ≡ pick (leb (get_or ahead 1 0) stop) (drop 2 ahead) ahead
        → Ahead free next × Behind free (index_of free ahead) stop (index_of free next)
    ahead_behind stop {next} e = go (leb_tells (get_or ahead 1 0) stop)
      where
        index : index_of free (drop 2 ahead) ≡ index_of free ahead + 2
        index = omega (arith, length-drop 2 ahead, w.short)

        passed : Ahead free (drop 2 ahead)
        passed = record {
          short = omega (arith, length-drop 2 ahead, w.short);
          rest = ap (drop 2) w.rest ∙ drop-drop 2 (index_of free ahead) free ∙ ap (λ (n : ℕ). drop n free) (sym index);
        }

        next_is : {b : Bool} → leb (get_or ahead 1 0) stop ≡ b → next ≡ pick b (drop 2 ahead) ahead
        next_is h = e ∙ ap (λ (b : Bool). pick b (drop 2 ahead) ahead) h

        go : ((leb (get_or ahead 1 0) stop ≡ true) × (get_or ahead 1 0 ≤ stop)) ⊎ ((leb (get_or ahead 1 0) stop ≡ false) × (stop < get_or ahead 1 0))
            → Ahead free next × Behind free (index_of free ahead) stop (index_of free next)
        go (inl h) = rw (next_is h.0) (passed, record { used = λ q. index; kept = λ q. absurd (omega (arith, h.1, ahead_end)) })
        go (inr h) = rw (next_is h.0) (w, record { used = λ q. absurd (omega (arith, h.1, ahead_end)); kept = λ q. refl })

-- ---- the walk over a server's free ticks, with what is ahead of it

module _ {C T : ℕ} {demand free ahead : List ℕ} {place : Place} (g : Given T demand free) (w : Ahead free ahead)
    (s : Stands C T demand free place (index_of free ahead)) where
  -- a turn goes on in the window that is ahead
  pub turn_ahead : (pair : 2 ≤ length ahead) → {at : ℕ} → at ≡ max place.at (get_or ahead 0 0) → {r : Place} → Entered C T place at r
      → Turn C T demand free place.at r (index_of free ahead)
  turn_ahead pair e n = turn_in g s (ahead_there w pair) (rw (ahead_start w pair) at e) n

  -- at a tick of the span
  pub at_most : (pair : 2 ≤ length ahead) → {at : ℕ} → at ≡ max place.at (get_or ahead 0 0) → at ≤ 16000
  at_most pair e =
      let k = ahead_there w pair in
      omega (arith, e, ahead_start w pair, s.most, (free_window g s k).rises, free_most g s k)

  -- where no window is ahead there is none
  pub none_ahead : length ahead < 2 → length free ≤ index_of free ahead
  none_ahead h = go (dec_lt (index_of free ahead) (length free))
    where
      go : Dec (index_of free ahead < length free) → length free ≤ index_of free ahead
      go (yes k) = absurd (omega (arith, w.short, (free_window g s k).pair))
      go (no k) = omega arith

pub starts_all : {C T : ℕ} {demand free : List ℕ} {place : Place} → Stands C T demand free place 0 → Stands C T demand free place (index_of free free)
starts_all {free = free} s = let none : length free - length free ≡ 0 = omega arith in rw none s
