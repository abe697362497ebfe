-- The first piece of a cut curve, by the window at the curve's front. Assumes nothing.
use Prim.Native.Nat.{ℕ, ◌+◌, ◌-◌, ◌%◌, ◌≤◌, ◌<◌, max}
use mathlib.Core.Path.{◌≡◌, sym, ap, ◌∙◌}
use mathlib.Core.List.{List, ◌∷◌}
use mathlib.Core.Bool.{true}
use native.Mathlib.Omega.{arith}
use lib.ListN.{length, get_or}
use Rattle.windows.specs.Windows.{is_plain, cut_at}
use Rattle.windows.specs.Walks.{cut_from}
use Rattle.windows.proofs.Cutting.{cut_start, cut_inside, cut_over}
use Rattle.walks.specs.declared.Step.{Step}
use Rattle.walks.specs.declared.cutting.Cut.{Cut}
use Rattle.walks.specs.Steps.{CutSound, Next, pieces_ahead}
use Rattle.windows.proofs.Turns.{plain_turn}
use Rattle.walks.proofs.Fronts.{behind, faces}

-- a plain curve that is not empty has a window
behind_inside : (l : List ℕ) → is_plain (behind l) ≡ true → 0 < length (behind l) → 0 < get_or (behind l) 1 0
behind_inside l h i = let t = plain_turn (behind l) 0 h i in omega (arith, t.front.rises)

module _ (w : Cut) (s : CutSound w) (h : 2 ≤ length w.ahead.now) where
  -- what is left of the window is not empty
  pub piece_rises : max (get_or w.ahead.now 0 0) w.from < get_or w.ahead.now 1 0
  piece_rises = omega (arith, (faces w.ahead.now s.plain h).rises, s.inside (omega arith))

  module _ (a : ℕ) (at_start : a ≡ max (get_or w.ahead.now 0 0) w.from) where
    -- a multiple of the period lies inside: the piece ends there, and the window is not passed
    pub piece_cut : w.period - a % w.period < get_or w.ahead.now 1 0 - a
        → let b = a + (w.period - a % w.period) in
        Next CutSound pieces_ahead w (record { start = a; end = b; behind = record { ahead = w.ahead; from = b; period = w.period } })
    piece_cut k =
        let f = faces w.ahead.now s.plain h in
        let below = piece_rises in
        let b = max (get_or w.ahead.now 0 0) w.from in
        let end = b + (w.period - b % w.period) in
        record {
          is = rw at_start (ap (cut_from w.period w.from) f.is
              ∙ cut_inside w.period w.from (get_or w.ahead.now 0 0) (get_or w.ahead.now 1 0) (behind w.ahead.now) s.period below (rw at_start at k)
              ∙ ap (λ (x : List ℕ). b ∷ (end ∷ cut_from w.period end x)) (sym f.is));
          bounded = omega (arith, f.bounded);
          behind = record { period = s.period; plain = s.plain; inside = λ i. omega arith };
        }

    -- none does: the window's rest is the piece, and it is passed
    pub piece_whole : {step : Step Cut} → get_or w.ahead.now 1 0 - a ≤ w.period - a % w.period → step.start ≡ a → step.end ≡ get_or w.ahead.now 1 0
        → step.behind.ahead.now ≡ behind w.ahead.now → step.behind.from ≡ 0 → step.behind.period ≡ w.period → Next CutSound pieces_ahead w step
    piece_whole {step} k es ee ea ef ep =
        let f = faces w.ahead.now s.plain h in
        let below = piece_rises in
        record {
          is = rw (es, ee, ea, ef, ep, at_start) (ap (cut_from w.period w.from) f.is
              ∙ cut_over w.period w.from (get_or w.ahead.now 0 0) (get_or w.ahead.now 1 0) (behind w.ahead.now) s.period below (rw at_start at k));
          bounded = omega (arith, f.bounded);
          behind = record { period = omega (arith, s.period); plain = rw ea f.later; inside = λ i. rw (ef, ea) (behind_inside w.ahead.now f.later (rw ea at i)) };
        }

-- the whole cut
pub cut_whole : (T : ℕ) (l : List ℕ) → cut_from T 0 l ≡ cut_at T l
cut_whole T l = cut_start T l

pub cut_starts : (T : ℕ) (l : List ℕ) → 0 < T → is_plain l ≡ true → 0 < length l → 0 < get_or l 1 0
cut_starts T l t h i = let w = plain_turn l 0 h i in omega (arith, w.front.rises)
