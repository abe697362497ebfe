-- The three results of a fitting counted, and written, a piece at a time. Assumes nothing.
use Prim.Native.Nat.{ℕ, ◌+◌}
use mathlib.Core.Path.{◌≡◌, refl}
use mathlib.Core.List.{List}
use mathlib.Core.Bool.{true, and-true}
use lib.ListN.{length, set}
use lib.Dec.{leb}
use borrow.Author.Tests.{le-leb}
use Rattle.windows.specs.Windows.{is_plain, end_of, Fit, fit}
use Rattle.windows.proofs.Ticks.{plain_end}
use Rattle.windows.proofs.Fitting.{fit_left_plain, fit_served_plain, fit_rest_plain}
use Rattle.fitting.specs.Steps.{fits_all, fit_rooms, part_first, window_more}
use Rattle.fitting.specs.declared.Counts.{Counts}
use Rattle.fitting.specs.declared.Part.{Part}
use Rattle.fitting.specs.declared.Part.TheVariants.{Left, Served, Rest}
use Rattle.walks.proofs.Buffers.{Counted, Written, written_pair}

-- how much is to come: a window of a part in front is two numbers more
abbrev pub total : Fit → ℕ
total o = length o.left + (length o.served + length o.rest)

-- ---- counting

pub record FitCounted (whole o : Fit) (rooms free : Counts) : Type 0 where
  pub in_left : Counted whole.left o.left rooms.left free.left
  pub in_served : Counted whole.served o.served rooms.served free.served
  pub in_rest : Counted whole.rest o.rest rooms.rest free.rest

-- ---- writing: `first` are the three buffers as they were lent, `out` as they are

pub record FitWritten (whole o first out : Fit) (n : Counts) : Type 0 where
  pub in_left : Written whole.left o.left first.left out.left n.left
  pub in_served : Written whole.served o.served first.served out.served n.served
  pub in_rest : Written whole.rest o.rest first.rest out.rest n.rest

-- the three with a window put at the place of a part
abbrev pub put_window : List ℕ → ℕ → ℕ → ℕ → List ℕ
put_window out n a b = set (set out n a) (n + 1) b

abbrev pub part_put : Part → Counts → ℕ → ℕ → Fit → Fit
part_put Left n a b out = record { left = put_window out.left n.left a b; served = out.served; rest = out.rest }
part_put Served n a b out = record { left = out.left; served = put_window out.served n.served a b; rest = out.rest }
part_put Rest n a b out = record { left = out.left; served = out.served; rest = put_window out.rest n.rest a b }

pub written_part : (part : Part) (a b : ℕ) (m : Fit) {whole o first out : Fit} {n : Counts} → FitWritten whole o first out n → o ≡ part_first part a b m
    → FitWritten whole m first (part_put part n a b out) (window_more part n)
written_part Left a b m c e = let d = rw e at c in record { in_left = written_pair d.in_left refl; in_served = d.in_served; in_rest = d.in_rest }
written_part Served a b m c e = let d = rw e at c in record { in_left = d.in_left; in_served = written_pair d.in_served refl; in_rest = d.in_rest }
written_part Rest a b m c e = let d = rw e at c in record { in_left = d.in_left; in_served = d.in_served; in_rest = written_pair d.in_rest refl }

-- ---- the results of a fitting end in time, so that only the room counts

ends : (l : List ℕ) → is_plain l ≡ true → leb (end_of l) 1000000 ≡ true
ends l p = le-leb (end_of l) 1000000 (plain_end 0 l p)

pub fits_rooms : (d s : List ℕ) (left served rest : ℕ) → is_plain d ≡ true → is_plain s ≡ true
    → fits_all (fit d s) left served rest ≡ fit_rooms (fit d s) left served rest
fits_rooms d s left served rest p q =
    rw (ends (fit d s).left (fit_left_plain d s p q), ends (fit d s).served (fit_served_plain d s p q), ends (fit d s).rest (fit_rest_plain d s p q))
    (simp and-true)
