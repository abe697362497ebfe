-- What of a result has to be counted before it is written. Assumes nothing.
use Rattle.std.proofs.Common.{◌≡◌, ℕ, List, true, length}
use mathlib.Core.Bool.{and-true}
use lib.Dec.{leb}
use borrow.Author.Tests.{le-leb}
use Rattle.windows.specs.Windows.{is_plain, cut_at, fit, end_of}
use Rattle.windows.proofs.Ticks.{plain_apart, plain_end}
use Rattle.windows.proofs.Cutting.{cut_end}
use Rattle.walks.specs.Rooms.{fits_in}
use Rattle.fitting.specs.Steps.{fits_all, fit_rooms}
use Rattle.fitting.proofs.Fittings.{fits_rooms}

-- of a cut its numbers alone: it ends where the curve ends
pub cut_room : (curve : List ℕ) (T room : ℕ) → is_plain curve ≡ true → fits_in (cut_at T curve) room ≡ leb (length (cut_at T curve)) room
cut_room curve T room h =
    let ends : leb (end_of (cut_at T curve)) 1000000 ≡ true = le-leb (end_of (cut_at T curve)) 1000000 (cut_end T 0 1000000 curve (plain_apart 0 curve h) (plain_end 0 curve h)) in
    rw (ends, and-true)

-- and of what fitting makes
pub fit_room : (demand supply : List ℕ) (left served rest : ℕ) → is_plain demand ≡ true → is_plain supply ≡ true
    → fits_all (fit demand supply) left served rest ≡ fit_rooms (fit demand supply) left served rest
fit_room demand supply left served rest h k = fits_rooms demand supply left served rest h k
