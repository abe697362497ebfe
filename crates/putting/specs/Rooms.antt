-- What a call answers that puts bytes into a lent buffer.
use Rattle.std.specs.Prelude.{ℕ, List, Result, Ok, Err, length, leb}
use Rattle.basics.specs.Choice.{pick}
use Rattle.refusals.specs.Refusals.{refused_for}
use Rattle.refusals.specs.declared.Refusal.{Refusal}
use Rattle.refusals.specs.declared.Ground.TheVariants.{NoRoom}

-- how many bytes they are; or 11, "result needs more room than lent"
abbrev pub in_room : List ℕ → List ℕ → Result ℕ Refusal
in_room bytes out = pick (leb (length bytes) (length out)) (Ok (length bytes)) (Err (refused_for NoRoom))
