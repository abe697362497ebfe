-- Whether a call was accepted can be told from its number. Assumes nothing.
use Prim.Native.Nat.{◌≤◌, ◌<◌}
use native.Mathlib.Omega.{arith}
use Rattle.refusals.specs.Refusals.{number_of, last_number}
use Rattle.refusals.specs.declared.Ground.{Ground}
use Rattle.refusals.specs.declared.Ground.TheVariants as ground

-- a refusal's number is from 1 to the last
number_within : (g : Ground) → (0 < number_of g) × (number_of g ≤ last_number)
number_within ground.TextTooLong = (omega arith, omega arith)
number_within ground.NotEnded = (omega arith, omega arith)
number_within ground.Misplaced = (omega arith, omega arith)
number_within ground.Missing = (omega arith, omega arith)
number_within ground.TooMany = (omega arith, omega arith)
number_within ground.FieldCount = (omega arith, omega arith)
number_within ground.Empty = (omega arith, omega arith)
number_within ground.Dash = (omega arith, omega arith)
number_within ground.NoDigit = (omega arith, omega arith)
number_within ground.LeadingZero = (omega arith, omega arith)
number_within ground.TooManyDigits = (omega arith, omega arith)
number_within ground.UnknownKind = (omega arith, omega arith)
number_within ground.OutOfRange = (omega arith, omega arith)
number_within ground.MultipleOver = (omega arith, omega arith)
number_within ground.WorkRoom = (omega arith, omega arith)
number_within ground.NotPlain = (omega arith, omega arith)
number_within ground.NoRoom = (omega arith, omega arith)
number_within ground.ArgumentZero = (omega arith, omega arith)
number_within ground.OutOfStep = (omega arith, omega arith)
number_within ground.RulesBroken = (omega arith, omega arith)

pub number_some : (g : Ground) → 0 < number_of g
number_some g = (number_within g).0

pub number_most : (g : Ground) → number_of g ≤ last_number
number_most g = (number_within g).1
