-- Document 01, 'Numbers given on refusal', and document 02: every ground, and its number.
use Rattle.std.specs.Prelude.{ℕ}
use Rattle.refusals.specs.declared.Ground.{Ground}
use Rattle.refusals.specs.declared.Ground.TheVariants as ground
use Rattle.refusals.specs.declared.Refusal.{Refusal}

abbrev pub number_of : Ground → ℕ
-- 1 "text over 4,096 bytes"; 2 "text empty or last byte not a line feed"
number_of ground.TextTooLong = 1
number_of ground.NotEnded = 2
-- 3 "first field unknown or in the wrong place ..; no server; no task"
number_of ground.Misplaced = 3
number_of ground.Missing = 3
-- 4 "wrong count of fields"
number_of ground.FieldCount = 4
-- document 02, E2: 5 "is to mean an empty field only"; "14 for `-` where it isn't allowed, 15 for a byte that is no digit, 16 for a leading zero, 17 for
-- more than five digits, 18 for an unknown server kind"
number_of ground.Empty = 5
number_of ground.Dash = 14
number_of ground.NoDigit = 15
number_of ground.LeadingZero = 16
number_of ground.TooManyDigits = 17
number_of ground.UnknownKind = 18
-- 6 "number outside its range"; 7 "a 17th server or 65th task"
number_of ground.OutOfRange = 6
number_of ground.TooMany = 7
-- 8 "`span` is `-` and the multiple is above 16,000"
number_of ground.MultipleOver = 8
-- 9 "one of the six lent work buffers holds fewer than 16,000 numbers"
number_of ground.WorkRoom = 9
-- 10 "lent curve of odd length or not plain"; 11 "result needs more room than lent, or ends above 1,000,000"; 12 "an argument is zero"
number_of ground.NotPlain = 10
number_of ground.NoRoom = 11
number_of ground.ArgumentZero = 12
-- 13 "step: table breaks the rules above, or tick is H or more, or a budget above its C, or waiting work above 300,000,000; curves: tick
-- asked is H or more"
number_of ground.OutOfStep = 13
-- document 02, E1: "13 if the table breaks the rules"
number_of ground.RulesBroken = 13

-- the largest number
abbrev pub last_number : ℕ
last_number = 18

-- the last place of the longest line, `every`
abbrev pub last_place : ℕ
last_place = 6

-- "With each goes a line number, counted from 1"; "5, 6 and 14 to 18 give line and field's place, the line's first word being 1"
abbrev pub refused_at : Ground → ℕ → ℕ → Refusal
refused_at g line place = record { number = number_of g; line = line; place = place }

-- where no line is meant, both are 0; "other refusals give place 0"
abbrev pub refused_for : Ground → Refusal
refused_for g = refused_at g 0 0

-- where nothing is refused
abbrev pub no_refusal : Refusal
no_refusal = record { number = 0; line = 0; place = 0 }
