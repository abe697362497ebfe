-- Examples of Grounds.antt: for each word lines that have no ground, and at least one line for each thing that can be wrong with it. Above each line stands
-- its text, with a space for each tab; before its bytes its number and the servers and tasks before it. Then those of document 02, E2: fields in which more
-- than one thing is wrong.
use Rattle.std.specs.Prelude.{ℕ, List, [], ◌∷◌, ◌++◌}
use Rattle.refusals.specs.declared.Ground.TheVariants.{Misplaced, TooMany, FieldCount, Empty, Dash, NoDigit, LeadingZero, TooManyDigits, UnknownKind, OutOfRange}
use Rattle.grounds.specs.Grounds.{LineGround, NoGround}
use Rattle.grounds.specs.Places.{RefusedBy}

pub record SpanLines : Type 0 where
  -- `span 16000`
  pub valid : NoGround 1 0 0 (115 ∷ 112 ∷ 97 ∷ 110 ∷ 9 ∷ 49 ∷ 54 ∷ 48 ∷ 48 ∷ 48 ∷ [])
  -- `span -`
  pub dashed : NoGround 1 0 0 (115 ∷ 112 ∷ 97 ∷ 110 ∷ 9 ∷ 45 ∷ [])
  -- `span 8`
  pub misplaced : LineGround 2 0 0 (115 ∷ 112 ∷ 97 ∷ 110 ∷ 9 ∷ 56 ∷ []) Misplaced 0
  -- `span 8 8`
  pub field_count : LineGround 1 0 0 (115 ∷ 112 ∷ 97 ∷ 110 ∷ 9 ∷ 56 ∷ 9 ∷ 56 ∷ []) FieldCount 0
  -- `span `
  pub empty : LineGround 1 0 0 (115 ∷ 112 ∷ 97 ∷ 110 ∷ 9 ∷ []) Empty 2
  -- `span 8x`
  pub no_digit : LineGround 1 0 0 (115 ∷ 112 ∷ 97 ∷ 110 ∷ 9 ∷ 56 ∷ 120 ∷ []) NoDigit 2
  -- `span 016`
  pub leading_zero : LineGround 1 0 0 (115 ∷ 112 ∷ 97 ∷ 110 ∷ 9 ∷ 48 ∷ 49 ∷ 54 ∷ []) LeadingZero 2
  -- `span 100000`
  pub too_many_digits : LineGround 1 0 0 (115 ∷ 112 ∷ 97 ∷ 110 ∷ 9 ∷ 49 ∷ 48 ∷ 48 ∷ 48 ∷ 48 ∷ 48 ∷ []) TooManyDigits 2
  -- `span 16001`
  pub out_of_range : LineGround 1 0 0 (115 ∷ 112 ∷ 97 ∷ 110 ∷ 9 ∷ 49 ∷ 54 ∷ 48 ∷ 48 ∷ 49 ∷ []) OutOfRange 2

pub record ServerLines : Type 0 where
  -- `server deferrable 3 10`
  pub valid : NoGround 2 0 0 (115 ∷ 101 ∷ 114 ∷ 118 ∷ 101 ∷ 114 ∷ 9 ∷ 100 ∷ 101 ∷ 102 ∷ 101 ∷ 114 ∷ 114 ∷ 97 ∷ 98 ∷ 108 ∷ 101 ∷ 9 ∷ 51 ∷ 9 ∷ 49 ∷ 48 ∷ [])
  -- `server periodic 10 10`
  pub exact : NoGround 3 15 0 (115 ∷ 101 ∷ 114 ∷ 118 ∷ 101 ∷ 114 ∷ 9 ∷ 112 ∷ 101 ∷ 114 ∷ 105 ∷ 111 ∷ 100 ∷ 105 ∷ 99 ∷ 9 ∷ 49 ∷ 48 ∷ 9 ∷ 49 ∷ 48 ∷ [])
  -- `server deferrable 3 10`
  pub misplaced : LineGround 1 0 0 (115 ∷ 101 ∷ 114 ∷ 118 ∷ 101 ∷ 114 ∷ 9 ∷ 100 ∷ 101 ∷ 102 ∷ 101 ∷ 114 ∷ 114 ∷ 97 ∷ 98 ∷ 108 ∷ 101 ∷ 9 ∷ 51 ∷ 9 ∷ 49 ∷ 48 ∷ []) Misplaced 0
  -- `server deferrable 3 10`
  pub after_task : LineGround 5 1 1 (115 ∷ 101 ∷ 114 ∷ 118 ∷ 101 ∷ 114 ∷ 9 ∷ 100 ∷ 101 ∷ 102 ∷ 101 ∷ 114 ∷ 114 ∷ 97 ∷ 98 ∷ 108 ∷ 101 ∷ 9 ∷ 51 ∷ 9 ∷ 49 ∷ 48 ∷ []) Misplaced 0
  -- `server deferrable 3 10`
  pub too_many : LineGround 18 16 0 (115 ∷ 101 ∷ 114 ∷ 118 ∷ 101 ∷ 114 ∷ 9 ∷ 100 ∷ 101 ∷ 102 ∷ 101 ∷ 114 ∷ 114 ∷ 97 ∷ 98 ∷ 108 ∷ 101 ∷ 9 ∷ 51 ∷ 9 ∷ 49 ∷ 48 ∷ []) TooMany 0
  -- `server deferrable 3`
  pub field_count : LineGround 2 0 0 (115 ∷ 101 ∷ 114 ∷ 118 ∷ 101 ∷ 114 ∷ 9 ∷ 100 ∷ 101 ∷ 102 ∷ 101 ∷ 114 ∷ 114 ∷ 97 ∷ 98 ∷ 108 ∷ 101 ∷ 9 ∷ 51 ∷ []) FieldCount 0
  -- `server  3 10`
  pub empty : LineGround 2 0 0 (115 ∷ 101 ∷ 114 ∷ 118 ∷ 101 ∷ 114 ∷ 9 ∷ 9 ∷ 51 ∷ 9 ∷ 49 ∷ 48 ∷ []) Empty 2
  -- `server Periodic x 10`
  pub unknown_kind : LineGround 2 0 0 (115 ∷ 101 ∷ 114 ∷ 118 ∷ 101 ∷ 114 ∷ 9 ∷ 80 ∷ 101 ∷ 114 ∷ 105 ∷ 111 ∷ 100 ∷ 105 ∷ 99 ∷ 9 ∷ 120 ∷ 9 ∷ 49 ∷ 48 ∷ []) UnknownKind 2
  -- `server periodic 3 -`
  pub dash_there : LineGround 2 0 0 (115 ∷ 101 ∷ 114 ∷ 118 ∷ 101 ∷ 114 ∷ 9 ∷ 112 ∷ 101 ∷ 114 ∷ 105 ∷ 111 ∷ 100 ∷ 105 ∷ 99 ∷ 9 ∷ 51 ∷ 9 ∷ 45 ∷ []) Dash 4
  -- `server periodic x -`
  pub no_digit : LineGround 2 0 0 (115 ∷ 101 ∷ 114 ∷ 118 ∷ 101 ∷ 114 ∷ 9 ∷ 112 ∷ 101 ∷ 114 ∷ 105 ∷ 111 ∷ 100 ∷ 105 ∷ 99 ∷ 9 ∷ 120 ∷ 9 ∷ 45 ∷ []) NoDigit 3
  -- `server periodic 0 010`
  pub leading_zero : LineGround 2 0 0 (115 ∷ 101 ∷ 114 ∷ 118 ∷ 101 ∷ 114 ∷ 9 ∷ 112 ∷ 101 ∷ 114 ∷ 105 ∷ 111 ∷ 100 ∷ 105 ∷ 99 ∷ 9 ∷ 48 ∷ 9 ∷ 48 ∷ 49 ∷ 48 ∷ []) LeadingZero 4
  -- `server periodic 0 1x`
  pub out_left_of_no_digit : LineGround 2 0 0 (115 ∷ 101 ∷ 114 ∷ 118 ∷ 101 ∷ 114 ∷ 9 ∷ 112 ∷ 101 ∷ 114 ∷ 105 ∷ 111 ∷ 100 ∷ 105 ∷ 99 ∷ 9 ∷ 48 ∷ 9 ∷ 49 ∷ 120 ∷ []) NoDigit 4
  -- `server periodic 123456 10`
  pub too_many_digits : LineGround 2 0 0 (115 ∷ 101 ∷ 114 ∷ 118 ∷ 101 ∷ 114 ∷ 9 ∷ 112 ∷ 101 ∷ 114 ∷ 105 ∷ 111 ∷ 100 ∷ 105 ∷ 99 ∷ 9 ∷ 49 ∷ 50 ∷ 51 ∷ 52 ∷ 53 ∷ 54 ∷ 9 ∷ 49 ∷ 48 ∷ []) TooManyDigits 3
  -- `server periodic 11 10`
  pub above_period : LineGround 2 0 0 (115 ∷ 101 ∷ 114 ∷ 118 ∷ 101 ∷ 114 ∷ 9 ∷ 112 ∷ 101 ∷ 114 ∷ 105 ∷ 111 ∷ 100 ∷ 105 ∷ 99 ∷ 9 ∷ 49 ∷ 49 ∷ 9 ∷ 49 ∷ 48 ∷ []) OutOfRange 3
  -- `server periodic 1 16001`
  pub out_of_range : LineGround 2 0 0 (115 ∷ 101 ∷ 114 ∷ 118 ∷ 101 ∷ 114 ∷ 9 ∷ 112 ∷ 101 ∷ 114 ∷ 105 ∷ 111 ∷ 100 ∷ 105 ∷ 99 ∷ 9 ∷ 49 ∷ 9 ∷ 49 ∷ 54 ∷ 48 ∷ 48 ∷ 49 ∷ []) OutOfRange 4

pub record OnceLines : Type 0 where
  -- `once 1 4 3 5`
  pub valid : NoGround 4 2 0 (111 ∷ 110 ∷ 99 ∷ 101 ∷ 9 ∷ 49 ∷ 9 ∷ 52 ∷ 9 ∷ 51 ∷ 9 ∷ 53 ∷ [])
  -- `once 2 4 0 5`
  pub at_zero : NoGround 4 2 0 (111 ∷ 110 ∷ 99 ∷ 101 ∷ 9 ∷ 50 ∷ 9 ∷ 52 ∷ 9 ∷ 48 ∷ 9 ∷ 53 ∷ [])
  -- `once 1 4 3 5`
  pub misplaced : LineGround 2 0 0 (111 ∷ 110 ∷ 99 ∷ 101 ∷ 9 ∷ 49 ∷ 9 ∷ 52 ∷ 9 ∷ 51 ∷ 9 ∷ 53 ∷ []) Misplaced 0
  -- `once 1 4 3 5`
  pub too_many : LineGround 67 2 64 (111 ∷ 110 ∷ 99 ∷ 101 ∷ 9 ∷ 49 ∷ 9 ∷ 52 ∷ 9 ∷ 51 ∷ 9 ∷ 53 ∷ []) TooMany 0
  -- `once 1 4 3 5 -`
  pub field_count : LineGround 4 2 0 (111 ∷ 110 ∷ 99 ∷ 101 ∷ 9 ∷ 49 ∷ 9 ∷ 52 ∷ 9 ∷ 51 ∷ 9 ∷ 53 ∷ 9 ∷ 45 ∷ []) FieldCount 0
  -- `once 1 4  5`
  pub empty : LineGround 4 2 0 (111 ∷ 110 ∷ 99 ∷ 101 ∷ 9 ∷ 49 ∷ 9 ∷ 52 ∷ 9 ∷ 9 ∷ 53 ∷ []) Empty 4
  -- `once 1 4 3 -`
  pub dash_there : LineGround 4 2 0 (111 ∷ 110 ∷ 99 ∷ 101 ∷ 9 ∷ 49 ∷ 9 ∷ 52 ∷ 9 ∷ 51 ∷ 9 ∷ 45 ∷ []) Dash 5
  -- `once one 4 3 -`
  pub no_digit : LineGround 4 2 0 (111 ∷ 110 ∷ 99 ∷ 101 ∷ 9 ∷ 111 ∷ 110 ∷ 101 ∷ 9 ∷ 52 ∷ 9 ∷ 51 ∷ 9 ∷ 45 ∷ []) NoDigit 2
  -- `once 3 04 3 5`
  pub leading_zero : LineGround 4 2 0 (111 ∷ 110 ∷ 99 ∷ 101 ∷ 9 ∷ 51 ∷ 9 ∷ 48 ∷ 52 ∷ 9 ∷ 51 ∷ 9 ∷ 53 ∷ []) LeadingZero 3
  -- `once 1 04 3 05`
  pub leading_zeros : LineGround 4 2 0 (111 ∷ 110 ∷ 99 ∷ 101 ∷ 9 ∷ 49 ∷ 9 ∷ 48 ∷ 52 ∷ 9 ∷ 51 ∷ 9 ∷ 48 ∷ 53 ∷ []) LeadingZero 3
  -- `once 1 4 3 100001`
  pub too_many_digits : LineGround 4 2 0 (111 ∷ 110 ∷ 99 ∷ 101 ∷ 9 ∷ 49 ∷ 9 ∷ 52 ∷ 9 ∷ 51 ∷ 9 ∷ 49 ∷ 48 ∷ 48 ∷ 48 ∷ 48 ∷ 49 ∷ []) TooManyDigits 5
  -- `once 3 0 3 5`
  pub no_server : LineGround 4 2 0 (111 ∷ 110 ∷ 99 ∷ 101 ∷ 9 ∷ 51 ∷ 9 ∷ 48 ∷ 9 ∷ 51 ∷ 9 ∷ 53 ∷ []) OutOfRange 2
  -- `once 1 4 16001 0`
  pub out_of_range : LineGround 4 2 0 (111 ∷ 110 ∷ 99 ∷ 101 ∷ 9 ∷ 49 ∷ 9 ∷ 52 ∷ 9 ∷ 49 ∷ 54 ∷ 48 ∷ 48 ∷ 49 ∷ 9 ∷ 48 ∷ []) OutOfRange 4

pub record EveryLines : Type 0 where
  -- `every 2 1 0 4 4`
  pub valid : NoGround 4 2 0 (101 ∷ 118 ∷ 101 ∷ 114 ∷ 121 ∷ 9 ∷ 50 ∷ 9 ∷ 49 ∷ 9 ∷ 48 ∷ 9 ∷ 52 ∷ 9 ∷ 52 ∷ [])
  -- `every 1 1 0 4 -`
  pub dashed : NoGround 4 2 0 (101 ∷ 118 ∷ 101 ∷ 114 ∷ 121 ∷ 9 ∷ 49 ∷ 9 ∷ 49 ∷ 9 ∷ 48 ∷ 9 ∷ 52 ∷ 9 ∷ 45 ∷ [])
  -- `every 2 1 0 4 4`
  pub misplaced : LineGround 2 0 0 (101 ∷ 118 ∷ 101 ∷ 114 ∷ 121 ∷ 9 ∷ 50 ∷ 9 ∷ 49 ∷ 9 ∷ 48 ∷ 9 ∷ 52 ∷ 9 ∷ 52 ∷ []) Misplaced 0
  -- `Every 2 1 0 4 4`
  pub unknown : LineGround 4 2 0 (69 ∷ 118 ∷ 101 ∷ 114 ∷ 121 ∷ 9 ∷ 50 ∷ 9 ∷ 49 ∷ 9 ∷ 48 ∷ 9 ∷ 52 ∷ 9 ∷ 52 ∷ []) Misplaced 0
  -- `every 2 1 0 4 4`
  pub too_many : LineGround 67 2 64 (101 ∷ 118 ∷ 101 ∷ 114 ∷ 121 ∷ 9 ∷ 50 ∷ 9 ∷ 49 ∷ 9 ∷ 48 ∷ 9 ∷ 52 ∷ 9 ∷ 52 ∷ []) TooMany 0
  -- `every 2 1 0 4`
  pub field_count : LineGround 4 2 0 (101 ∷ 118 ∷ 101 ∷ 114 ∷ 121 ∷ 9 ∷ 50 ∷ 9 ∷ 49 ∷ 9 ∷ 48 ∷ 9 ∷ 52 ∷ []) FieldCount 0
  -- `every 2 1 0 4 `
  pub empty : LineGround 4 2 0 (101 ∷ 118 ∷ 101 ∷ 114 ∷ 121 ∷ 9 ∷ 50 ∷ 9 ∷ 49 ∷ 9 ∷ 48 ∷ 9 ∷ 52 ∷ 9 ∷ []) Empty 6
  -- `every 2 1 0 - -`
  pub dash_there : LineGround 4 2 0 (101 ∷ 118 ∷ 101 ∷ 114 ∷ 121 ∷ 9 ∷ 50 ∷ 9 ∷ 49 ∷ 9 ∷ 48 ∷ 9 ∷ 45 ∷ 9 ∷ 45 ∷ []) Dash 5
  -- `every 2 1 -1 4 4`
  pub no_digit : LineGround 4 2 0 (101 ∷ 118 ∷ 101 ∷ 114 ∷ 121 ∷ 9 ∷ 50 ∷ 9 ∷ 49 ∷ 9 ∷ 45 ∷ 49 ∷ 9 ∷ 52 ∷ 9 ∷ 52 ∷ []) NoDigit 4
  -- `every 2 1 00 4 4`
  pub leading_zero : LineGround 4 2 0 (101 ∷ 118 ∷ 101 ∷ 114 ∷ 121 ∷ 9 ∷ 50 ∷ 9 ∷ 49 ∷ 9 ∷ 48 ∷ 48 ∷ 9 ∷ 52 ∷ 9 ∷ 52 ∷ []) LeadingZero 4
  -- `every 2 1 0 4 160000`
  pub too_many_digits : LineGround 4 2 0 (101 ∷ 118 ∷ 101 ∷ 114 ∷ 121 ∷ 9 ∷ 50 ∷ 9 ∷ 49 ∷ 9 ∷ 48 ∷ 9 ∷ 52 ∷ 9 ∷ 49 ∷ 54 ∷ 48 ∷ 48 ∷ 48 ∷ 48 ∷ []) TooManyDigits 6
  -- `every 2 1 0 0 -`
  pub period_out : LineGround 4 2 0 (101 ∷ 118 ∷ 101 ∷ 114 ∷ 121 ∷ 9 ∷ 50 ∷ 9 ∷ 49 ∷ 9 ∷ 48 ∷ 9 ∷ 48 ∷ 9 ∷ 45 ∷ []) OutOfRange 5
  -- `every 2 1 0 4 0`
  pub out_of_range : LineGround 4 2 0 (101 ∷ 118 ∷ 101 ∷ 114 ∷ 121 ∷ 9 ∷ 50 ∷ 9 ∷ 49 ∷ 9 ∷ 48 ∷ 9 ∷ 52 ∷ 9 ∷ 48 ∷ []) OutOfRange 6

-- the text of a span line alone, with this field
abbrev pub span_with : List ℕ → List ℕ
span_with f = 115 ∷ 112 ∷ 97 ∷ 110 ∷ 9 ∷ (f ++ (10 ∷ []))

-- "in one field tested as 5, 14, 15, 16, 17": the number, in line 1, at place 2
pub record SpanFields : Type 0 where
  -- no byte
  pub none : RefusedBy (span_with []) 5 1 2
  -- `-5`
  pub minus_five : RefusedBy (span_with (45 ∷ 53 ∷ [])) 15 1 2
  -- `--`
  pub dashes : RefusedBy (span_with (45 ∷ 45 ∷ [])) 15 1 2
  -- `0x`
  pub zero_letter : RefusedBy (span_with (48 ∷ 120 ∷ [])) 15 1 2
  -- `00000x`
  pub zeros_letter : RefusedBy (span_with (48 ∷ 48 ∷ 48 ∷ 48 ∷ 48 ∷ 120 ∷ [])) 15 1 2
  -- `016`
  pub zero_sixteen : RefusedBy (span_with (48 ∷ 49 ∷ 54 ∷ [])) 16 1 2
  -- `012345`
  pub zero_six_digits : RefusedBy (span_with (48 ∷ 49 ∷ 50 ∷ 51 ∷ 52 ∷ 53 ∷ [])) 16 1 2
  -- `00`
  pub zeros : RefusedBy (span_with (48 ∷ 48 ∷ [])) 16 1 2
  -- `123456`
  pub six_digits : RefusedBy (span_with (49 ∷ 50 ∷ 51 ∷ 52 ∷ 53 ∷ 54 ∷ [])) 17 1 2
  -- `0`
  pub zero_alone : RefusedBy (span_with (48 ∷ [])) 6 1 2
  -- `16001`
  pub out_of_range : RefusedBy (span_with (49 ∷ 54 ∷ 48 ∷ 48 ∷ 49 ∷ [])) 6 1 2
