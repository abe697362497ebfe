-- With the digits that are left, n makes the whole number, and it is less than the power of ten of those read.
use Rattle.std.proofs.Common.{◌≡◌, ◌<◌, ◌^◌, drop}
use Rattle.fields.specs.Fields.{digits_from}
use Rattle.fields.proofs.values.value.Given as goal

abbrev pub invariant-loop-digit : goal.invariant-loop-digit
invariant-loop-digit l =
    record {
      small : l.n < 10 ^ l.digit-index;
      whole : digits_from l.n (drop l.digit-index l.field) ≡ digits_from 0 l.field;
    }
