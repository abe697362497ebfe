-- What is ahead gives with the value so far what the whole gives, unless the value is too large.
use Rattle.std.proofs.Common.{◌≡◌, ◌≤◌, ◌<◌, length}
use Rattle.batch.proofs.Digits.{made, behind}
use Rattle.batch.proofs.fields.Fields.number.Given as goal

abbrev pub invariant-loop-ahead : goal.invariant-loop-ahead
invariant-loop-ahead l = (behind l.ahead ≡ behind l.self.rest.now) × (l.value ≤ 4294967296) × (l.value < 4294967296 → made l.value l.ahead ≡ made 0 l.self.rest.now)

abbrev pub decreases-loop-ahead : goal.decreases-loop-ahead
decreases-loop-ahead l = length l.ahead
