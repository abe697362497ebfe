use Rattle.judging.proofs.ShortPeriods.{Looking}
use Rattle.judging.proofs.periods.first_short.Given as goal

abbrev pub invariant-loop-k : goal.invariant-loop-k
invariant-loop-k l = Looking l.free l.server.capacity l.server.period l.full l.passed l.before l.k
