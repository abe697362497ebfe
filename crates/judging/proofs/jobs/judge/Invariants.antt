use Rattle.std.proofs.Common.{◌-◌}
use Rattle.judging.proofs.JobsAhead.{Judging}
use Rattle.judging.proofs.jobs.judge.Given as goal

-- the jobs before the release are judged
abbrev pub invariant-loop-release : goal.invariant-loop-release
invariant-loop-release l = Judging l.task l.span l.running l.worst l.passed l.amount l.release

abbrev pub decreases-loop-release : goal.decreases-loop-release
decreases-loop-release l = l.span - l.release
