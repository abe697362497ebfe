-- What the functions that judge a task make of what they are given.
use Rattle.std.specs.Prelude.{Option, Some, None}
use Rattle.answers.specs.Answers.{Verdict, worst, none}
use Rattle.judging.specs.declared.ended.EndedJob.{EndedJob}

-- the worst so far, if a job has ended
abbrev pub worst_so_far : Option EndedJob → Verdict
worst_so_far (Some job) = worst job.response job.release
worst_so_far None = none
