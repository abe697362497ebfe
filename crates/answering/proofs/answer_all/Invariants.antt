use Rattle.buffers.specs.Work.{Same}
use Rattle.answering.proofs.Answering.{Answered}
use Rattle.answering.proofs.answer_all.Given as goal

-- the servers above this one are noted, and their tasks, and its free curve is written
abbrev pub invariant-loop-i : goal.invariant-loop-i
invariant-loop-i l = record {
  same : Same l.fn.work l.work;
  noted : Answered l.fn.table l.tick l.initial.work.free.now l.work.free.now l.n l.i l.notes.servers l.notes.tasks;
}
