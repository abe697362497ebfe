use Rattle.std.proofs.Common.{◌≡◌}
use Rattle.buffers.specs.Work.{Same}
use Rattle.noting.proofs.Answering.{Answering}
use Rattle.noting.proofs.answer_tasks.Given as goal

-- the tasks of the server before this one are noted, and the ticks that they leave are held on
abbrev pub invariant-loop-j : goal.invariant-loop-j
invariant-loop-j l = record {
  same : Same l.fn.work l.work;
  free : l.work.free.now ≡ l.fn.work.free.now;
  sum : l.work.sum.now ≡ l.fn.work.sum.now;
  noted : Answering l.fn.table l.tick l.server l.work.held.now l.left l.j l.notes;
}
