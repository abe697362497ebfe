-- Each server's first task from place j on is noted.
use Rattle.machine.proofs.Noting.{Noted}
use Rattle.machine.proofs.picking.first_tasks.Given as goal

abbrev pub invariant-loop-j : goal.invariant-loop-j
invariant-loop-j l = Noted l.fn.table l.fn.state l.firsts l.j
