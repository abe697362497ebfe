-- `printing::put_lines`: the lines up to here are put.
use Rattle.std.proofs.Common.{◌+◌, ◌*◌, ◌≤◌, length, take}
use Rattle.putting.specs.Pages.{Adds}
use Rattle.printing.specs.Report.{numbered}
use Rattle.printing.proofs.put_lines.Given as goal

abbrev pub invariant-loop-i : goal.invariant-loop-i
invariant-loop-i g l =
    let t = g.T.Entry in
    record { adds : Adds l.initial.page l.page (numbered t.line (take l.i l.entries) 0); most : l.page.count ≤ l.initial.page.count + l.i * t.most; within : l.i ≤ length l.entries }
