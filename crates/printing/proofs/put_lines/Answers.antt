-- A line more.
use Rattle.std.proofs.Common.{arith}
use Rattle.putting.proofs.Pages.{adds_none}
use Rattle.printing.specs.Report.{numbered}
use Rattle.printing.proofs.Listings.{line_put}
use Rattle.printing.proofs.put_lines.Goals as goal

pub loop-i-init : goal.loop-i-init
unfolding numbered
loop-i-init g c = record { adds = adds_none _; most = omega arith; within = omega arith }

pub loop-i-preserved : goal.loop-i-preserved
loop-i-preserved g c = record {
  adds = line_put _ _ _ _ c.loop-i-test.true c.index-entries-i.is c.loop-i.invariant.adds c.put.ensures.adds;
  most = grind arith;
  within = omega arith;
}
