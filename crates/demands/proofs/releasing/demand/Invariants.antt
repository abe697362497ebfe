use Rattle.std.proofs.Common.{◌-◌, ◌≡◌, true, ◌<◌}
use Rattle.table.specs.Releases.{released_at}
use Rattle.demands.proofs.Openings.{Walk}
use Rattle.demands.proofs.releasing.demand.Given as goal

-- the windows written and the open one cover the work that came before the next release
abbrev pub invariant-loop-release : goal.invariant-loop-release
invariant-loop-release l = record {
  walked : Walk l.task.release l.task.work l.span l.fn.out l.out l.start l.end l.count l.release;
  rises : l.start < l.end;
  released : l.release < l.span → released_at l.task.release l.release ≡ true;
}

abbrev pub decreases-loop-release : goal.decreases-loop-release
decreases-loop-release l = l.span - l.release
