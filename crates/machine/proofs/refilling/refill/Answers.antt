use Rattle.std.proofs.Common.{rules, refl}
use lib.Seq.{get_or-take}
use Rattle.table.specs.Rules.{no_server, servers_of}
use Rattle.table.proofs.Obeyed.{server_period}
use Rattle.machine.specs.Machine.{along, refilled}
use Rattle.machine.proofs.Beside.{along_stores}
use Rattle.machine.proofs.refilling.refill.Goals as goal

pub loop-i-init : goal.loop-i-init
unfolding along
loop-i-init c = record { tick = refl; waiting = refl; budgets = refl }

pub budget_at-requires : goal.budget_at-requires
budget_at-requires c = rw (get_or-take c.args.table.servers_n c.args.table.servers c.loop-i.i no_server (search rules)) (server_period c.args.table c.requires c.loop-i.i (search rules))

pub loop-i-preserved : goal.loop-i-preserved
loop-i-preserved c =
    record {
      tick = c.loop-i.invariant.tick;
      waiting = c.loop-i.invariant.waiting;
      budgets = along_stores (refilled c.args.state.tick) (servers_of c.args.table) c.args.state.budgets c.loop-i.filled.budgets no_server c.loop-i.i c.budget_at.result c.loop-i.invariant.budgets (search rules) (search rules) c.budget_at.ensures;
    }
