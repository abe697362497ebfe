use Rattle.std.proofs.Common.{rules, tests, take, ◌<◌, ◌≤◌}
use Rattle.std.proofs.lemmas.Iterator.{YieldsList-from_slice, cases_from_all}
use Rattle.machine.proofs.Limits.{work_none}
use Rattle.machine.proofs.refusing.work_within.Goals as goal

pub returns : goal.returns
returns c =
    work_none c.args.state c.args.table.tasks_n _ (search rules)
    (cases_from_all _ _ _ (λ w. w ≤ 300000000) (λ w. 300000000 < w) c.all.ensures.ran (YieldsList-from_slice (take c.args.table.tasks_n c.args.state.waiting) (search rules)) (λ x q k. search (rules, tests)) (λ x q k. search (rules, tests)))
