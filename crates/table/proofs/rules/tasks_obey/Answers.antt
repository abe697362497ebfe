use Rattle.std.proofs.Common.{rules, sym, ◌∙◌}
use Rattle.std.proofs.lemmas.Iterator.{YieldsList-from_slice}
use Rattle.std.proofs.lemmas.Iterator.Search.{all_from_yields_List}
use Rattle.table.specs.Rules.{task_obeys, tasks_of}
use Rattle.table.proofs.Entries.{all_is}
use Rattle.table.proofs.rules.tasks_obey.Goals as goal

pub returns : goal.returns
returns c =
    all_from_yields_List (task_obeys c.args.table.servers_n) _ _ _ c.all.ensures.ran (YieldsList-from_slice (tasks_of c.args.table) (search rules)) (λ x b q k. search rules)
    ∙ sym (all_is (task_obeys c.args.table.servers_n) (tasks_of c.args.table))
