use Rattle.std.proofs.Common.{rules, sym, ◌∙◌}
use Rattle.std.proofs.lemmas.Iterator.{YieldsList-from_slice}
use Rattle.std.proofs.lemmas.Iterator.Search.{all_from_yields_List}
use Rattle.table.specs.Rules.{server_obeys, servers_of}
use Rattle.table.proofs.Entries.{all_is}
use Rattle.table.proofs.rules.servers_obey.Goals as goal

pub returns : goal.returns
returns c =
    all_from_yields_List server_obeys _ _ _ c.all.ensures.ran (YieldsList-from_slice (servers_of c.args.table) (search rules)) (λ x b q k. search rules)
    ∙ sym (all_is server_obeys (servers_of c.args.table))
