-- The place that the search finds is the holder's.
use Rattle.std.proofs.Common.{rules, ◌∙◌, ◌≡◌, true, false}
use Rattle.std.proofs.lemmas.Iterator.{YieldsList-from_slice, YieldsList-from_zip, IsFirst-from_position}
use Rattle.std.proofs.lemmas.Iterator.Consumers.{YieldsList-at}
use Rattle.table.specs.Rules.{servers_of}
use Rattle.table.proofs.Places.{number_from}
use Rattle.machine.proofs.Holders.{holds_it, server_found}
use Rattle.machine.proofs.picking.first_server.Goals as goal

pub returns : goal.returns
returns c =
    let number : c.map_or.result ≡ number_from c.position-at.result = search rules in
    number ∙ server_found c.args.table c.args.state c.args.firsts c.requires.0 c.requires.1 (search rules) (search rules) c.position-at.result
    (IsFirst-from_position c.position-at.new.self _ _ (λ o. holds_it o ≡ true) (λ o. holds_it o ≡ false) c.position-at.ensures.ran
    (YieldsList-from_zip
    (YieldsList-at c.zip-offered.ensures.first (YieldsList-from_zip (YieldsList-at c.zip.ensures.first (YieldsList-from_slice (servers_of c.args.table) (search rules))) (YieldsList-from_slice c.args.state.budgets c.zip.ensures.second.0)))
    (YieldsList-from_slice c.args.firsts c.zip-offered.ensures.second.0))
    (λ x q k. search rules) (λ x q k. search rules))
