use Rattle.std.proofs.Common.{rules, tests, arith, length, ◌≡◌, ◌<◌, ◌≤◌}
use Rattle.std.proofs.lemmas.Iterator.{YieldsList-from_slice, YieldsList-from_zip, cases_from_all}
use Rattle.std.proofs.lemmas.Iterator.Consumers.{YieldsList-at}
use Rattle.table.specs.Rules.{servers_of}
use Rattle.table.proofs.Entries.{length_mapped}
use Rattle.machine.proofs.Limits.{budgets_none}
use Rattle.machine.proofs.refusing.budgets_within.Goals as goal

pub returns : goal.returns
returns c =
    budgets_none c.args.table c.args.state _ (let h : length c.args.table.servers ≡ 16 = search (rules, length_mapped) in omega (arith, c.requires)) (search rules)
    (cases_from_all c.all.new.self _ _ (λ p. p.1 ≤ p.0.capacity) (λ p. p.0.capacity < p.1) c.all.ensures.ran
    (YieldsList-from_zip (YieldsList-at c.zip.ensures.first (YieldsList-from_slice (servers_of c.args.table) (search rules))) (YieldsList-from_slice c.args.state.budgets c.zip.ensures.second.0))
    (λ x q k. search (rules, tests)) (λ x q k. search (rules, tests)))
