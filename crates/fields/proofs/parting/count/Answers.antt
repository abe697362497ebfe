use Rattle.std.proofs.Common.{eqb, rules, tests, ap, length, ◌∙◌}
use Rattle.std.proofs.lemmas.Iterator.Splits.{YieldsList-from_slice_split}
use Rattle.std.proofs.lemmas.Iterator.Consumers.{count_from_yields_List}
use Rattle.fields.proofs.Library.{parts_are}
use Rattle.fields.proofs.parting.count.Goals as goal

pub returns : goal.returns
returns c =
    count_from_yields_List c.split.result c.count.result c.count.ensures.ran
    (YieldsList-from_slice_split _ (λ b. eqb b 9) c.args.line.now c.split.ensures.rest c.split.ensures.done c.split.ensures.closure (λ x b q k. search (rules, tests)))
    ∙ ap length (parts_are 9 c.args.line.now)
