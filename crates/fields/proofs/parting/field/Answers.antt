use Rattle.std.proofs.Common.{eqb, rules, tests, ap, ◌∙◌}
use Rattle.std.specs.List.{slice_get}
use Rattle.std.proofs.lemmas.Iterator.Splits.{YieldsList-from_slice_split}
use Rattle.std.proofs.lemmas.Iterator.Consumers.{nth_from_yields_List}
use Rattle.fields.specs.Fields.{split}
use Rattle.fields.proofs.Library.{parts_are, nth_or}
use Rattle.fields.proofs.parting.field.Goals as goal

pub returns : goal.returns
returns c =
    let nth = nth_from_yields_List c.nth.result _ c.args.skip c.nth.ensures.ran
    (YieldsList-from_slice_split _ (λ b. eqb b 9) c.args.line.now c.split.ensures.rest c.split.ensures.done c.split.ensures.closure (λ x b q k. search (rules, tests)))
    ∙ ap (λ xs. slice_get xs c.args.skip) (parts_are 9 c.args.line.now) in
    ap (λ x. x.now) c.unwrap_or.ensures ∙ nth_or (λ x. x.now) _ _ (split 9 c.args.line.now) c.args.skip nth
