use Rattle.std.proofs.Common.{rules, tests, ◌∙◌}
use Rattle.std.proofs.lemmas.Iterator.{YieldsList-from_slice}
use Rattle.std.proofs.lemmas.Iterator.Search.{all_from_yields_List}
use Rattle.fields.specs.Fields.{is_digit}
use Rattle.fields.proofs.Library.{all_is}
use Rattle.fields.proofs.values.digits.Goals as goal

pub returns : goal.returns
returns c = all_from_yields_List is_digit _ _ c.all.result c.all.ensures.ran (YieldsList-from_slice c.args.field.now cc) (λ x b q k. search (rules, tests)) ∙ all_is is_digit c.args.field.now
