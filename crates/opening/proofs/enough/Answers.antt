use Rattle.std.proofs.Common.{leb, rules, tests}
use Rattle.std.proofs.lemmas.Iterator.{YieldsList-from_slice}
use Rattle.std.proofs.lemmas.Iterator.Search.{all_from_yields_List}
use Rattle.opening.proofs.enough.Goals as goal

pub returns : goal.returns
returns c = all_from_yields_List (leb 16000) _ _ c.all.result c.all.ensures.ran (YieldsList-from_slice c.args.rooms.now cc) (λ x b q k. search (rules, tests))
