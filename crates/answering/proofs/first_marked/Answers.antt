use Rattle.std.proofs.Common.{◌≡◌, ◌∙◌, true, false, get_or, rules, tests}
use Rattle.std.proofs.lemmas.Iterator.{IsFirst-from_position, YieldsList-from_slice}
use Rattle.table.proofs.Places.{number_from, first_from_position}
use Rattle.answering.proofs.first_marked.Goals as goal

pub returns : goal.returns
returns c =
    let number : c.map_or.result ≡ number_from c.position-at.result = search rules in
    number
    ∙ first_from_position c.args.marks.now false (λ i. get_or c.args.marks.now i false) (λ b. b ≡ true) (λ b. b ≡ false) (λ i h e. e) (λ i h e. e)
    c.position-at.result
    (IsFirst-from_position _ _ _ (λ b. b ≡ true) (λ b. b ≡ false) c.position-at.ensures.ran (YieldsList-from_slice c.args.marks.now (search rules))
    (λ x q k. search (rules, tests))
    (λ x q k. search (rules, tests)))
