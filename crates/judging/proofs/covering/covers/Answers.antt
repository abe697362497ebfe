use Rattle.std.proofs.Common.{rules, ◌∙◌, arith, length, ◌/◌}
use Rattle.std.proofs.lemmas.Iterator.{YieldsList-from_slice}
use Rattle.std.proofs.lemmas.Iterator.Search.{any_from_yields_List}
use Rattle.std.specs.Simd.{first_chunks}
use Rattle.judging.proofs.Asked.{holds, covered_any}
use Rattle.judging.proofs.covering.covers.Goals as goal

pub returns : goal.returns
returns c =
    let l = c.args.curve.now in
    let k = length l / 2 in
    any_from_yields_List (holds c.args.tick) _ _ _ c.any.ensures.ran (YieldsList-from_slice (first_chunks 2 k l) (search rules)) (λ x b q h. search rules)
    ∙ covered_any c.args.tick k l (omega arith) (omega arith)
