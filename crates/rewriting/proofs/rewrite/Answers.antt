-- The table of a text is not refused.
use Rattle.std.proofs.Common.{sym, ◌∙◌, rules}
use Rattle.rewriting.proofs.Rewritten.{rewritten_text, most, counted, count_is, at_front}
use Rattle.rewriting.proofs.rewrite.Goals as goal

pub unwrap-requires : goal.unwrap-requires
unwrap-requires c =
    let read = sym c.read.ensures ∙ c.in-Ok.is in
    rw (counted c.args.text.now c.args.out.now read c.requires c.write.ensures) (search rules)

pub returns-in-Ok : goal.returns-in-Ok
returns-in-Ok c =
    let text = c.args.text.now in
    let out = c.args.out.now in
    let read = sym c.read.ensures ∙ c.in-Ok.is in
    let is = rewritten_text text read in
    let count = count_is text out read c.requires c.write.ensures c.unwrap.ensures in
    (rw is count, rw is (at_front text out read c.requires c.write.ensures), rw count (most text out read c.requires c.write.ensures))
