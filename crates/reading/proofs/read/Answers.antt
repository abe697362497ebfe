use Rattle.std.proofs.Common.{rules, ◌∙◌}
use Rattle.reading.proofs.Feeds.{feed_read}
use Rattle.reading.proofs.read.Goals as goal

pub returns : goal.returns
returns c =
    let some = c.in-Some-eq10-default in
    c.read_lines.ensures ∙ feed_read c.args.text.now some.lines.now some.ensures.cases.0 some.field-0-0-test (search rules)
