use Rattle.std.proofs.Common.{rules}
use Rattle.putting.proofs.Pages.{adds_more, adds_first}
use Rattle.writing.proofs.Puts.{span_put}
use Rattle.writing.proofs.line_writer.put_span.Goals as goal

pub returns : goal.returns
returns c =
    let line = adds_more c.put_labelled.ensures.adds c.put_byte.ensures in
    rw (span_put _) (adds_first c.new-page.ensures.now c.new-page.ensures.count line (search rules))
