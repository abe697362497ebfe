use Rattle.std.proofs.Common.{rules}
use Rattle.putting.proofs.Pages.{adds_more, adds_first}
use Rattle.writing.proofs.Puts.{server_put}
use Rattle.writing.proofs.line_writer.ServerLine.put.Goals as goal

pub returns : goal.returns
returns c =
    let word = rw c.word.ensures at c.put_word-2.ensures in
    let line = adds_more c.put_word.ensures (adds_more word (adds_more c.put_field.ensures.adds (adds_more c.put_field-2.ensures.adds c.put_byte.ensures))) in
    rw (server_put c.args.self) (adds_first c.new-page.ensures.now c.new-page.ensures.count line (search rules))
