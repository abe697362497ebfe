-- The line of the span, those of the servers behind it, those of the tasks behind these.
use Rattle.std.proofs.Common.{arith}
use Rattle.putting.proofs.Puts.{put_more}
use Rattle.writing.proofs.Lengths.{text_parts, text_sizes}
use Rattle.writing.proofs.table_writer.put_text.Goals as goal

pub put_lines-n2-requires : goal.put_lines-n2-requires
put_lines-n2-requires c = omega (arith, c.requires.2, text_sizes c.args.table, c.put_span-n1.ensures.count, c.put_span-n1.ensures.same)

pub put_lines-requires : goal.put_lines-requires
put_lines-requires c =
    omega (arith, c.requires.2, text_sizes c.args.table, c.put_span-n1.ensures.count, c.put_span-n1.ensures.same, c.put_lines-n2.ensures.count, c.put_lines-n2.ensures.same)

pub returns : goal.returns
returns c = rw (text_parts c.args.table) (put_more c.put_span-n1.ensures (put_more c.put_lines-n2.ensures c.put_lines.ensures))
