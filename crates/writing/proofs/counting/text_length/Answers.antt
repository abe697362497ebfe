-- The line of the span, those of the servers, those of the tasks.
use Rattle.std.proofs.Common.{length-append, arith}
use Rattle.putting.specs.Decimal.{feed}
use Rattle.writing.specs.Text.{span_line}
use Rattle.writing.specs.Lengths.{line_length}
use Rattle.writing.proofs.Lengths.{span_length, text_sizes}
use Rattle.writing.proofs.counting.text_length.Goals as goal

pub returns : goal.returns
unfolding line_length
returns c =
    omega (
      arith,
      text_sizes c.args.table,
      span_length c.args.table.span,
      length-append (span_line c.args.table.span) feed,
      c.field_length.ensures.0,
      c.lines_length-servers.ensures.counted,
      c.lines_length-tasks.ensures.counted,
    )
