use Rattle.std.proofs.Common.{ap, length, length-append, arith}
use Rattle.putting.specs.Decimal.{feed}
use Rattle.writing.specs.Text.{server_line}
use Rattle.writing.specs.Lengths.{line_length}
use Rattle.writing.proofs.Lengths.{server_length}
use Rattle.writing.proofs.line_writer.ServerLine.length.Goals as goal

pub returns-clause-counted : goal.returns-clause-counted
unfolding line_length
returns-clause-counted c = omega (arith, server_length c.args.self, length-append (server_line c.args.self) feed, ap length c.word.ensures)

pub returns-clause-by_fields : goal.returns-clause-by_fields
unfolding line_length
returns-clause-by_fields c = omega (arith, ap length c.word.ensures)
