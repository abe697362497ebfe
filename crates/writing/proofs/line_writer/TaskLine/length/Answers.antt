use Rattle.std.proofs.Common.{length-append, arith}
use Rattle.putting.specs.Decimal.{feed}
use Rattle.writing.specs.Text.{task_line}
use Rattle.writing.specs.Lengths.{line_length}
use Rattle.writing.proofs.Lengths.{task_length_at}
use Rattle.writing.proofs.line_writer.TaskLine.length.Goals as goal

pub returns-in-Once-clause-counted : goal.returns-in-Once-clause-counted
unfolding line_length
returns-in-Once-clause-counted c =
    let fields = task_length_at c.args.self c.in-Once.is in omega (arith, fields, length-append (task_line c.args.self) feed)

pub returns-in-Every-clause-counted : goal.returns-in-Every-clause-counted
unfolding line_length
returns-in-Every-clause-counted c =
    let fields = task_length_at c.args.self c.in-Every.is in omega (arith, fields, length-append (task_line c.args.self) feed)

pub returns-in-Once-clause-by_fields : goal.returns-in-Once-clause-by_fields
unfolding line_length
returns-in-Once-clause-by_fields c = rw c.in-Once.is (omega arith)

pub returns-in-Every-clause-by_fields : goal.returns-in-Every-clause-by_fields
unfolding line_length
returns-in-Every-clause-by_fields c = rw c.in-Every.is (omega arith)
