-- Those lines, computed.
use mathlib.Core.Path.{refl}
use Rattle.putting.specs.Decimal.{digits}
use Rattle.printing.specs.Report.{refused_line, response_fields, task_line, report_of}
use Rattle.printing.specs.Examples.{Checked}

pub checked : Checked
unfolding digits refused_line response_fields task_line report_of
checked = record { refused = refl; unfinished = refl; none = refl }
