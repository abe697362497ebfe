use Rattle.std.proofs.Common.{arith}
use Rattle.entries.proofs.Rows.{placed}
use Rattle.entries.proofs.placing.put_row.Goals as goal

pub returns : goal.returns
returns c = placed c.args.row.now c.copy_from_slice.new.self c.args.out.now c.args.at _ c.requires c.copy_from_slice.ensures.after (omega arith)
