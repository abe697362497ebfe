-- The first piece of what lies ahead, and the walk behind it.
use Rattle.std.proofs.Common.{refl, arith}
use Rattle.windows.specs.Walks.{cut_from}
use Rattle.walks.proofs.Fronts.{no_window}
use Rattle.walks.proofs.Pieces.{piece_rises, piece_cut, piece_whole}
use Rattle.walks.proofs.cutting.CutWalk.next.Goals as goal

pub returns-in_default : goal.returns-in_default
unfolding cut_from
returns-in_default c = rw (no_window c.args.self.ahead.now c.requires.plain c.in_default.len_below)

pub overflow_sub-end : goal.overflow_sub-end
overflow_sub-end c = omega (arith, piece_rises c.args.self c.requires c.in-len2-up.len_at_least, c.max-start.ensures)

pub returns-then-gap-end : goal.returns-then-gap-end
returns-then-gap-end c = piece_cut c.args.self c.requires c.in-len2-up.len_at_least c.max-start.result c.max-start.ensures c.if-gap-end.true

pub returns : goal.returns
returns c = piece_whole c.args.self c.requires c.in-len2-up.len_at_least c.max-start.result c.max-start.ensures c.if-gap-end.false refl refl refl refl refl
