use Rattle.std.proofs.Common.{refl, arith}
use Rattle.fitting.proofs.Pieces.{supplied_part, supplied_whole, unpassed_first, unpassed_behind}
use Rattle.fitting.proofs.Fitting.supplied_from.Goals as goal

pub returns-then-till-end-clause-supplied : goal.returns-then-till-end-clause-supplied
returns-then-till-end-clause-supplied c = supplied_part c.requires refl refl (omega (arith, c.if-till-end.true)) refl refl

pub returns-clause-supplied : goal.returns-clause-supplied
returns-clause-supplied c = supplied_whole c.requires refl refl c.if-till-end.false refl refl

pub returns-then-till-end-clause-supply : goal.returns-then-till-end-clause-supply
returns-then-till-end-clause-supply c = unpassed_first (omega (arith, c.if-till-end.true)) refl

pub returns-clause-supply : goal.returns-clause-supply
returns-clause-supply c = unpassed_behind c.in-len2-up.len_at_least c.if-till-end.false refl
