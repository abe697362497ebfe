use Rattle.std.proofs.Common.{refl}
use Rattle.walks.proofs.Sums.{takes_second, takes_none}
use Rattle.walks.proofs.adding.Sum.take_second.Goals as goal

pub returns-in_default : goal.returns-in_default
returns-in_default c = takes_none c.requires c.in_default.len_below

pub returns : goal.returns
returns c = takes_second c.requires c.in-len2-up.len_at_least refl refl refl refl
