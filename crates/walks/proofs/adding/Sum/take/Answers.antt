-- By which curve has the next window.
use Rattle.std.proofs.Common.{refl, arith}
use Rattle.walks.proofs.Sums.{takes_first, second_next}
use Rattle.walks.proofs.adding.Sum.take.Goals as goal

pub take_second-requires : goal.take_second-requires
take_second-requires c = second_next c.requires c.in_default.len_below

pub returns-in_default-b : goal.returns-in_default-b
returns-in_default-b c = takes_first c.requires c.in-len2-up.len_at_least (λ h. absurd (omega (arith, h))) refl refl refl refl

pub returns : goal.returns
returns c = takes_first c.requires c.in-len2-up.len_at_least (λ h. omega arith) refl refl refl refl
