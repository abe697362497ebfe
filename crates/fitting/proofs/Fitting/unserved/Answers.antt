use Rattle.std.proofs.Common.{refl}
use Rattle.fitting.proofs.Pieces.{piece_none, piece_rest, unpassed_none}
use Rattle.fitting.proofs.Stretches.{place_first, place_behind}
use Rattle.fitting.proofs.Fitting.unserved.Goals as goal

pub returns-in_default-clause-gives : goal.returns-in_default-clause-gives
returns-in_default-clause-gives c = piece_none c.requires c.in_default.len_below

pub returns-clause-gives : goal.returns-clause-gives
returns-clause-gives c = piece_rest c.requires c.in-len2-up.len_at_least refl c.max.ensures refl refl refl refl

pub returns-clause-handed : goal.returns-clause-handed
returns-clause-handed c = record { supply = unpassed_none c.requires.none refl; demand = place_behind c.in-len2-up.len_at_least refl (place_first refl) }
