use Rattle.std.proofs.Common.{arith}
use Rattle.holding.proofs.HoldTurns.{given_by, stands_first, turn_offered}
use Rattle.holding.proofs.HoldDraws.{draws_none, draws_room, turn_held, turn_left_over, turn_less, draws_all, drawn_few}
use Rattle.holding.proofs.Ahead.{ahead_all, ahead_end, ahead_behind, turn_ahead, at_most, none_ahead, starts_all}
use Rattle.holding.proofs.hold.Goals.{in-Held, in-Left}
use Rattle.holding.proofs.hold.Goals as goal

pub loop-ahead-init : goal.loop-ahead-init
loop-ahead-init c =
    let first = stands_first c.args.capacity (given_by c.requires.0 c.requires.3 c.requires.4) in
    rw (c.start-place.ensures) (record { ahead = ahead_all _; stands = starts_all first; draws = draws_none _ _ _ _ _ _ })

pub entered-here-requires : goal.entered-here-requires
entered-here-requires c =
    let p = c.requires in
    let v = c.loop-ahead.invariant in
    (p.0, p.1, at_most (given_by c.requires.0 c.requires.3 c.requires.4) v.ahead v.stands c.in-len2-up.len_at_least c.max-at.ensures, v.stands.paced.turn)

pub next_piece-requires : goal.next_piece-requires
next_piece-requires c =
    rw (ahead_end c.loop-ahead.invariant.ahead c.in-len2-up.len_at_least)
    (turn_offered (turn_ahead (given_by c.requires.0 c.requires.3 c.requires.4) c.loop-ahead.invariant.ahead c.loop-ahead.invariant.stands c.in-len2-up.len_at_least c.max-at.ensures c.entered-here.ensures))

pub put-requires : goal.put-requires
put-requires c =
    let v = c.loop-ahead.invariant in
    let turn = turn_ahead (given_by c.requires.0 c.requires.3 c.requires.4) c.loop-ahead.invariant.ahead c.loop-ahead.invariant.stands c.in-len2-up.len_at_least c.max-at.ensures c.entered-here.ensures in
    let cut = c.in-Held.ensures in
    let end = ahead_end v.ahead c.in-len2-up.len_at_least in
    draws_room turn c.entered-here.ensures.there cut.0 (rw end at cut.1) v.draws.in_held c.requires.5

pub put-requires-in-Left : goal.put-requires-in-Left
put-requires-in-Left c =
    let v = c.loop-ahead.invariant in
    let turn = turn_ahead (given_by c.requires.0 c.requires.3 c.requires.4) c.loop-ahead.invariant.ahead c.loop-ahead.invariant.stands c.in-len2-up.len_at_least c.max-at.ensures c.entered-here.ensures in
    let cut = c.in-Left.ensures in
    let end = ahead_end v.ahead c.in-len2-up.len_at_least in
    draws_room turn c.entered-here.ensures.there cut.0 (rw end at cut.1) v.draws.in_left c.requires.6

pub loop-ahead-smaller : goal.loop-ahead-smaller
loop-ahead-smaller c =
    let v = c.loop-ahead.invariant in
    let turn = turn_ahead (given_by c.requires.0 c.requires.3 c.requires.4) c.loop-ahead.invariant.ahead c.loop-ahead.invariant.stands c.in-len2-up.len_at_least c.max-at.ensures c.entered-here.ensures in
    let end = ahead_end v.ahead c.in-len2-up.len_at_least in
    elim c.match-next_piece.branch [
      | in-Held x ↦ rw (x.place-is, x.served-place.ensures.there) (turn_less turn x.in-Held.ensures.0 (rw end at x.in-Held.ensures.1))
      | in-Left x ↦ rw x.place-is (turn_less turn x.in-Left.ensures.0 (rw end at x.in-Left.ensures.1))
    ]

pub loop-ahead-preserved : goal.loop-ahead-preserved
loop-ahead-preserved c =
    let v = c.loop-ahead.invariant in
    let pair = c.in-len2-up.len_at_least in
    let turn = turn_ahead (given_by c.requires.0 c.requires.3 c.requires.4) c.loop-ahead.invariant.ahead c.loop-ahead.invariant.stands c.in-len2-up.len_at_least c.max-at.ensures c.entered-here.ensures in
    let there = c.entered-here.ensures.there in
    let end = ahead_end v.ahead pair in
    let next = ahead_behind v.ahead pair _ c.unpassed-ahead.ensures in
    let behind = next.1 in
    elim c.match-next_piece.branch [
      | in-Held x ↦
          let cut = x.in-Held.ensures in
          let t = turn_held turn there v.draws (rw end at cut.1) cut.2 x.put.ensures x.served-place.ensures (rw x.place-is at behind) in
          rw (x.held-is, x.left-is, x.place-is, x.counts-is) (record { ahead = next.0; stands = t.0; draws = t.1 })
      | in-Left x ↦
          let cut = x.in-Left.ensures in
          let t = turn_left_over turn there v.draws cut.0 (rw end at cut.1) cut.2 x.put-in-Left.ensures (rw x.place-is at behind) in
          rw (x.held-is, x.left-is, x.place-is, x.counts-is) (record { ahead = next.0; stands = t.0; draws = t.1 })
    ]

pub returns-clause-taken : goal.returns-clause-taken
returns-clause-taken c =
    let v = c.loop-ahead.invariant in
    let g = given_by c.requires.0 c.requires.3 c.requires.4 in
    (draws_all g v.stands (none_ahead g v.ahead v.stands c.in_default.len_below) v.draws).0

pub returns-clause-left : goal.returns-clause-left
returns-clause-left c =
    let v = c.loop-ahead.invariant in
    let g = given_by c.requires.0 c.requires.3 c.requires.4 in
    (draws_all g v.stands (none_ahead g v.ahead v.stands c.in_default.len_below) v.draws).1

pub returns-clause-fits : goal.returns-clause-fits
returns-clause-fits c =
    let v = c.loop-ahead.invariant in
    let g = given_by c.requires.0 c.requires.3 c.requires.4 in
    drawn_few c.requires.4 (λ t. omega arith) (draws_all g v.stands (none_ahead g v.ahead v.stands c.in_default.len_below) v.draws).1
