-- A margin more.
use Rattle.std.proofs.Common.{◌≡◌, length, ◌∙◌, arith, rules, w32}
use mir.Val.{SFits}
use mir.Facts.{to_z-of_z}
use lib.Seq.{length-take-le}
use Rattle.handing.proofs.Listed.{listed_none, listed_next, listed_all}
use Rattle.handing.proofs.listing.list_margins.Goals as goal

pub loop-j-init : goal.loop-j-init
loop-j-init c = record { within = omega arith; written = listed_none _ _ _ }

pub loop-j-preserved : goal.loop-j-preserved
loop-j-preserved c =
    let tasks : length c.args.tasks ≡ 64 = search rules in
    let count = length-take-le c.args.n c.args.tasks (omega (arith, c.requires)) in
    let fits : SFits w32 c.margin_number.result = search rules in
    record {
      within = omega arith;
      written = listed_next _ _ _ _ _ _ _ c.loop-j-test.true (omega (arith, count, c.requires)) (to_z-of_z fits ∙ c.margin_number.ensures) c.loop-j.invariant.written;
    }

pub returns : goal.returns
returns c =
    let tasks : length c.args.tasks ≡ 64 = search rules in
    let count = length-take-le c.args.n c.args.tasks (omega (arith, c.requires)) in
    listed_all _ _ _ _ _ _ (omega (arith, count, c.loop-j.invariant.within, c.loop-j-test.false)) (omega (arith, c.requires)) c.loop-j.invariant.written
