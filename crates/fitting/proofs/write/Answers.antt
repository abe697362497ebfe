use Rattle.fitting.specs.declared.Part.TheVariants.{Left, Served, Rest}
use Rattle.fitting.proofs.Fittings.{written_part}
use Rattle.fitting.proofs.write.Goals as goal

pub loop-piece-preserved-in-Left : goal.loop-piece-preserved-in-Left
loop-piece-preserved-in-Left c =
    rw (c.put.ensures.0, c.put.ensures.1) (c.in-Some.ensures.gives.sound, written_part Left _ _ _ c.loop-piece.invariant.1 (rw c.in-Left.is at c.in-Some.ensures.gives.is))

pub loop-piece-preserved-in-Served : goal.loop-piece-preserved-in-Served
loop-piece-preserved-in-Served c =
    rw (c.put-in-Served.ensures.0, c.put-in-Served.ensures.1) (c.in-Some.ensures.gives.sound, written_part Served _ _ _ c.loop-piece.invariant.1 (rw c.in-Served.is at c.in-Some.ensures.gives.is))

pub loop-piece-preserved : goal.loop-piece-preserved
loop-piece-preserved c =
    rw (c.put-in-Rest.ensures.0, c.put-in-Rest.ensures.1) (c.in-Some.ensures.gives.sound, written_part Rest _ _ _ c.loop-piece.invariant.1 (rw c.in-Rest.is at c.in-Some.ensures.gives.is))
