use Rattle.std.proofs.Common.{ℕ, ◌≡◌, ◌<◌, ◌+◌, ◌-◌, length, get_or, arith, length-set}
use Rattle.buffers.proofs.Puts.{coming, put_room, put_behind, put_joined}
use Rattle.buffers.proofs.put.Goals.{Joined-else-count-gt0, else-count-gt0-via-then-count-gt0+else-out-count, else-count-gt0-via-else-count-gt0}
use Rattle.buffers.proofs.put.Goals as goal

-- the window does not touch the last one
apart : (c : Joined-else-count-gt0) → 0 < c.args.count → ¬ (get_or c.args.out.now (c.args.count - 1) 0 ≡ c.args.start)
apart c = elim c.else-count-gt0.branch [ else-count-gt0-via-then-count-gt0+else-out-count w ↦ (λ h. w.if-out-count.false) | else-count-gt0-via-else-count-gt0 w ↦ (λ h. absurd (omega arith)) ]

-- so there is room behind it
room : (c : Joined-else-count-gt0) → c.args.count + 1 < length c.args.out.now
room c = put_room _ _ _ _ (coming c.requires) (apart c)

pub returns-then-out-count : goal.returns-then-out-count
returns-then-out-count c = put_joined _ _ _ _ (coming c.requires) c.if-count-gt0.true c.if-out-count.true

pub bounds-out-count-2 : goal.bounds-out-count-2
bounds-out-count-2 c = omega (arith, room c)

pub bounds-out-count-3 : goal.bounds-out-count-3
bounds-out-count-3 c = omega (arith, room c, length-set {A = ℕ})

pub returns : goal.returns
returns c = put_behind _ _ _ _ (coming c.requires) (apart c)
