-- The work buffers before and after a call.
use Rattle.std.specs.Prelude.{ℕ, ◌≡◌, List, length, replicate}
use Rattle.buffers.specs.declared.work.Work.{Work}

-- they are the same buffers, each as long as it was, whatever numbers they hold
pub record Same (old new : Work) : Type 0 where
  pub free : new.free.ghost_name ≡ old.free.ghost_name
  pub sum : new.sum.ghost_name ≡ old.sum.ghost_name
  pub part : new.part.ghost_name ≡ old.part.ghost_name
  pub held : new.held.ghost_name ≡ old.held.ghost_name
  pub running : new.running.ghost_name ≡ old.running.ghost_name
  pub spare : new.spare.ghost_name ≡ old.spare.ghost_name
  pub free_length : length new.free.now ≡ length old.free.now
  pub sum_length : length new.sum.now ≡ length old.sum.now
  pub part_length : length new.part.now ≡ length old.part.now
  pub held_length : length new.held.now ≡ length old.held.now
  pub running_length : length new.running.now ≡ length old.running.now
  pub spare_length : length new.spare.now ≡ length old.spare.now

-- every number is 0
abbrev pub zeros : List ℕ → List ℕ
zeros buffer = replicate (length buffer) 0

pub record Cleared (old new : Work) : Type 0 where
  pub free : new.free.now ≡ zeros old.free.now
  pub sum : new.sum.now ≡ zeros old.sum.now
  pub part : new.part.now ≡ zeros old.part.now
  pub held : new.held.now ≡ zeros old.held.now
  pub running : new.running.now ≡ zeros old.running.now
  pub spare : new.spare.now ≡ zeros old.spare.now
