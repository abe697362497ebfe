-- What was worked out is what the two calls answer. Assumes nothing.
use Prim.Native.Nat.{ℕ, ◌≤◌}
use mathlib.Core.Path.{◌≡◌}
use mathlib.Core.List.{List}
use mathlib.Core.Bool.{Bool}
use borrow.Author.Tests.{lt-leb}
use Rattle.std.specs.Prelude.{Ok}
use Rattle.table.proofs.Obeyed.{servers_most, tasks_most}
use Rattle.opening.specs.Opening.{opened_of}
use Rattle.opening.proofs.Opened.{opened_ready}
use Rattle.answering.specs.Noted.{AllNoted, holds_at}
use Rattle.noting.specs.Noted.{runs_at}
use Rattle.answering.proofs.Marked.{marked_first}
use Rattle.scheduling.specs.declared.Worked.{Worked}
use Rattle.scheduling.specs.Working.{told_by, listed_by}
use Rattle.scheduling.specs.Asking.{who_of}
use Rattle.scheduling.specs.Analysing.{analysis_of}

module _ (text : List ℕ) (tick : ℕ) (room : Bool) (w : Worked) (e : opened_of text tick room ≡ Ok w.table) (n : AllNoted w.table tick w.notes) where
  pub told_is : who_of text tick room ≡ Ok (told_by w)
  told_is =
      let r = opened_ready text tick room e in
      let holder = marked_first (holds_at w.table tick) w.table.servers_n w.notes.servers.marks n.holds in
      let runner = marked_first (runs_at w.table tick) w.table.tasks_n w.notes.tasks.marks n.runs in
      rw (holder, runner, r.roomy, r.accepted, lt-leb w.table.span tick r.within)

  pub listed_is : analysis_of text room ≡ Ok (listed_by w)
  listed_is = let r = opened_ready text tick room e in rw (n.servers, n.tasks, r.roomy, r.accepted)

  -- the table has no more entries than there are places
  pub works_few : (w.table.servers_n ≤ 16) × (w.table.tasks_n ≤ 64)
  works_few = let r = opened_ready text tick room e in (servers_most w.table r.obeyed, tasks_most w.table r.obeyed)
