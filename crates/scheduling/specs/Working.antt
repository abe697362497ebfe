-- What the private functions make of a text, a tick and six work buffers.
use Rattle.std.specs.Prelude.{ℕ, ◌≡◌, List, Bool, false, Result, Ok, Err, get_or}
use Rattle.table.specs.Places.{first_of}
use Rattle.answers.specs.declared.Analysis.{Analysis}
use Rattle.refusals.specs.declared.Refusal.{Refusal}
use Rattle.opening.specs.Opening.{opened_of}
use Rattle.answering.specs.Noted.{AllNoted}
use Rattle.scheduling.specs.declared.Who.{Who}
use Rattle.scheduling.specs.declared.Worked.{Worked}

-- the opening's table, of which all is noted, or its refusal
abbrev pub Works : List ℕ → ℕ → Bool → Result Worked Refusal → Type 0
Works text tick room (Ok worked) = (opened_of text tick room ≡ Ok worked.table) × AllNoted worked.table tick worked.notes
Works text tick room (Err refusal) = opened_of text tick room ≡ Err refusal

abbrev pub told_by : Worked → Who
told_by w = record {
  holder = first_of (λ i. get_or w.notes.servers.marks i false) w.table.servers_n 0;
  runner = first_of (λ j. get_or w.notes.tasks.marks j false) w.table.tasks_n 0;
}

abbrev pub listed_by : Worked → Analysis
listed_by w = record {
  span = w.table.span;
  servers_n = w.table.servers_n;
  tasks_n = w.table.tasks_n;
  servers = w.notes.servers.answers;
  tasks = w.notes.tasks.answers;
}
