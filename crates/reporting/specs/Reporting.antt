-- What the report call promises: the bytes of the report, or a refusal.
use Rattle.std.specs.Prelude.{ℕ, List, true, Result}
use Rattle.refusals.specs.Outcomes.{Leaves}
use Rattle.refusals.specs.declared.Refusal.{Refusal}
use Rattle.scheduling.specs.Analysing.{analysis_of}
use Rattle.putting.specs.Rooms.{in_room}
use Rattle.printing.specs.Report.{report_of}

-- the report of a text: the call has work buffers of its own, with room enough
abbrev pub report_for : List ℕ → List ℕ
report_for text = report_of (analysis_of text true)

-- 11: "result needs more room than lent"
abbrev pub report_outcome : List ℕ → List ℕ → Result ℕ Refusal
report_outcome text out = in_room (report_for text) out

-- of a text and a buffer, the answer and the buffer afterwards
abbrev pub Reports : List ℕ → List ℕ → Result ℕ Refusal → List ℕ → Type 0
Reports text out r after = Leaves (report_outcome text out) (report_for text) out r after
