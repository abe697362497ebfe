-- What a call on a text answers has room in the arrays of C. Assumes nothing.
use Prim.Native.Nat.{ℕ, ◌≤◌}
use mathlib.Core.Path.{◌≡◌, refl}
use mathlib.Core.List.{List}
use mathlib.Core.Bool.{Bool, true, false}
use Rattle.std.specs.Prelude.{Result, Ok, Err, IfOk}
use Rattle.refusals.specs.declared.Refusal.{Refusal}
use Rattle.table.specs.declared.Table.{Table}
use Rattle.table.proofs.Obeyed.{servers_most, tasks_most}
use Rattle.reading.specs.Reading.{reading_of}
use Rattle.reading.proofs.Accepted.{accepted_obeyed}
use Rattle.answers.specs.declared.Analysis.{Analysis}
use Rattle.scheduling.specs.Analysing.{analysis_of}
use Rattle.scheduling.proofs.Analyses.{analysis_sized}

-- a table that is read has no more entries than the arrays have rows
pub reading_fits : (text : List ℕ) → IfOk (reading_of text) (λ (table : Table). (table.servers_n ≤ 16) × (table.tasks_n ≤ 64))
reading_fits text = go (reading_of text) refl
  where
    go : (read : Result Table Refusal) → reading_of text ≡ read → IfOk read (λ (table : Table). (table.servers_n ≤ 16) × (table.tasks_n ≤ 64))
    go (Ok table) e = let ok = accepted_obeyed text e in (servers_most table ok, tasks_most table ok)
    go (Err refusal) e = tt

-- an analysis has no more answers than there are places in the arrays
pub analysis_fits : (text : List ℕ) (room : Bool) → IfOk (analysis_of text room) (λ (a : Analysis). (a.servers_n ≤ 16) × (a.tasks_n ≤ 64))
analysis_fits text false = tt
analysis_fits text true = go (analysis_of text true) refl
  where
    go : (analysed : Result Analysis Refusal) → analysis_of text true ≡ analysed → IfOk analysed (λ (a : Analysis). (a.servers_n ≤ 16) × (a.tasks_n ≤ 64))
    go (Ok a) e = let sized = analysis_sized text a e in (sized.servers_most, sized.tasks_most)
    go (Err refusal) e = tt
