-- The analysis: how long its lists are, how large its numbers, and what it says of the machine's run. Assumes nothing.
use Prim.Native.Nat.{ℕ, ◌≤◌, ◌<◌}
use mathlib.Core.Path.{◌≡◌, refl, sym, subst}
use mathlib.Core.List.{List}
use mathlib.Core.Bool.{true}
use native.Mathlib.Omega.{arith}
use lib.ListN.{length, get_or}
use Rattle.std.specs.Prelude.{Result, Ok, Err}
use Rattle.table.specs.declared.Table.{Table}
use Rattle.table.specs.Places.{Obeyed}
use Rattle.table.proofs.Obeyed.{servers_most, tasks_most, span_most}
use Rattle.refusals.specs.declared.Refusal.{Refusal}
use Rattle.reading.specs.Reading.{reading_of}
use Rattle.reading.proofs.TurnedAway.{TurnedAway, turned_away}
use Rattle.answers.specs.Answers.{server_answer, task_answer, no_server_answer, no_task_answer}
use Rattle.answers.specs.Jobs.{ServerSays, TaskSays}
use Rattle.answers.specs.declared.Analysis.{Analysis}
use Rattle.answers.specs.declared.ServerAnswer.{ServerAnswer}
use Rattle.answers.specs.declared.Response.{Response}
use Rattle.answers.proofs.Entries.{entries_length, entry_is}
use Rattle.answers.proofs.Saying.{server_says, task_says}
use Rattle.answers.proofs.Within.{ResponseWithin, ServerWithin, RefusalWithin, Within, server_within, task_within}
use Rattle.scheduling.specs.Analysing.{analysed, analysis_of, Says}
use Rattle.reading.proofs.Accepted.{accepted_obeyed}

-- ---- sizes

pub record Sized (a : Analysis) : Type 0 where
  pub servers_most : a.servers_n ≤ 16
  pub servers_length : length a.servers ≡ 16
  pub tasks_most : a.tasks_n ≤ 64
  pub tasks_length : length a.tasks ≡ 64

answered_sized : (table : Table) → Obeyed table → Sized (analysed table)
answered_sized table ok = record {
  servers_most = servers_most table ok;
  servers_length = entries_length (server_answer table) no_server_answer table.servers_n 16 0;
  tasks_most = tasks_most table ok;
  tasks_length = entries_length (task_answer table) no_task_answer table.tasks_n 64 0;
}

pub analysis_sized : (text : List ℕ) (a : Analysis) → analysis_of text true ≡ Ok a → Sized a
analysis_sized text a q = go (reading_of text) refl
  where
    go : (x : Result Table Refusal) → reading_of text ≡ x → Sized a
    go (Ok table) e = let is : analysed table ≡ a = cc (rw e at q) in subst Sized is (answered_sized table (accepted_obeyed text e))
    go (Err refusal) e = absurd (cc (rw e at q))

-- ---- the entry at a place is the answer of the server or the task there

module _ (table : Table) (ok : Obeyed table) where
  server_entry : (says : ServerAnswer → Type 0) (i : ℕ) → i < table.servers_n → says (server_answer table i)
      → says (get_or (analysed table).servers i no_server_answer)
  server_entry says i h p =
      subst says (sym (entry_is (server_answer table) no_server_answer table.servers_n 16 i (omega (arith, servers_most table ok)) h)) p

  task_entry : (says : Response → Type 0) (k : ℕ) → k < table.tasks_n → says (task_answer table k)
      → says (get_or (analysed table).tasks k no_task_answer)
  task_entry says k h p =
      subst says (sym (entry_is (task_answer table) no_task_answer table.tasks_n 64 k (omega (arith, tasks_most table ok)) h)) p

-- ---- how large its numbers are

refused_within : (refusal : Refusal) → TurnedAway 4097 refusal → RefusalWithin refusal
refused_within refusal t = record { number = t.few; line = t.line; place = t.place }

answered_within : (table : Table) → Obeyed table → Within (analysed table)
answered_within table ok = record {
  span = span_most table ok;
  of_server = λ i h. server_entry table ok ServerWithin i h (server_within table ok i h);
  of_task = λ k h. task_entry table ok (λ a. ResponseWithin a) k h (task_within table ok k h);
}

-- of an analysis, and of the refusal of one
pub analysis_within : (text : List ℕ) (a : Analysis) → analysis_of text true ≡ Ok a → Within a
analysis_within text a q = go (reading_of text) refl
  where
    go : (x : Result Table Refusal) → reading_of text ≡ x → Within a
    go (Ok table) e = let is : analysed table ≡ a = cc (rw e at q) in subst Within is (answered_within table (accepted_obeyed text e))
    go (Err refusal) e = absurd (cc (rw e at q))

pub refusal_within : (text : List ℕ) (r : Refusal) → analysis_of text true ≡ Err r → RefusalWithin r
refusal_within text r q = go (reading_of text) refl
  where
    go : (x : Result Table Refusal) → reading_of text ≡ x → RefusalWithin r
    go (Ok table) e = absurd (cc (rw e at q))
    go (Err refusal) e = let is : refusal ≡ r = cc (rw e at q) in subst RefusalWithin is (refused_within refusal (turned_away text refusal e))

-- ---- what it says of the machine

analysed_says : (table : Table) → Obeyed table → Says table (analysed table)
analysed_says table ok = record {
  span = refl;
  servers_count = refl;
  tasks_count = refl;
  of_server = λ i h. server_entry table ok (ServerSays table i) i h (server_says table ok i h);
  of_task = λ k h. task_entry table ok (λ a. TaskSays table k a) k h (task_says table ok k h);
}

-- demand 3, its second half: for every accepted text, with room enough, the answers are those of the machine's run
pub analysis_is_machine : (text : List ℕ) (table : Table) → reading_of text ≡ Ok table
    → (analysis_of text true ≡ Ok (analysed table)) × Says table (analysed table)
analysis_is_machine text table e = (rw e, analysed_says table (accepted_obeyed text e))
