-- The notes of all servers, one by one. Assumes nothing.
use Prim.Native.Nat.{ℕ, ◌+◌, ◌≤◌, ◌<◌}
use mathlib.Core.Path.{◌≡◌, refl, ap, ◌∙◌}
use mathlib.Core.List.{List}
use mathlib.Core.Bool.{Bool, true, false, ◌&&◌}
use native.Mathlib.Omega.{arith}
use lib.ListN.{length, take, set, length-set, length-replicate}
use lib.Dec.{ltb}
use borrow.Author.Tests.{lt-ltb, le-ltb, ltb-true}
use Rattle.windows.specs.Windows.{cover}
use Rattle.table.specs.declared.Table.{Table}
use Rattle.table.specs.Places.{server_at, task_at, Obeyed}
use Rattle.table.proofs.Obeyed.{servers_most, task_server}
use Rattle.schedule.specs.Curves.{held_of}
use Rattle.answers.specs.Answers.{task_answer, no_task_answer, answer_on, server_answer, no_server_answer}
use Rattle.answers.specs.declared.ServerAnswer.{ServerAnswer}
use Rattle.answers.specs.declared.Response.{Response}
use Rattle.noting.specs.declared.PlaceNotes.{PlaceNotes}
use Rattle.noting.specs.Noted.{of_below, runs_at, TasksNoted}
use Rattle.answering.specs.Noted.{holds_at, NoNotes, ServersNoted, AllNoted}
use Rattle.answering.proofs.FreeCurves.{Freed}
use Rattle.noting.proofs.Noting.{noted_none, noted_same, noted_more, noted_all, below_next}

-- ---- all servers

-- the walk down the servers has come to place i, with the free curve of the server there, the notes of those above it and of their tasks
pub record Answered (table : Table) (tick : ℕ) (first free : List ℕ) (n i : ℕ) (servers : PlaceNotes ServerAnswer 16) (tasks : PlaceNotes Response 64) : Type 0 where
  pub freed : Freed table first free n i
  pub servers_noted : ServersNoted table tick (λ k. ltb k i) servers
  pub tasks_noted : TasksNoted table tick (of_below table (i + 1)) tasks

module _ (table : Table) (ok : Obeyed table) where
  -- no task has a server with a number below 1
  none_above : (k : ℕ) → of_below table 1 k ≡ false
  none_above k = go (ltb k table.tasks_n) refl
    where
      go : (b : Bool) → ltb k table.tasks_n ≡ b → (b && ltb (task_at table k).server 1) ≡ false
      go false e = refl
      go true e = le-ltb (task_at table k).server 1 (task_server table ok k (ltb-true k table.tasks_n e)).0

  -- each has one with a number up to the number of servers
  all_above : (i : ℕ) → table.servers_n ≤ i → (k : ℕ) → of_below table (i + 1) k ≡ ltb k table.tasks_n
  all_above i h k = go (ltb k table.tasks_n) refl
    where
      go : (b : Bool) → ltb k table.tasks_n ≡ b → (b && ltb (task_at table k).server (i + 1)) ≡ b
      go false e = refl
      go true e = lt-ltb (task_at table k).server (i + 1) (omega (arith, (task_server table ok k (ltb-true k table.tasks_n e)).1))

  pub answered_starts : (tick : ℕ) {first : List ℕ} {n : ℕ} {servers : PlaceNotes ServerAnswer 16} {tasks : PlaceNotes Response 64} → Freed table first first n 0
      → NoNotes (record { servers = servers; tasks = tasks })
      → Answered table tick first first n 0 servers tasks
  answered_starts tick f e = record {
    freed = f;
    servers_noted =
        record {
          all = ap length e.0 ∙ length-replicate 16 no_server_answer;
          answered = rw e.0 (noted_none (server_answer table) no_server_answer 16 (λ k. ltb k 0) (λ k. le-ltb k 0 (omega arith)));
          marks = ap length e.1 ∙ length-replicate 16 false;
          marked = rw e.1 (noted_none (holds_at table tick) false 16 (λ k. ltb k 0) (λ k. le-ltb k 0 (omega arith)));
        };
    tasks_noted =
        record {
          all = ap length e.2 ∙ length-replicate 64 no_task_answer;
          answered = rw e.2 (noted_none (task_answer table) no_task_answer 64 (of_below table 1) none_above);
          marks = ap length e.3 ∙ length-replicate 64 false;
          marked = rw e.3 (noted_none (runs_at table tick) false 64 (of_below table 1) none_above);
        };
  }

  module _ {tick : ℕ} {first free : List ℕ} {n i : ℕ} {servers : PlaceNotes ServerAnswer 16} {tasks : PlaceNotes Response 64} (w : Answered table tick first free n i servers tasks) where
    -- the server there is noted, and its tasks
    pub answered_next : i < table.servers_n → (a : ServerAnswer) → a ≡ answer_on (server_at table i) table.span (take n free)
        → {held : List ℕ} → held ≡ held_of table i → (b : Bool) → b ≡ ltb 0 (cover held tick)
        → {after : List ℕ} {m : ℕ} → Freed table first after m (i + 1)
        → {new : PlaceNotes Response 64} → TasksNoted table tick (of_below table (i + 1 + 1)) new
        → Answered table tick first after m (i + 1) (record { answers = set servers.answers i a; marks = set servers.marks i b }) new
    answered_next h a e d b q f v =
        let s = w.servers_noted in
        let last : ltb i (i + 1) ≡ true = lt-ltb i (i + 1) (omega arith) in
        record {
          freed = f;
          servers_noted =
              record {
                all = length-set servers.answers i a ∙ s.all;
                answered =
                    noted_more (server_answer table) no_server_answer servers.answers i a (below_next i) last (omega (arith, s.all, servers_most table ok))
                    (e ∙ ap (λ (l : List ℕ). answer_on (server_at table i) table.span l) w.freed.written.front) s.answered;
                marks = length-set servers.marks i b ∙ s.marks;
                marked =
                    noted_more (holds_at table tick) false servers.marks i b (below_next i) last (omega (arith, s.marks, servers_most table ok))
                    (q ∙ ap (λ (l : List ℕ). ltb 0 (cover l tick)) d) s.marked;
              };
          tasks_noted = v;
        }

    -- all are noted
    pub answered_all : table.servers_n ≤ i → AllNoted table tick (record { servers = servers; tasks = tasks })
    answered_all h =
        let s = w.servers_noted in
        let k = w.tasks_noted in
        let last : i ≡ table.servers_n = omega (arith, w.freed.within) in
        record {
          servers =
              noted_all (server_answer table) no_server_answer table.servers_n 16 servers.answers s.all
              (noted_same (server_answer table) no_server_answer (λ u. ap (ltb u) last) s.answered);
          tasks =
              noted_all (task_answer table) no_task_answer table.tasks_n 64 tasks.answers k.all
              (noted_same (task_answer table) no_task_answer (all_above i h) k.answered);
          holds = noted_same (holds_at table tick) false (λ u. ap (ltb u) last) s.marked;
          runs = noted_same (runs_at table tick) false (all_above i h) k.marked;
        }
