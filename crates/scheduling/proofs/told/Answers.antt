-- The first that is marked in front of an array is the first by its places.
use Rattle.std.proofs.Common.{◌≡◌, ◌∙◌, length, rules, arith}
use Rattle.answering.proofs.Marked.{front_marked}
use Rattle.scheduling.proofs.told.Goals as goal

pub returns : goal.returns
returns c =
    let w = c.args.worked in
    let servers : length w.notes.servers.marks ≡ 16 = search rules in
    let tasks : length w.notes.tasks.marks ≡ 64 = search rules in
    let holder = c.first_marked-holder.ensures ∙ front_marked w.table.servers_n w.notes.servers.marks (omega arith) in
    let runner = c.first_marked-runner.ensures ∙ front_marked w.table.tasks_n w.notes.tasks.marks (omega arith) in
    cc
