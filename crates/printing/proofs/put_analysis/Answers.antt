-- The lines of the span, the servers and the tasks.
use Rattle.std.proofs.Common.{arith, rules, length, ◌≡◌}
use Rattle.putting.proofs.Pages.{adds_more}
use Rattle.answers.specs.Answers.{no_server_answer, no_task_answer}
use Rattle.printing.specs.Report.{server_line, task_line, report_of}
use Rattle.printing.proofs.Listings.{lines_listed}
use Rattle.printing.proofs.put_analysis.Goals as goal

pub returns-clause-adds : goal.returns-clause-adds
unfolding report_of
returns-clause-adds c =
    let a = c.args.analysis in
    let servers : length a.servers ≡ 16 = search rules in
    let tasks : length a.tasks ≡ 64 = search rules in
    let server_lines = rw (lines_listed server_line no_server_answer a.servers a.servers_n (omega arith)) at c.put_lines.ensures.adds in
    let task_lines = rw (lines_listed task_line no_task_answer a.tasks a.tasks_n (omega arith)) at c.put_lines-2.ensures.adds in
    adds_more c.put_span.ensures.adds (adds_more server_lines task_lines)
