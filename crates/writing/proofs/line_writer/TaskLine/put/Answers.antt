-- The fields of the release, then the deadline.
use Rattle.std.proofs.Common.{rules}
use Rattle.putting.proofs.Pages.{adds_more, adds_first}
use Rattle.writing.specs.Text.{task_line}
use Rattle.writing.proofs.Puts.{once_put, every_put}
use Rattle.writing.proofs.line_writer.TaskLine.put.Goals as goal
use Rattle.writing.proofs.line_writer.TaskLine.put.Goals.{in-Once, in-Every}

pub returns : goal.returns
unfolding task_line
returns c = elim c.match-self.branch [
  | in-Once w ↦
      let deadline = rw w.page-is at c.put_field-2.ensures.adds in
      let line = adds_more w.put_labelled.ensures.adds (adds_more w.put_field.ensures.adds
      (adds_more w.put_field-in-Once.ensures.adds (adds_more deadline c.put_byte.ensures))) in
      rw (w.in-Once.is, once_put _ _ _ _) (adds_first c.new-page.ensures.now c.new-page.ensures.count line (search rules))
  | in-Every w ↦
      let deadline = rw w.page-is at c.put_field-2.ensures.adds in
      let line = adds_more w.put_labelled-in-Every.ensures.adds (adds_more w.put_field-in-Every.ensures.adds
      (adds_more w.put_field-in-Every-2.ensures.adds (adds_more w.put_field-in-Every-3.ensures.adds (adds_more deadline c.put_byte.ensures)))) in
      rw (w.in-Every.is, every_put _ _ _ _ _) (adds_first c.new-page.ensures.now c.new-page.ensures.count line (search rules))
]
