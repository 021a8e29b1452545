-- `study_text::put_report` meets its contract: the eight numbers and the newline, put one after the other, are one
-- text. Assumes nothing.
use Rattle.log_writes.proofs.Written.{written_also}
use Rattle.study_text.specs.Text.{report_line}
use Rattle.study_text.proofs.put_report.Goals as goal

pub returns : goal.returns
unfolding report_line
returns c =
    let two = written_also c.put_field.ensures c.put_field-2.ensures in
    let four = written_also (written_also two c.put_field-3.ensures) c.put_field-4.ensures in
    let six = written_also (written_also four c.put_field-5.ensures) c.put_field-6.ensures in
    let eight = written_also (written_also six c.put_field-7.ensures) c.put_field-8.ensures in
    written_also eight c.put.ensures
