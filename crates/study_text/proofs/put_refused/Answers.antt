-- `study_text::put_refused` meets its contract: the refusal's number and the newline, put one after the other, are
-- one text. Assumes nothing.
use Rattle.log_writes.proofs.Written.{written_also}
use Rattle.study_text.specs.Text.{refused_line}
use Rattle.study_text.proofs.put_refused.Goals as goal

pub returns : goal.returns
unfolding refused_line
returns c = rw (← c.from.ensures, ← c.from-2.ensures) (written_also c.put_field.ensures c.put.ensures)
