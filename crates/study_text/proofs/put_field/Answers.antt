-- `study_text::put_field` meets its contract: the name and the number, put one after the other, are one text.
-- Assumes nothing.
use Rattle.log_writes.proofs.Written.{written_also}
use Rattle.study_text.proofs.put_field.Goals as goal

pub returns : goal.returns
returns c = written_also c.put_all.ensures c.put_decimal.ensures
