-- `study_text::put_place` meets its contract: the line's six parts, put one after the other, are one text.
-- Assumes nothing.
use Rattle.log_writes.proofs.Written.{written_also}
use Rattle.laws.specs.Numbers.{plus}
use Rattle.study_text.specs.Text.{place_line}
use Rattle.study_text.proofs.put_place.Goals as goal

pub returns : goal.returns
unfolding place_line plus
returns c =
    let number = rw (c.from-2.ensures, c.from.ensures) at c.put_field-3.ensures in
    let two = written_also c.put_field.ensures c.put_field-2.ensures in
    let four = written_also (written_also two number) c.put_all.ensures in
    written_also (written_also four (rw c.meaning.ensures at c.put_all-2.ensures)) c.put.ensures
