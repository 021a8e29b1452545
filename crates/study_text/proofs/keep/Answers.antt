-- `study_text::keep`: what moving the bytes leaves. Assumes nothing.
use Rattle.study_text.proofs.Keeping.{moved}
use Rattle.study_text.proofs.keep.Goals as goal

pub returns : goal.returns
returns c =
    let a = c.args in
    moved a.bytes.now a.from a.end c.min-stop.result c.min-start.result c.min-stop.ensures c.min-start.ensures c.copy_within.new.self c.copy_within.ensures.after
