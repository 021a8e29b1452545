-- `study_step::begin` meets its contract: its study is the one that the call gives, and the rest is as written.
-- Assumes nothing.
use Rattle.std.proofs.Common.{ap, false}
use Rattle.study_pieces.specs.declared.Study.{Study}
use Rattle.study_step.specs.declared.ProgramRun.{ProgramRun}
use Rattle.study_step.proofs.begin.Goals as goal

start : Study → ProgramRun
start s = record { study = s; held = 0; ended = false }

pub returns : goal.returns
unfolding start
returns c = ap start c.begin.ensures
