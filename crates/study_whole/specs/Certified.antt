-- What the study prints is of record calls as the certificate has them: the words of the joined log, and a report that
-- counts them.
use Rattle.std.specs.Prelude.{◌≡◌, true, List, [], ◌∷◌, ◌++◌, ℕ}
use Rattle.world.specs.World.{empty_world}
use Rattle.world.specs.declared.World.{World}
use Rattle.record.specs.Record.{is_accepted}
use Rattle.record.specs.Calls.{RecordCall, outcome, next_world, world_after}
use Rattle.claim_certificate.specs.Certificate.{joined}
use Rattle.report.specs.Report.{report_of}
use Rattle.study_numbers.specs.NumberText.{word_lines}
use Rattle.study_play.specs.Play.{last_line}
use Rattle.study_whole.specs.Study.{calls_of, study_text}

-- no call is refused
unfoldable pub AllAccepted : World → List RecordCall → Type 0
AllAccepted w [] = Unit {0}
AllAccepted w (c ∷ cs) = (is_accepted (outcome w c).answer ≡ true) × AllAccepted (next_world w c) cs

-- "prints each log word ..., then the report line. .. That line counts the words of all its ticks": where nothing is
-- refused and no byte is left, the lines of the joined log and the report of its words
unfoldable pub Certified : Type 0
Certified = (tape : List ℕ) → AllAccepted empty_world (calls_of tape).calls → (calls_of tape).left ≡ []
    → study_text tape
    ≡ word_lines (joined empty_world (calls_of tape).calls)
    ++ last_line (report_of (world_after empty_world (calls_of tape).calls) (joined empty_world (calls_of tape).calls))
