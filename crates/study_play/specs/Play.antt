-- A study, record by record, and what is printed of it.
use Rattle.std.specs.Prelude.{List, ℕ, zero, suc, take, Option, Some, Ok, Err}
use Rattle.world.specs.declared.World.{World}
use Rattle.std.specs.Result.{result_err}
use Rattle.laws.specs.Numbers.{plus}
use Rattle.world.specs.declared.refusal.Refusal.{Refusal}
use Rattle.world.specs.declared.refusal.Refusal.TheVariants.{CutShort}
use Rattle.record.specs.Record.{Answer}
use Rattle.report.specs.Report.{count_more, counted_report}
use Rattle.report.specs.declared.Counts.{Counts}
use Rattle.report.specs.Report.{Reported}
use Rattle.study_numbers.specs.NumberText.{word_lines}
use Rattle.study_text.specs.Text.{report_line, refused_line}
use Rattle.study_text.specs.declared.Place.{Place}

-- ---- a record

-- "prints each log word ..; at a refusal it prints `refused N`": the words are as many from the log's start as the
-- answer says were written
abbrev pub answer_text : Answer → List ℕ → List ℕ
answer_text (Ok a) log = word_lines (take a.written log)
answer_text (Err r) log = refused_line r

-- "That line counts the words of all its ticks."
abbrev pub counts_after : Answer → List ℕ → Counts → Counts
counts_after (Ok a) log c = count_more c (take a.written log)
counts_after (Err r) log c = c

-- the place behind an accepted record; a refused one is not passed
abbrev pub place_after : Answer → Place → Place
place_after (Ok a) p = record { records = plus p.records 1; words = plus p.words a.used }
place_after (Err r) p = p

-- ---- the end of a tape

-- "then the report line"
abbrev pub last_line : Reported → List ℕ
last_line (Ok t) = report_line t
last_line (Err r) = refused_line r

-- "Input that ends between records ends the tape; one to three bytes left over are refused 1."
unfoldable pub ending : World → Counts → ℕ → List ℕ
ending w c zero = last_line (counted_report w c)
ending w c (suc left) = refused_line CutShort

-- the refusal that it prints, if it prints one
unfoldable pub ending_refusal : World → Counts → ℕ → Option Refusal
ending_refusal w c zero = result_err (counted_report w c)
ending_refusal w c (suc left) = Some CutShort
