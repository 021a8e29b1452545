-- A whole tape: the calls that the study makes, and what it prints of them.
use Rattle.std.specs.Prelude.{cond, List, [], ◌∷◌, ◌++◌, ℕ, zero, suc, ◌*◌, eqb, length, drop, replicate, Ok, Err}
use Rattle.world.specs.World.{empty_world}
use Rattle.world.specs.declared.World.{World}
use Rattle.record.specs.Record.{record_of, used_of}
use Rattle.record.specs.Calls.{RecordCall, outcome}
use Rattle.record.specs.Record.{Answer}
use Rattle.report.specs.Report.{no_counts}
use Rattle.report.specs.declared.Counts.{Counts}
use Rattle.study_text.specs.Text.{words_of}
use Rattle.study_play.specs.Play.{answer_text, counts_after, ending}

-- ---- the run of a tape: the calls that a study makes of these bytes, and the bytes that are left then

pub record TapeCalls : Type 0 where
  pub calls : List RecordCall
  pub left : List ℕ

abbrev pub with_call_first : RecordCall → TapeCalls → TapeCalls
with_call_first c m = record { calls = c ∷ m.calls; left = m.left }

-- none follows a refusal
abbrev pub unless_refused : Answer → List ℕ → TapeCalls → TapeCalls
unless_refused (Ok a) bytes m = m
unless_refused (Err r) bytes m = record { calls = []; left = bytes }

-- "It keeps one world and lends it to each record's call", and so with the log. `more` bounds the calls: each takes a
-- word at least.
unfoldable pub calls_made : ℕ → World → List ℕ → List ℕ → TapeCalls
calls_made zero w log bytes = record { calls = []; left = bytes }
calls_made (suc more) w log bytes =
    let o = record_of w (words_of bytes) log in
    cond (eqb (length (words_of bytes)) 0) (record { calls = []; left = bytes })
    (with_call_first (record { words = words_of bytes; log = log })
    (unless_refused o.answer bytes (calls_made more o.world o.log (drop (4 * used_of o.answer) bytes))))

-- of a whole tape: "The log it lends has 2,048 words."
abbrev pub calls_of : List ℕ → TapeCalls
calls_of tape = calls_made (suc (length tape)) empty_world (replicate 2048 0) tape

-- ---- what is printed of it

-- "at a refusal it prints `refused N` and stops without a report": what is printed after a record
abbrev pub goes_on : Answer → List ℕ → List ℕ
goes_on (Ok a) rest = rest
goes_on (Err r) rest = []

-- what is printed of calls from a world on, call after call, and at the end the report, with the bytes that are left
-- then
unfoldable pub printed_of : World → Counts → List RecordCall → List ℕ → List ℕ
printed_of w c [] left = ending w c (length left)
printed_of w c (call ∷ calls) left =
    let o = outcome w call in
    answer_text o.answer o.log ++ goes_on o.answer (printed_of o.world (counts_after o.answer o.log c) calls left)

unfoldable pub study_text : List ℕ → List ℕ
study_text tape = printed_of empty_world no_counts (calls_of tape).calls (calls_of tape).left
