-- Where and why a tape is refused: what stands on standard error of it.
use Rattle.std.specs.Prelude.{◌≡◌, List, [], ◌∷◌, ℕ, ◌+◌, ◌*◌, ◌%◌, ◌^◌, length, drop, Option, Some, Ok, Err}
use Rattle.world.specs.World.{empty_world}
use Rattle.world.specs.declared.World.{World}
use Rattle.world.specs.declared.refusal.Refusal.{Refusal}
use Rattle.record.specs.Record.{Answer, used_of}
use Rattle.record.specs.Calls.{RecordCall, outcome}
use Rattle.report.specs.Report.{no_counts}
use Rattle.report.specs.declared.Counts.{Counts}
use Rattle.study_text.specs.declared.Place.{Place}
use Rattle.study_play.specs.Play.{counts_after, ending_refusal}
use Rattle.study_step.specs.Step.{told_of}
use Rattle.study_whole.specs.Certified.{AllAccepted}
use Rattle.study_whole.specs.PrintedTotals.{AcceptsWhole}
use Rattle.study_whole.specs.Study.{calls_of}

-- ---- the refusal

-- a refused call's; behind an accepted one, what comes later
abbrev pub refusal_or : Answer → Option Refusal → Option Refusal
refusal_or (Ok a) later = later
refusal_or (Err r) later = Some r

-- the first one, of a call or of the tape's end, if there is one
unfoldable pub refusal_of : World → Counts → List RecordCall → List ℕ → Option Refusal
refusal_of w c [] left = ending_refusal w c (length left)
refusal_of w c (call ∷ calls) left =
    let o = outcome w call in
    refusal_or o.answer (refusal_of o.world (counts_after o.answer o.log c) calls left)

-- ---- its place

-- an accepted call's part of a sum, and that of the calls behind it
abbrev pub accepted_sum : Answer → ℕ → ℕ → ℕ
accepted_sum (Ok a) one later = one + later
accepted_sum (Err r) one later = 0

-- how many calls are accepted before one is refused
unfoldable pub accepted_calls : World → List RecordCall → ℕ
accepted_calls w [] = 0
accepted_calls w (call ∷ calls) = let o = outcome w call in accepted_sum o.answer 1 (accepted_calls o.world calls)

-- and how many words they use
unfoldable pub words_used : World → List RecordCall → ℕ
words_used w [] = 0
words_used w (call ∷ calls) =
    let o = outcome w call in
    accepted_sum o.answer (used_of o.answer) (words_used o.world calls)

-- as u64 counts them: no tape is so long that it matters
abbrev pub place_of : World → List RecordCall → Place
place_of w calls = record { records = accepted_calls w calls % 2 ^ 64; words = words_used w calls % 2 ^ 64 }

-- ---- what is said of it

unfoldable pub error_text : List ℕ → List ℕ
error_text tape =
    told_of
    (place_of empty_world (calls_of tape).calls)
    (refusal_of empty_world no_counts (calls_of tape).calls (calls_of tape).left)

-- ---- the claims about it

-- of the tape's calls the last alone may be refused. The number, one more than the accepted calls, is its own, counted
-- from 1; where bytes are left over, that of the call which they do not make. And what is left begins at the word.
pub record Numbered (tape : List ℕ) : Type 0 where
  pub call :
      (AllAccepted empty_world (calls_of tape).calls → ⊥)
      → accepted_calls empty_world (calls_of tape).calls + 1 ≡ length (calls_of tape).calls
  pub end :
      AllAccepted empty_world (calls_of tape).calls
      → accepted_calls empty_world (calls_of tape).calls ≡ length (calls_of tape).calls
  pub word : (calls_of tape).left ≡ drop (4 * words_used empty_world (calls_of tape).calls) tape

pub record PlacesHold : Type 0 where
  pub numbered : (tape : List ℕ) → Numbered tape
  -- of a tape that is accepted whole nothing is said
  pub silent : (tape : List ℕ) → AcceptsWhole tape → error_text tape ≡ []
