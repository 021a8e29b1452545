-- The record call: one record of a tape, from the world, the words and the log to the answer, the next world and the
-- log.
use Rattle.std.specs.Prelude.{Result, Ok, Err, ◌≡◌, ℕ, Bool, true, false, List, [], ◌∷◌, length, Float}
use Rattle.std.proofs.lemmas.List.Edits.{sets}
use Rattle.world_sound.specs.Sound.{is_broken}
use Rattle.std.specs.declared.option.Option.{Option}
use Rattle.std.specs.declared.option.Option.TheVariants.{None, Some}
use Rattle.world.specs.Refusal.{Check, check, unless, refusal_number}
use Rattle.world.specs.declared.World.{World}
use Rattle.world.specs.declared.refusal.Refusal.{Refusal}
use Rattle.world.specs.declared.refusal.Refusal.TheVariants.{BrokenWorld}
use Rattle.tape.specs.Tape.{decoded}
use Rattle.tape_records.specs.declared.Read.{Read}
use Rattle.tape_records.specs.declared.Found.{Found}
use Rattle.tape_records.specs.declared.Found.TheVariants.{Change, Tick}
use Rattle.record_start.specs.Changes.{Effect}
use Rattle.record_kinds.specs.Kinds.{change_by, tick_checks_by}
use Rattle.tick.specs.Tick.{tick_world, tick_words}
use Rattle.record.specs.declared.Accepted.{Accepted}
use Rattle.record.specs.declared.Recorded.{Recorded}

-- ---- the answer: the certificate's "an accepted record or one numbered refusal"

abbrev pub Answer : Type 0
Answer = Result Accepted Refusal

abbrev pub is_accepted : Answer → Bool
is_accepted (Ok a) = true
is_accepted (Err r) = false

-- what an answer says, in the paper's numbers: the refusal's or none, "how many were used and how many log words were
-- written"
pub record AnswerNumbers : Type 0 where
  pub refusal : Option ℕ
  pub used : ℕ
  pub written : ℕ

-- a refusal "answers the number and 0 words"
abbrev pub answer_numbers : Answer → AnswerNumbers
answer_numbers (Ok a) = record { refusal = None; used = a.used; written = a.written }
answer_numbers (Err r) = record { refusal = Some (refusal_number r); used = 0; written = 0 }

abbrev pub used_of : Answer → ℕ
used_of a = (answer_numbers a).used

abbrev pub written_of : Answer → ℕ
written_of a = (answer_numbers a).written

-- ---- what a call gives

pub record Outcome : Type 0 where
  pub answer : Answer
  pub world : World
  pub log : List ℕ

abbrev pub accepted : ℕ → ℕ → World → List ℕ → Outcome
accepted used written w log = record { answer = Ok (record { used = used; written = written }); world = w; log = log }

-- "world and log unchanged"
abbrev pub refused : World → List ℕ → Refusal → Outcome
refused w log r = record { answer = Err r; world = w; log = log }

-- a call made by code: its answer and world, and the log that it left
pub record Gives (r : Recorded) (left : List ℕ) (o : Outcome) : Type 0 where
  pub answer : r.answer ≡ o.answer
  pub numbers : answer_numbers r.answer ≡ answer_numbers o.answer
  pub world : r.world ≡ o.world
  pub log : left ≡ o.log

-- ---- every record but the tick: no word is written, the log is as it was

abbrev pub change_outcome : World → List ℕ → ℕ → Effect → Outcome
change_outcome w log used (Ok next) = accepted used 0 next log
change_outcome w log used (Err r) = refused w log r

-- ---- C tick: "A tick writes its words from the log's start; later words stay."

-- 6, 11, 12
abbrev pub tick_checks : World → List ℕ → List Check
tick_checks w log = tick_checks_by w.started w.ticks w.cars.count w.stops.count (length log)

abbrev pub tick_accepted : World → List ℕ → ℕ → Float → Outcome
tick_accepted w log used dt = accepted used (length (tick_words w dt)) (tick_world w dt) (sets log 0 (tick_words w dt))

unfoldable pub tick_outcome : World → List ℕ → ℕ → Float → Outcome
tick_outcome w log used dt = unless (tick_checks w log) (refused w log) (tick_accepted w log used dt)

-- ---- the record call

-- the record, of so many words
abbrev pub outcome_by : World → List ℕ → ℕ → Found → Outcome
outcome_by w log used (Change found) = change_outcome w log used (change_by w found)
outcome_by w log used (Tick dt) = tick_outcome w log used dt

-- refusals 1 to 4, or the record
abbrev pub read_by : World → List ℕ → Result Read Refusal → Outcome
read_by w log (Err r) = refused w log r
read_by w log (Ok read) = outcome_by w log read.used read.found

-- "Checked in the order of the numbers": 0, then what the tape says, then what the state says
unfoldable pub record_of : World → List ℕ → List ℕ → Outcome
record_of w words log = unless (check BrokenWorld (is_broken w) ∷ []) (refused w log) (read_by w log (decoded words))
