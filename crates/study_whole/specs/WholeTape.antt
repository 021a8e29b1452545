-- What the study's program writes, round after round, comes to the whole tape's text.
use Rattle.std.specs.Prelude.{◌≡◌, Bool, true, false, List, [], ◌∷◌, ◌++◌, ℕ, ◌+◌, ◌*◌, ◌≤◌, length, replicate, Err}
use Rattle.world.specs.declared.refusal.Refusal.TheVariants.{CutShort}
use Rattle.tape.specs.Tape.{decoded}
use Rattle.study_step.specs.Step as Step
use Rattle.study_step.specs.Step.{Reading, GotBytes, Failed, Unasked, ProgramState, program_state, is_read_wanted, stepped}
use Rattle.study_whole.specs.Place.{error_text}
use Rattle.study_whole.specs.Study.{study_text}

-- "Words after the record are ignored": what follows words that are not cut short changes nothing
unfoldable pub Ignored : Type 0
Ignored = (ws vs : List ℕ) → (decoded ws ≡ Err CutShort → ⊥) → decoded (ws ++ vs) ≡ decoded ws

-- no record is longer than 69 words
unfoldable pub Longest : Type 0
Longest = (ws vs : List ℕ) → 69 ≤ length ws → decoded (ws ++ vs) ≡ decoded ws

-- ---- the program's rounds, whose reads in turn gave this

-- it begins so: nothing is read, and the log is all zeros
abbrev pub running_at_start : ProgramState
running_at_start = program_state Step.begun (replicate 2048 0) []

unfoldable pub after_rounds : ProgramState → List Reading → ProgramState
after_rounds r [] = r
after_rounds r (g ∷ gs) = after_rounds (stepped r g).next gs

-- what they write to standard output
unfoldable pub output_of : ProgramState → List Reading → List ℕ
output_of r [] = []
output_of r (g ∷ gs) = (stepped r g).output ++ output_of (stepped r g).next gs

-- and to standard error
unfoldable pub error_of : ProgramState → List Reading → List ℕ
error_of r [] = []
error_of r (g ∷ gs) = (stepped r g).error ++ error_of (stepped r g).next gs

-- ---- the tape that they read

abbrev pub bytes_of : Reading → List ℕ
bytes_of (GotBytes bytes) = bytes
bytes_of Failed = []
bytes_of Unasked = []

-- what these reads gave, and then what is still to come
unfoldable pub tape_of : List Reading → List ℕ → List ℕ
tape_of [] more = more
tape_of (g ∷ gs) more = bytes_of g ++ tape_of gs more

-- a read gives no byte at the end of the tape alone
unfoldable pub InOrder : List Reading → List ℕ → Type 0
InOrder [] more = Unit {0}
InOrder (g ∷ gs) more = (g ≡ GotBytes [] → tape_of gs more ≡ []) × InOrder gs more

unfoldable pub NoneFailed : List Reading → Type 0
NoneFailed [] = Unit {0}
NoneFailed (g ∷ gs) = (g ≡ Failed → ⊥) × NoneFailed gs

-- the program reads in the rounds that want more input, and in no other
abbrev pub is_read : Reading → Bool
is_read (GotBytes bytes) = true
is_read Failed = true
is_read Unasked = false

unfoldable pub AsWanted : ProgramState → List Reading → Type 0
AsWanted r [] = Unit {0}
AsWanted r (g ∷ gs) = (is_read g ≡ is_read_wanted r.ended (length r.kept)) × AsWanted (stepped r g).next gs

-- ---- the claims

pub record BeginningOf (whole part : List ℕ) : Type 0 where
  pub rest : List ℕ
  pub joined : part ++ rest ≡ whole

-- whatever the reads give, what was written to standard output is a beginning of the whole tape's text
unfoldable pub Beginning : Type 0
Beginning = (gs : List Reading) (more : List ℕ) → InOrder gs more
    → BeginningOf (study_text (tape_of gs more)) (output_of running_at_start gs)

-- it is all of it, whatever else the input holds, once the study is over and no read failed; and on standard error then
-- stands which record was refused and why, where one was, and nothing else
pub record AllWritten (tape : List ℕ) (gs : List Reading) : Type 0 where
  pub output : output_of running_at_start gs ≡ study_text tape
  pub error : error_of running_at_start gs ≡ error_text tape

unfoldable pub Over : Type 0
Over = (gs : List Reading) (more : List ℕ) → InOrder gs more → NoneFailed gs
    → (after_rounds running_at_start gs).study.over ≡ true → AllWritten (tape_of gs more) gs

-- it is over after two rounds for each byte of the tape, and two
unfoldable pub RunEnds : Type 0
RunEnds = (gs : List Reading) (more : List ℕ) → AsWanted running_at_start gs
    → 2 + 2 * length (tape_of gs more) ≤ length gs → (after_rounds running_at_start gs).study.over ≡ true

pub record InPieces : Type 0 where
  pub beginning : Beginning
  pub over : Over
  pub ends : RunEnds
