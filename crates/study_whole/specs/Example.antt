-- Document 01's tape, by computing: what the study prints of it.
use Rattle.std.specs.Prelude.{◌≡◌, true, List, [], ◌∷◌, ◌++◌, ℕ, ◌/◌, ◌%◌, ◌^◌, length}
use Rattle.study_numbers.specs.NumberText.{text, newline}
use Rattle.world.specs.World.{empty_world}
use Rattle.study_whole.specs.Study.{calls_of, study_text}
use Rattle.study_whole.specs.Certified.{AllAccepted}
use Rattle.study_step.specs.Step.{Reading, GotBytes}
use Rattle.study_whole.specs.Place.{error_text}
use Rattle.study_whole.specs.WholeTape.{running_at_start, after_rounds, output_of, error_of, InOrder, AsWanted}

-- a word's bytes, the lowest first
abbrev pub little_endian : List ℕ → List ℕ
little_endian [] = []
little_endian (w ∷ ws) = w % 2 ^ 8 ∷ w / 2 ^ 8 % 2 ^ 8 ∷ w / 2 ^ 16 % 2 ^ 8 ∷ w / 2 ^ 24 ∷ little_endian ws

-- "stops 0 at 0 and 1 at 0.25; line 0 linear without a list; car 0 at 0, velocity 0, max 2, rates 1, factor 1, both
-- ticks 1; start; send to 1; four ticks of 0.5"
abbrev pub paper_tape : List ℕ
paper_tape =
    (0x20000000 ∷ 0 ∷ 0 ∷ [])
    ++ (0x20010000 ∷ 0x3fd00000 ∷ 0 ∷ [])
    ++ (0x1000ffff ∷ 0 ∷ 0 ∷ 0 ∷ 0 ∷ [])
    ++ (0x30000000 ∷ 0 ∷ 0 ∷ 0 ∷ 0 ∷ 0x40000000 ∷ 0 ∷ 0x3ff00000 ∷ 0 ∷ 0x3ff00000 ∷ 0 ∷ 0x3ff00000 ∷ 0 ∷ 1 ∷ 1 ∷ [])
    ++ (0xd0000000 ∷ [])
    ++ (0x50010000 ∷ [])
    ++ (0xc0000000 ∷ 0x3fe00000 ∷ 0 ∷ [])
    ++ (0xc0000000 ∷ 0x3fe00000 ∷ 0 ∷ [])
    ++ (0xc0000000 ∷ 0x3fe00000 ∷ 0 ∷ [])
    ++ (0xc0000000 ∷ 0x3fe00000 ∷ 0 ∷ [])

-- "Output, one item a line"
abbrev pub paper_output : List ℕ
paper_output =
    (text "00000000" ++ newline)
    ++ (text "20010000" ++ newline)
    ++ (text "60000000" ++ newline)
    ++ (text "00000001" ++ newline)
    ++ (text "00000002" ++ newline)
    ++ (text "70000000" ++ newline)
    ++ (text "00000003" ++ newline)
    ++ (text "ticks 4 moves 1 passing 0 arrived 1 repositioned 0 opened 1 closed 1 waiting 0" ++ newline)

unfoldable pub PaperTape : Type 0
PaperTape = study_text (little_endian paper_tape) ≡ paper_output

-- it is one of the tapes that `Certified` is about: ten calls, each accepted, and no byte left
pub record PaperCalls : Type 0 where
  pub ten : length (calls_of (little_endian paper_tape)).calls ≡ 10
  pub accepted : AllAccepted empty_world (calls_of (little_endian paper_tape)).calls
  pub none : (calls_of (little_endian paper_tape)).left ≡ []

-- the program's rounds: a read of all of it, then one at its end
abbrev pub paper_reads : List Reading
paper_reads = GotBytes (little_endian paper_tape) ∷ GotBytes [] ∷ []

-- they are as `InPieces` has them; after them the program is over, all of the output is written, and nothing on
-- standard error
pub record PaperRounds : Type 0 where
  pub in_order : InOrder paper_reads []
  pub as_wanted : AsWanted running_at_start paper_reads
  pub over : (after_rounds running_at_start paper_reads).study.over ≡ true
  pub output : output_of running_at_start paper_reads ≡ paper_output
  pub error : error_of running_at_start paper_reads ≡ []

-- ---- with a second start behind it

abbrev pub second_start : List ℕ
second_start = little_endian (paper_tape ++ (0xd0000000 ∷ []))

-- it is the tape's eleventh record, behind 40 words
abbrev pub second_start_error : List ℕ
second_start_error =
    text "record 11, at word 40: refused 6: kinds 1, 2, 3 after start, 5 to C before it, a second start" ++ newline

pub record SecondStart : Type 0 where
  pub error : error_text second_start ≡ second_start_error
  pub rounds : error_of running_at_start (GotBytes second_start ∷ GotBytes [] ∷ []) ≡ second_start_error

-- ---- a tape of one byte: no word, and so no record, is there

unfoldable pub OneByteTold : Type 0
OneByteTold = error_text (0 ∷ []) ≡ text "record 1, at word 0: refused 1: no word, or a body cut short" ++ newline
