-- A step of the study's program: all that it does between a read and a write.
use Rattle.std.specs.Prelude.{◌≡◌, Bool, true, false, not, ◌&&◌, ◌||◌, List, [], ◌++◌, ℕ, ◌≤◌, ltb, eqb, cond, length, take, drop, Option, None, Some, Result, Ok, Err}
use Rattle.log_writes.specs.Log.{Wrote}
use Rattle.study_numbers.specs.NumberText.{text, newline}
use Rattle.world.specs.declared.refusal.Refusal.{Refusal}
use Rattle.study_text.specs.Text.{place_line}
use Rattle.study_text.specs.declared.Place.{Place}
use Rattle.study_pieces.specs.Pieces.{study_state, study_of, fresh}
use Rattle.study_pieces.specs.Parts.{advanced}
use Rattle.study_pieces.specs.declared.Study.{Study}
use Rattle.study_step.specs.declared.End.{End}
use Rattle.study_step.specs.declared.End.TheVariants.{GoesOn, Answered, CannotRead}
use Rattle.study_step.specs.declared.Got.{Got}
use Rattle.study_step.specs.declared.Got.TheVariants.{Bytes, Failure, Nothing}
use Rattle.study_step.specs.declared.Output.{Output}
use Rattle.study_step.specs.declared.ProgramRun.{ProgramRun}

-- ---- what a read gave

pub data Reading : Type 0 where
  -- these bytes; none at the input's end
  GotBytes : List ℕ → Reading
  Failed : Reading
  -- nothing was to be read in this round
  Unasked : Reading

-- ---- the program between two rounds

pub record ProgramState : Type 0 where
  pub study : Study
  -- as the last record's call left it
  pub log : List ℕ
  -- the bytes read that no record has used yet
  pub kept : List ℕ
  pub ended : Bool

-- more input is wanted where the kept bytes may end within a record, which has 69 words at most
abbrev pub is_read_wanted : Bool → ℕ → Bool
is_read_wanted ended kept = not ended && ltb kept 276

-- a round leaves this, and writes these texts to standard output and standard error
pub record RoundResult : Type 0 where
  pub next : ProgramState
  pub output : List ℕ
  pub error : List ℕ
  pub end : End

-- on standard error stands which record was refused, where one was
abbrev pub told_of : Place → Option Refusal → List ℕ
told_of place None = []
told_of place (Some refusal) = place_line place refusal

-- the program ends where the report or a refusal is printed
abbrev pub end_by : Bool → End
end_by over = cond over Answered GoesOn

-- what can be done with these bytes is done (`InPieces` of `study_whole` says what it all comes to): "It keeps one
-- world and lends it to each record's call"
abbrev pub played : Study → List ℕ → List ℕ → Bool → RoundResult
played s log bytes ended =
    let p = advanced ended (study_state s log bytes) in
    record {
      next = record { study = study_of p; log = p.log; kept = p.bytes; ended = ended };
      output = p.text;
      error = told_of p.place p.refusal;
      end = end_by p.over;
    }

abbrev pub cannot_read : List ℕ
cannot_read = text "study: cannot read standard input" ++ newline

-- a read that fails is not the input's end: nothing follows it but this line, no report
abbrev pub failed : ProgramState → RoundResult
failed r = record {
  next = record {
    study = record { world = r.study.world; counts = r.study.counts; place = r.study.place; over = true };
    log = r.log;
    kept = r.kept;
    ended = r.ended;
  };
  output = [];
  error = cannot_read;
  end = CannotRead;
}

-- a round: the bytes that were read come behind those that were kept. A read of no byte is the input's end.
unfoldable pub stepped : ProgramState → Reading → RoundResult
stepped r (GotBytes bytes) = played r.study r.log (r.kept ++ bytes) (r.ended || eqb (length bytes) 0)
stepped r Unasked = played r.study r.log r.kept r.ended
stepped r Failed = failed r

-- ---- in the code: the first `held` bytes of the piece are kept, and those that were read stand behind them, as many
-- as there is room for

abbrev pub program_state : ProgramRun → List ℕ → List ℕ → ProgramState
program_state r log piece = record { study = r.study; log = log; kept = take r.held piece; ended = r.ended }

abbrev pub got_of : {E : Type 0} → Result ℕ E → Got
got_of (Ok n) = Bytes n
got_of (Err e) = Failure

abbrev pub reading : Got → ℕ → List ℕ → Reading
reading (Bytes n) held piece = GotBytes (take n (drop held piece))
reading Failure held piece = Failed
reading Nothing held piece = Unasked

-- nothing is read yet
abbrev pub begun : ProgramRun
begun = record { study = fresh; held = 0; ended = false }

-- what the code gives
pub record Steps (run' : ProgramRun) (o : Output) (piece out piece' lent' out' : List ℕ) (s : RoundResult)
    : Type 0 where
  -- the next round begins with what this one leaves
  pub next : program_state run' lent' piece' ≡ s.next
  pub held : run'.held ≡ length s.next.kept
  -- the kept bytes at the piece's start, and what stands behind them stays
  pub kept : Wrote piece 0 s.next.kept piece' run'.held
  -- the texts at the buffer's start, one behind the other, and where the first ends
  pub texts : Wrote out 0 (s.output ++ s.error) out' o.told
  pub printed : o.printed ≡ length s.output
  -- nothing of them is lost
  pub fits : length (s.output ++ s.error) ≤ length out
  pub end : o.end ≡ s.end
