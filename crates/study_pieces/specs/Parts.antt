-- Parts of the code, cited within the library alone, which no claim asks a reader to believe: what is done with the
-- bytes at hand. What a whole tape prints is `study_text` of `study_whole`, where no piece and no buffer is; that the
-- two come to one text is `InPieces` there.
use Rattle.std.specs.Prelude.{◌≡◌, Bool, true, cond, List, [], ℕ, ◌*◌, ◌/◌, ◌≤◌, length, drop, Option, not, ◌&&◌, ◌||◌, ◌++◌, zero, suc, ◌+◌, leb, ltb, eqb}
use Rattle.log_writes.specs.Parts.{Written as Prints}
use Rattle.log_writes.specs.declared.Writer.{Writer}
use Rattle.study_text.specs.Text.{words_of}
use Rattle.world.specs.declared.refusal.Refusal.{Refusal}
use Rattle.study_play.specs.Play.{ending, ending_refusal, answer_text, counts_after, place_after}
use Rattle.study_pieces.specs.declared.Played.{Played}
use Rattle.study_pieces.specs.declared.Study.{Study}
use Rattle.study_pieces.specs.Pieces.{StudyState, study_of}
use Rattle.std.specs.Result.{result_err}
use Rattle.log_writes.specs.Log.{Wrote}
use Rattle.record.specs.Record.{Outcome, record_of, is_accepted, used_of}
use Rattle.study_pieces.specs.declared.Advanced.{Advanced}

-- after a record that gave this
abbrev pub after_record : StudyState → Outcome → StudyState
after_record p o = record {
  world = o.world;
  counts = counts_after o.answer o.log p.counts;
  place = place_after o.answer p.place;
  log = o.log;
  bytes = drop (4 * used_of o.answer) p.bytes;
  text = p.text ++ answer_text o.answer o.log;
  over = not (is_accepted o.answer);
  refusal = result_err o.answer;
}

-- the record that the bytes at hand begin with
unfoldable pub next_record : StudyState → StudyState
next_record p = after_record p (record_of p.world (words_of p.bytes) p.log)

-- a record can be taken: any is whole with 69 words, a line's with 64 stops; or the input has ended, and what there
-- is must do
abbrev pub is_ready : Bool → ℕ → Bool
is_ready ended words = leb 69 words || ended && ltb 0 words

-- the buffer of 65,536 bytes has room for one more record's text, 2,048 lines of 9 bytes at most, or for the report's
-- line
abbrev pub has_room : ℕ → Bool
has_room at = ltb at 32768

abbrev pub has_next_record : Bool → Bool → ℕ → ℕ → Bool
has_next_record ended over words at = not over && (is_ready ended words && has_room at)

-- records are played as long as the next one is ready and its text has room. `more` bounds them.
unfoldable pub play_to : ℕ → Bool → StudyState → StudyState
play_to zero ended p = p
play_to (suc more) ended p =
    cond
    (has_next_record ended p.over (length (words_of p.bytes)) (length p.text))
    (play_to more ended (next_record p))
    p

-- "Input that ends between records ends the tape"
abbrev pub is_at_end : Bool → Bool → ℕ → ℕ → Bool
is_at_end ended over words at = ended && (not over && (eqb words 0 && has_room at))

abbrev pub with_ending : StudyState → StudyState
with_ending p = record {
  world = p.world;
  counts = p.counts;
  place = p.place;
  log = p.log;
  bytes = p.bytes;
  text = p.text ++ ending p.world p.counts (length p.bytes);
  over = true;
  refusal = ending_refusal p.world p.counts (length p.bytes);
}

unfoldable pub close : Bool → StudyState → StudyState
close ended p = cond (is_at_end ended p.over (length (words_of p.bytes)) (length p.text)) (with_ending p) p

-- what is done with the bytes at hand
unfoldable pub advanced : Bool → StudyState → StudyState
advanced ended p = close ended (play_to (2 + length p.bytes) ended p)

-- ---- what the functions give

-- what the code gives: the study and the log that it was lent, the bytes that are kept at the piece's start, the text
-- at the buffer's start, and the refusal that stands there
pub record PieceOutcome (study' : Study) (a : Advanced) (piece out piece' lent' out' : List ℕ)
    (p : StudyState) : Type 0 where
  pub study : study' ≡ study_of p
  pub log : lent' ≡ p.log
  pub kept : Wrote piece 0 p.bytes piece' a.held
  pub text : Wrote out 0 p.text out' a.at
  pub refusal : a.refusal ≡ p.refusal
  -- nothing of these is lost, and of the buffer's 65,536 bytes some are free for a line
  pub kept_fits : length p.bytes ≤ length piece
  pub text_fits : length p.text ≤ 51200

-- the buffer of 65,536 bytes, with nothing printed into it yet
pub record IsEmpty (out : Writer ℕ) : Type 0 where
  pub start : out.at ≡ 0
  pub room : length out.items.now ≡ 65536

-- the records of a piece: where they ended, and what they left
pub record Reached (s : Study) (m : Played) (piece : List ℕ) (out : Writer ℕ) (lent' : List ℕ) (out' : Writer ℕ)
    (p : StudyState) : Type 0 where
  pub world : s.world ≡ p.world
  pub counts : s.counts ≡ p.counts
  pub place : s.place ≡ p.place
  pub over : s.over ≡ p.over
  pub refusal : m.refusal ≡ p.refusal
  pub log : lent' ≡ p.log
  pub bytes : drop (4 * m.from) piece ≡ p.bytes
  pub within : m.from ≤ length (words_of piece)
  pub text : Prints out p.text out'
  pub at : out'.at ≡ length p.text
  pub room : length p.text ≤ 51200

-- the end of the tape, with so many bytes left, where the records ended with this refusal or with none
pub record ClosesBy (e : Bool) (s : Study) (left : ℕ) (r : Option Refusal) (out : Writer ℕ) (s' : Study)
    (r' : Option Refusal) (out' : Writer ℕ) : Type 0 where
  pub study : s' ≡ record { world = s.world; counts = s.counts; place = s.place; over = cond e true s.over }
  pub refusal : r' ≡ cond e (ending_refusal s.world s.counts left) r
  pub text : Prints out (cond e (ending s.world s.counts left) []) out'

abbrev pub Closes : Study → Bool → ℕ → Option Refusal → Writer ℕ → Study → Option Refusal → Writer ℕ → Type 0
Closes s ended left r out = ClosesBy (is_at_end ended s.over (left / 4) out.at) s left r out
