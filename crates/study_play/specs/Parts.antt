-- Parts of the code, cited within the library alone, which no claim asks a reader to believe: what is put of an
-- answer.
use Rattle.std.specs.Prelude.{◌≡◌, List, ℕ, Result, Ok, Err}
use Rattle.world.specs.declared.refusal.Refusal.{Refusal}
use Rattle.log_writes.specs.Parts.{Written as Prints}
use Rattle.log_writes.specs.declared.Writer.{Writer}
use Rattle.record.specs.Record.{Answer}
use Rattle.report.specs.declared.Counts.{Counts}
use Rattle.study_text.specs.declared.Place.{Place}
use Rattle.study_play.specs.Play.{answer_text, counts_after, place_after}

-- the words that an accepted record used, or the refusal
abbrev pub uses : Answer → Result ℕ Refusal
uses (Ok a) = Ok a.used
uses (Err r) = Err r

-- what the code puts of an answer and the log after it: the text is put into `out`, and `out'` is the writer then
pub record PutsAnswer (a : Answer) (log : List ℕ) (c : Counts) (p : Place) (out : Writer ℕ) (words : Result ℕ Refusal)
    (c' : Counts) (p' : Place) (out' : Writer ℕ) : Type 0 where
  pub counts : c' ≡ counts_after a log c
  pub place : p' ≡ place_after a p
  pub used : words ≡ uses a
  pub text : Prints out (answer_text a log) out'
