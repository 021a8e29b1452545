-- The study by pieces of its input: what it is on its way, and before its first piece.
use Rattle.std.specs.Prelude.{Bool, false, List, [], ℕ, Option, None}
use Rattle.world.specs.World.{empty_world}
use Rattle.world.specs.declared.World.{World}
use Rattle.world.specs.declared.refusal.Refusal.{Refusal}
use Rattle.report.specs.Report.{no_counts}
use Rattle.report.specs.declared.Counts.{Counts}
use Rattle.study_text.specs.declared.Place.{Place}
use Rattle.study_pieces.specs.declared.Study.{Study}

-- ---- a study on its way

pub record StudyState : Type 0 where
  pub world : World
  pub counts : Counts
  -- the accepted records, and the words that they used
  pub place : Place
  pub log : List ℕ
  -- the input at hand that no record has used yet
  pub bytes : List ℕ
  -- what is printed and not yet written out
  pub text : List ℕ
  -- the report or a refusal is printed, or the input could not be read
  pub over : Bool
  -- the refusal that is printed, if one is
  pub refusal : Option Refusal

-- ---- a study with these bytes at hand, of which nothing is printed yet

abbrev pub study_state : Study → List ℕ → List ℕ → StudyState
study_state s log bytes = record {
  world = s.world;
  counts = s.counts;
  place = s.place;
  log = log;
  bytes = bytes;
  text = [];
  over = s.over;
  refusal = None;
}

-- at the tape's start
abbrev pub no_place : Place
no_place = record { records = 0; words = 0 }

-- a study of which nothing is read yet
abbrev pub fresh : Study
fresh = record { world = empty_world; counts = no_counts; place = no_place; over = false }

abbrev pub study_of : StudyState → Study
study_of p = record { world = p.world; counts = p.counts; place = p.place; over = p.over }
