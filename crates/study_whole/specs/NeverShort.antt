-- The study never meets refusal 12: "The log it lends has 2,048 words", and no tick needs more than 1,249.
use Rattle.std.specs.Prelude.{◌≡◌, List, [], ◌∷◌, ℕ, suc, ◌≤◌, length, Err}
use Rattle.world.specs.World.{empty_world}
use Rattle.world.specs.declared.World.{World}
use Rattle.world.specs.declared.refusal.Refusal.TheVariants.{LogShort}
use Rattle.record.specs.Calls.{RecordCall, outcome, next_world}
use Rattle.study_whole.specs.Study.{calls_made, calls_of}

-- no call is refused 12
unfoldable pub NoneShort : World → List RecordCall → Type 0
NoneShort w [] = Unit {0}
NoneShort w (c ∷ cs) = ((outcome w c).answer ≡ Err LogShort → ⊥) × NoneShort (next_world w c) cs

pub record NeverShort : Type 0 where
  -- of whatever tape, with a log of "cars × (stops + 14) + 1" words for 16 cars and 64 stops
  pub enough :
      (log tape : List ℕ) → 1249 ≤ length log
      → NoneShort empty_world (calls_made (suc (length tape)) empty_world log tape).calls
  -- and so with the study's
  pub study : (tape : List ℕ) → NoneShort empty_world (calls_of tape).calls
