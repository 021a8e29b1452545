-- How long the line on standard error is. Assumes nothing.
use Rattle.std.proofs.Common.{◌≤◌, length, arith}
use Rattle.std.specs.Prelude.{Option, None, Some}
use Rattle.world.specs.declared.refusal.Refusal.{Refusal}
use Rattle.study_text.specs.declared.Place.{Place}
use Rattle.study_pieces.proofs.Sizes.{place_length}
use Rattle.study_step.specs.Step.{told_of}

pub told_length : (p : Place) (r : Option Refusal) → length (told_of p r) ≤ 210
told_length p None = omega arith
told_length p (Some r) = place_length p r
