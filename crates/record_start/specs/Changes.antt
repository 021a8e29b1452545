-- What the state says of a record: a refusal, or the world after it. Kind D, the start.
use Rattle.std.specs.Prelude.{Result, Ok, Err, Bool, true, not, ◌||◌, List, [], ◌∷◌, ℕ, leb, eqb}
use Rattle.world_sound_rows.specs.Rows.{is_unloaded}
use Rattle.world.specs.Refusal.{Check, check, unless}
use Rattle.world.specs.declared.World.{World}
use Rattle.world.specs.declared.refusal.Refusal.{Refusal}
use Rattle.world.specs.declared.refusal.Refusal.TheVariants.{NotNow}

-- what a record that is no tick gives
abbrev pub Effect : Type 0
Effect = Result World Refusal

-- 7: a number that is not the next unused one of a table of that size; a full table has none
abbrev pub is_not_next : ℕ → ℕ → ℕ → Bool
is_not_next size count number = leb size number || not (eqb number count)

-- 8: a car that is not loaded; past the table's end there is none
abbrev pub has_no_car : World → ℕ → Bool
has_no_car w car = leb 16 car || is_unloaded w.cars.count car

-- D start
abbrev pub start_checks : World → List Check
start_checks w = check NotNow w.started ∷ []

abbrev pub with_started : World → World
with_started w = record w { started = true }

unfoldable pub start : World → Effect
start w = unless (start_checks w) Err (Ok (with_started w))
