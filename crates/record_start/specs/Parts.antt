-- Parts of the code, cited within the library alone, on which the promise of `record` does not rest: what the six
-- orders to a car have in common.
use Rattle.std.specs.Prelude.{Result, Ok, Err, not, [], ◌∷◌, ℕ}
use Rattle.world.specs.Refusal.{check, unless}
use Rattle.world.specs.declared.World.{World}
use Rattle.world.specs.declared.refusal.Refusal.TheVariants.{NotNow, NotLoaded}
use Rattle.world.specs.declared.refusal.Refusal.{Refusal}
use Rattle.record_start.specs.Changes.{has_no_car}

-- the first checks of an order, and the car's place
unfoldable pub ordered_car : World → ℕ → Result ℕ Refusal
ordered_car w car = unless (check NotNow (not w.started) ∷ check NotLoaded (has_no_car w car) ∷ []) Err (Ok car)
