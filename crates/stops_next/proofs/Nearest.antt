-- The search of the next stop, a stop at a time. Assumes nothing.
use mathlib.Core.Path.{◌≡◌, refl}
use mathlib.Core.List.{List}
use Prim.Native.Nat.{ℕ, ◌+◌}
use native.Mathlib.Numerals.{add-one}
use lib.ListN.{get_or}
use lib.Ieee.{Float}
use Rattle.std.proofs.lemmas.List.{get_or-take}
use Rattle.std.specs.declared.option.Option.TheVariants.{None}
use Rattle.world.specs.World.{stop_position}
use Rattle.stops_next.specs.NextStop.{ahead_of, nearer_stop, nearest_to}

module _ (stops : List Float) (circumference : Float) (serves : List ℕ) (position : Float) where
  pub begun : nearest_to stops circumference serves position 0 ≡ None
  unfolding nearest_to
  begun = refl

  pub gone_on : (i : ℕ) → nearest_to stops circumference serves position (i + 1)
      ≡ nearer_stop
      (nearest_to stops circumference serves position i)
      (ahead_of circumference position (stop_position stops (get_or serves i 0)))
      (get_or serves i 0)
  unfolding nearest_to
  gone_on i = rw add-one

-- one turn of the search
pub ruleset next_stop_turn = (begun, gone_on, get_or-take)
