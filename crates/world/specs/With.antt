-- A world or a car with some of its fields changed.
use Rattle.std.specs.Prelude.{ℕ, Float}
use Rattle.world.specs.declared.World.{World}
use Rattle.world.specs.Tables.{with_item}
use Rattle.world.specs.declared.Car.{Car}
use Rattle.world.specs.declared.Motion.{Motion}

-- one of its cars
abbrev pub with_car : World → ℕ → Car → World
with_car w i c = record w { cars = with_item w.cars i c w.cars.count }

-- a motion record with a position and a velocity: "max speed, acceleration, deceleration, inspection factor" stay
abbrev pub with_position_and_velocity : Motion → Float → Float → Motion
with_position_and_velocity m position velocity = record m { position = position; velocity = velocity }

-- a car with a motion record and a count of moves
abbrev pub with_motion_and_count : Car → Motion → ℕ → Car
with_motion_and_count c motion count = record c { motion = motion; move_count = count }
