-- Parts of the code, cited within the library alone, on which the promise of `record` does not rest: the door's tick,
-- and what is written of it.
use Rattle.std.specs.Prelude.{◌≡◌}
use Rattle.world.specs.declared.Car.{Car}
use Rattle.std.specs.declared.option.Option.{Option}
use Rattle.log_writes.specs.Parts.{Written, Log}
use Rattle.turn.specs.declared.JustOpened.{JustOpened}
use Rattle.doors_tick.specs.Ticks.{DoorTurn}

-- a turn made by code: the car, the words that it wrote, a door just opened
pub record DoorTurnMade (t : DoorTurn) (l : Log) (l' : Log) (c : Car) (opened : Option JustOpened) : Type 0 where
  pub car : c ≡ t.car
  pub written : Written l t.words l'
  pub opens : opened ≡ t.opened
