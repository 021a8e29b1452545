-- Parts of the code, cited within the library alone, on which the promise of `record` does not rest: a car's queue
-- worked off, and what is written of it.
use Rattle.std.specs.Prelude.{◌≡◌, Bool, ℕ}
use Rattle.world.specs.declared.Car.{Car}
use Rattle.log_writes.specs.Parts.{Written, Log}
use Rattle.doors_commands.specs.Commands.{process_door_commands, command_words}

module _ (c : Car) (at_stop traversing : Bool) where
  -- the queue worked off by code: the car that it leaves, and the words that it wrote
  pub record Processed (i : ℕ) (l : Log) (l' : Log) (r : Car) : Type 0 where
    pub car : r ≡ process_door_commands c at_stop traversing
    pub written : Written l (command_words c at_stop traversing i) l'
