-- What the state refuses of a door command, a hall call or a destination, and what each does to the world: kinds 8, 9
-- and A.
use Rattle.std.specs.Prelude.{Ok, Err, Bool, not, ◌||◌, cond, List, [], ◌∷◌, ℕ, ◌+◌, leb}
use Rattle.door.specs.declared.DoorCommand.{DoorCommand}
use Rattle.world.specs.World.{car_at}
use Rattle.world.specs.Tables.{with_item}
use Rattle.world.specs.With.{with_car}
use Rattle.world_sound_rows.specs.Rows.{is_unloaded}
use Rattle.world_call_sets.specs.Calls.{pressed}
use Rattle.world.specs.declared.World.{World}
use Rattle.world.specs.declared.Car.{Car}
use Rattle.world.specs.declared.refusal.Refusal.TheVariants.{NotNow, NotLoaded, QueueFull}
use Rattle.world.specs.Refusal.{Check, check, unless}
use Rattle.record_start.specs.Changes.{Effect, has_no_car}

-- 8 door command, appended to the car's door queue
abbrev pub with_command : Car → DoorCommand → Car
with_command c command =
    record c {
      door_command_queue =
          with_item c.door_command_queue c.door_command_queue.count command (c.door_command_queue.count + 1);
    }

abbrev pub command_checks : World → ℕ → List Check
command_checks w car =
    check NotNow (not w.started)
    ∷ check NotLoaded (has_no_car w car)
    ∷ check QueueFull (leb 8 (car_at w.cars.items car).door_command_queue.count)
    ∷ []

unfoldable pub queue_command : World → ℕ → DoorCommand → Effect
queue_command w car command =
    unless (command_checks w car) Err (Ok (with_car w car (with_command (car_at w.cars.items car) command)))

-- 9 hall call
abbrev pub hall_call_checks : World → ℕ → List Check
hall_call_checks w stop =
    check NotNow (not w.started)
    ∷ check NotLoaded (is_unloaded w.stops.count stop)
    ∷ []

abbrev pub with_hall_call : World → ℕ → Bool → World
with_hall_call w stop down =
    record w {
      calls = record {
        up = cond down w.calls.up (pressed w.calls.up stop);
        down = cond down (pressed w.calls.down stop) w.calls.down;
      };
    }

unfoldable pub press_hall_call : World → ℕ → Bool → Effect
press_hall_call w stop down = unless (hall_call_checks w stop) Err (Ok (with_hall_call w stop down))

-- A destination, appended to the car's destination queue
abbrev pub with_destination : Car → ℕ → Car
with_destination c stop =
    record c {
      destination_queue =
          with_item c.destination_queue c.destination_queue.count stop (c.destination_queue.count + 1);
    }

abbrev pub destination_checks : World → ℕ → ℕ → List Check
destination_checks w car stop =
    check NotNow (not w.started)
    ∷ check NotLoaded (has_no_car w car || is_unloaded w.stops.count stop)
    ∷ check QueueFull (leb 8 (car_at w.cars.items car).destination_queue.count)
    ∷ []

unfoldable pub push_destination : World → ℕ → ℕ → Effect
push_destination w car stop =
    unless (destination_checks w car stop) Err (Ok (with_car w car (with_destination (car_at w.cars.items car) stop)))
