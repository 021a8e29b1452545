-- The world's tables: what is read at a number, and the empty world.
use Rattle.std.specs.Prelude.{true, false, List, [], ℕ, get_or, Float}
use Rattle.std.specs.Float.{nan}
use Rattle.float.specs.Float.{zero}
use Rattle.door.specs.declared.DoorState.TheVariants as Door
use Rattle.door.specs.declared.DoorCommand.TheVariants as Command
use Rattle.world.specs.declared.World.{World}
use Rattle.world.specs.Tables.{of_none}
use Rattle.world.specs.declared.Car.{Car}
use Rattle.world.specs.declared.CarPlan.{CarPlan}
use Rattle.world.specs.declared.Line.{Line}
use Rattle.world.specs.declared.Serves.{Serves}
use Rattle.world.specs.declared.Rider.{Rider}
use Rattle.world.specs.declared.Motion.{Motion}
use Rattle.door.specs.declared.DoorCommand.{DoorCommand}
use Rattle.world.specs.declared.LineKind.TheVariants.{Linear}
use Rattle.world.specs.declared.ElevatorPhase.TheVariants.{Idle}
use Rattle.world.specs.declared.ServiceMode.TheVariants.{Normal}
use Rattle.std.specs.declared.option.Option.TheVariants.{None}
use Rattle.world.specs.declared.RiderPhase.TheVariants.{Waiting}

-- ---- what a read past a table's end gives

abbrev pub no_motion : Motion
no_motion = record {
  position = nan;
  velocity = nan;
  max_speed = nan;
  acceleration = nan;
  deceleration = nan;
  inspection_speed_factor = nan;
}

abbrev pub no_command : DoorCommand
no_command = Command.Open

abbrev pub no_car : Car
no_car = record {
  line = 0;
  phase = Idle;
  door = Door.Closed;
  service_mode = Normal;
  enabled = false;
  motion = no_motion;
  door_transition_ticks = 0;
  door_open_ticks = 0;
  lamps = record { going_up = false; going_down = false };
  going_forward = false;
  repositioning = false;
  target_stop = None;
  manual_target_velocity = None;
  destination_queue = record { items = []; count = 0 };
  door_command_queue = record { items = []; count = 0 };
  move_count = 0;
  cooldown = None;
}

abbrev pub no_line : Line
no_line = record { kind = Linear; serves = record { listed = false; stops = record { items = []; count = 0 } } }

-- no list: what an unloaded line has
abbrev pub serves_none : Serves
serves_none = record { listed = false; stops = of_none 64 0 }

abbrev pub no_rider : Rider
no_rider = record { destination = None; phase = Waiting; aboard = None }

-- ---- the tables

abbrev pub stop_position : List Float → ℕ → Float
stop_position stops s = get_or stops s nan

abbrev pub line_at : List Line → ℕ → Line
line_at lines l = get_or lines l no_line

abbrev pub car_at : List Car → ℕ → Car
car_at cars i = get_or cars i no_car

abbrev pub rider_at : List Rider → ℕ → Rider
rider_at riders r = get_or riders r no_rider

-- ---- a new car, and the empty world

-- a car as it is loaded: "it begins Idle, closed, Normal, enabled, counters 0, up and down lit, forward unlit, no
-- target, manual speed or queued item"
abbrev pub new_car : CarPlan → Car
new_car plan = record {
  line = plan.line;
  phase = Idle;
  door = Door.Closed;
  service_mode = Normal;
  enabled = true;
  motion = plan.motion;
  door_transition_ticks = plan.door_transition_ticks;
  door_open_ticks = plan.door_open_ticks;
  lamps = record { going_up = true; going_down = true };
  going_forward = false;
  repositioning = false;
  target_stop = None;
  manual_target_velocity = None;
  destination_queue = of_none 8 0;
  door_command_queue = of_none 8 no_command;
  move_count = 0;
  cooldown = None;
}

-- what stands in a car's place before it is loaded
abbrev pub unloaded_car : Car
unloaded_car =
    new_car (record {
      line = 0;
      motion = record {
        position = zero;
        velocity = zero;
        max_speed = zero;
        acceleration = zero;
        deceleration = zero;
        inspection_speed_factor = zero;
      };
      door_transition_ticks = 0;
      door_open_ticks = 0;
    })

-- "nothing loaded or queued, no hall call, no start, no tick made and every counter 0"
unfoldable pub empty_world : World
empty_world = record {
  stops = of_none 64 zero;
  lines = of_none 8 (record { kind = Linear; serves = serves_none });
  cars = of_none 16 unloaded_car;
  riders = of_none 128 no_rider;
  calls = record { up = 0; down = 0 };
  started = false;
  ticks = 0;
  total_moves = 0;
  reposition_distance = zero;
}
