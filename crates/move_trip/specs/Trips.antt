-- Which way a car goes in a tick, and how far: systems/movement.rs, run.
use Rattle.std.specs.Prelude.{Bool, true, false, cond, Float}
use Rattle.std.specs.Float.{binary64}
use Rattle.std.specs.Float.Ieee.{add, sub, lt}
use Rattle.float.specs.Float as Float
use Rattle.float.specs.Float.{abs}
use Rattle.motion.specs.Cyclic.{forward_distance}
use Rattle.world.specs.declared.Car.{Car}
use Rattle.world.specs.declared.ServiceMode.{ServiceMode}
use Rattle.world.specs.declared.LineKind.{LineKind}
use Rattle.world.specs.declared.LineKind.TheVariants.{Linear, Loop}
use Rattle.world.specs.declared.ElevatorPhase.{ElevatorPhase}
use Rattle.world.specs.declared.ElevatorPhase.TheVariants.{Idle, MovingToStop, Repositioning, DoorOpening, Loading, DoorClosing, Stopped}
use Rattle.turn.specs.Steps.{is_manual}
use Rattle.move_trip.specs.declared.Trip.{Trip}
use Rattle.move_trip.specs.declared.Trip.TheVariants.{Rests, Drives, GoesTo, Repositions}

-- ---- which way a car goes: run's first tests

-- "others move only in MovingToStop or Repositioning"
abbrev pub trip_by : ElevatorPhase → Trip
trip_by Idle = Rests
trip_by (MovingToStop s) = GoesTo s
trip_by (Repositioning s) = Repositions s
trip_by DoorOpening = Rests
trip_by Loading = Rests
trip_by DoorClosing = Rests
trip_by Stopped = Rests

-- "Manual ones go `tick_manual`"
abbrev pub trip_in : ServiceMode → ElevatorPhase → Trip
trip_in mode phase = cond (is_manual mode) Drives (trip_by phase)

-- "Disabled cars are skipped"
abbrev pub trip_of : Car → Trip
trip_of c = cond c.enabled (trip_in c.service_mode c.phase) Rests

abbrev pub has_trip : Trip → Bool
has_trip Rests = false
has_trip Drives = true
has_trip (GoesTo s) = true
has_trip (Repositions s) = true

abbrev pub is_loop : LineKind → Bool
is_loop Linear = false
is_loop (Loop circumference headway) = true

-- run, `dist`: "the reposition distance, a float summed beside the counters"
abbrev pub travelled : LineKind → Float → Float → Float
travelled Linear old new = abs (sub binary64 new old)
travelled (Loop circumference headway) old new = forward_distance old new circumference

abbrev pub distance_after : Float → Float → Float
distance_after distance travelled = cond (lt Float.zero travelled) (add binary64 distance travelled) distance
