-- The doors: systems/doors.rs, run.
use Rattle.std.specs.Prelude.{Bool, cond, List, ◌++◌, ℕ, min}
use Rattle.world.specs.World.{car_at}
use Rattle.world.specs.declared.World.{World}
use Rattle.world.specs.declared.Car.{Car}
use Rattle.world.specs.declared.Line.{Line}
use Rattle.world.specs.Tables.{Stops}
use Rattle.std.specs.declared.option.Option.{Option}
use Rattle.stops_next.specs.NextStop.{loop_next_stop_for_car}
use Rattle.turn.specs.Steps.{line_of, Turn, CarsRun, turn_of, run_cars}
use Rattle.doors_commands.specs.Commands.{has_rider_traversing, is_parked, process_door_commands, command_words}
use Rattle.doors_tick.specs.Ticks.{DoorTurn, quiet_turn, door_by, after_words}
use Rattle.doors_calls.specs.Clearing.{clear_to, clear_words_to}

-- run, for one car: "queued commands, loop's next stop, then the door's tick"
abbrev pub turn_by : ℕ → Car → List ℕ → Option ℕ → DoorTurn
turn_by i c words next = after_words words (door_by i c next)

-- "disabled skipped"
abbrev pub door_turn : ℕ → Car → Bool → Bool → Option ℕ → DoorTurn
door_turn i c at_stop traversing next =
    cond
    c.enabled
    (turn_by i (process_door_commands c at_stop traversing) (command_words c at_stop traversing i) next)
    (quiet_turn c)

-- the turn of a car on a line, among these stops
abbrev pub turn_among : Stops → ℕ → Car → Line → Bool → DoorTurn
turn_among stops i c line traversing =
    door_turn i c (is_parked line stops c) traversing (loop_next_stop_for_car line stops.items c.motion.position)

-- and on its line in the world
abbrev pub turn_on : World → ℕ → Car → Line → DoorTurn
turn_on w i c line = turn_among w.stops i c line (has_rider_traversing w.riders i)

abbrev pub in_world : World → DoorTurn → Turn
in_world w t = turn_of w t.car t.words t.opened

unfoldable pub turn_of_door : World → ℕ → Turn
turn_of_door w i = in_world w (turn_on w i (car_at w.cars.items i) (line_of w.lines.items (car_at w.cars.items i).line))

-- ---- doors.rs, run

unfoldable pub doors_run : World → CarsRun
doors_run w = run_cars turn_of_door w

abbrev pub car_count : World → ℕ
car_count w = min w.cars.count 16

unfoldable pub doors_world : World → World
doors_world w = record ((doors_run w).world) { calls = clear_to (doors_run w).opened w.calls (car_count w) }

unfoldable pub doors_words : World → List ℕ
doors_words w = (doors_run w).words ++ clear_words_to (doors_run w).opened w.calls (car_count w)
