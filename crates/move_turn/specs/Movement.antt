-- The cars move: systems/movement.rs, run and tick_manual.
use Rattle.std.specs.Prelude.{cond, List, [], ℕ, min, length, Float}
use Rattle.world.specs.World.{car_at}
use Rattle.world.specs.declared.World.{World}
use Rattle.world.specs.declared.LineKind.{LineKind}
use Rattle.world.specs.declared.Motion.{Motion}
use Rattle.world.specs.declared.Lamps.{Lamps}
use Rattle.stops_sort.specs.Sorted.{sorted_stops}
use Rattle.laws.specs.Numbers.{plus}
use Rattle.turn.specs.Steps.{line_of, with_motion_and_moves, Turn, turn_of, not_opened, CarsRun, run_cars}
use Rattle.move_trip.specs.Trips.{trip_of, has_trip}
use Rattle.move_trip.specs.Spans.{moving_up}
use Rattle.move_trip.specs.declared.Trip.{Trip}
use Rattle.move_landing.specs.Landing.{leader_position, landing}
use Rattle.move_landing.specs.declared.Landed.{Landed}
use Rattle.move_arrival.specs.Arrival.{is_direction_asked, lamps_on_arrival}
use Rattle.move_by_trip.specs.Moves.{has_arrived, target_of, swept, arrival_words, arrive, distance_by}
use Rattle.move_turn.specs.Passing.{passed, passing_words}

-- ---- the turn of car i of world w: by its trip (run's first tests), its line's kind and the motion m of its landing

-- the stops passed on the way from its old place, of the sort of the first n
abbrev pub passed_by : Trip → LineKind → List Float → ℕ → Motion → Motion → List ℕ
passed_by trip kind stops n old new = passed (swept trip kind old new) stops (sorted_stops stops n) (target_of trip)

-- run, `if !result.arrived`, and tick_manual: the stops passed are the moves
abbrev pub passing_turn : World → ℕ → Trip → LineKind → Motion → Turn
passing_turn w i trip kind m =
    let c = car_at w.cars.items i in
    let ss = passed_by trip kind w.stops.items (min w.stops.count 64) c.motion m in
    record {
      car = with_motion_and_moves c m (length ss);
      words = passing_words i (moving_up kind c.motion.position m.position) ss;
      total = plus w.total_moves (length ss);
      distance = distance_by trip kind w.reposition_distance c.motion m;
      opened = not_opened;
    }

-- run, `if result.arrived`: "Arrival is a floor crossing too", one move
abbrev pub arrival_turn : World → ℕ → Trip → LineKind → Motion → Lamps → Turn
arrival_turn w i trip kind m lamps =
    let c = car_at w.cars.items i in
    record {
      car = arrive trip (with_motion_and_moves c m 1) lamps w.ticks;
      words = arrival_words trip i c.lamps lamps;
      total = plus w.total_moves 1;
      distance = distance_by trip kind w.reposition_distance c.motion m;
      opened = not_opened;
    }

-- by run's first tests: a car without a trip is left as it is
abbrev pub turn_of_move_by : World → ℕ → Trip → LineKind → Landed → Lamps → Turn
turn_of_move_by w i trip kind r lamps =
    cond
    (has_trip trip)
    (cond
    (has_arrived trip r.arrived)
    (arrival_turn w i trip kind r.motion lamps)
    (passing_turn w i trip kind r.motion))
    (turn_of w (car_at w.cars.items i) [] not_opened)

-- ---- run

-- for one car: its first tests, its landing, and its lamps should it arrive
unfoldable pub turn_of_move : Float → World → ℕ → Turn
turn_of_move dt w i =
    let c = car_at w.cars.items i in
    let trip = trip_of c in
    let kind = (line_of w.lines.items c.line).kind in
    let r = landing trip kind (leader_position kind w.cars i c) c w.stops.items dt in
    let lamps =
    cond (is_direction_asked trip kind r.arrived) (lamps_on_arrival trip w.riders c w.stops.items i) c.lamps in
    turn_of_move_by w i trip kind r lamps

unfoldable pub movement_run : World → Float → CarsRun
movement_run w dt = run_cars (turn_of_move dt) w
