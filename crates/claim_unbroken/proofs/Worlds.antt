-- A tick keeps what refusal 0 asks of a world: the tables turn by turn, the counters since a tick has at most 64 moves
-- a car. Assumes nothing.
use mathlib.Core.Path.{◌≡◌, refl}
use mathlib.Core.Bool.{Bool, false}
use mathlib.Core.List.{List}
use Prim.Native.Nat.{ℕ, zero, suc, ◌*◌, ◌^◌, ◌<◌, ◌≤◌, min}
use native.Mathlib.Omega.{arith}
use lib.ListN.{set}
use lib.Ieee.{Float}
use Rattle.world_sound_rows.specs.Rows.{is_line_broken, is_rider_broken}
use Rattle.world.specs.World.{no_car, line_at, car_at, rider_at}
use Rattle.world.specs.declared.World.{World}
use Rattle.world.specs.declared.Car.{Car}
use Rattle.world.specs.declared.Line.{Line}
use Rattle.world.specs.declared.Rider.{Rider}
use Rattle.std.specs.declared.option.Option.{Option}
use Rattle.std.specs.declared.option.Option.TheVariants.{None, Some}
use Rattle.stops_next.specs.NextStop.{loop_next_stop_for_car}
use Rattle.turn.specs.Steps.{line_of, Turn, with_turn, run_to, run_cars}
use Rattle.turn.proofs.Cars.{by_turns}
use Rattle.turn.specs.declared.JustOpened.{JustOpened}
use Rattle.move_turn.specs.Movement.{turn_of_move, movement_run}
use Rattle.doors_commands.specs.Commands.{at_stop, has_rider_traversing}
use Rattle.doors_turn.specs.Doors.{turn_of_door, doors_run, car_count, doors_world}
use Rattle.world.specs.declared.HallCalls.{HallCalls}
use Rattle.doors_calls.specs.Clearing.{is_matching, clear_one, clear_matching, clear_to, opened_of}
use Rattle.tick.specs.Tick.{tick_world}
use Rattle.tick.specs.Counters.{CountersGrow, NothingWraps}
use Rattle.laws.proofs.Choices.{both}
use Rattle.tick.proofs.Proved.{nothing_wraps}
use Rattle.claim_unbroken.proofs.Numbers.{table_set, clear_most}
use Rattle.claim_unbroken.proofs.Turns.{CarIn, move_in, door_in, next_in, line_in}

-- ---- what refusal 0 asks, but for the counters

pub record PlanIn (stops lines : ℕ) (table : List Line) : Type 0 where
  pub low : stops ≤ 64
  pub few : lines ≤ 8
  pub each : (i : ℕ) → i < lines → is_line_broken stops (line_at table i) ≡ false

pub record CarsIn (lines stops cars : ℕ) (table : List Car) : Type 0 where
  pub few : cars ≤ 16
  pub each : (i : ℕ) → i < cars → CarIn lines stops (car_at table i)

pub record RidersIn (stops cars riders : ℕ) (table : List Rider) : Type 0 where
  pub few : riders ≤ 128
  pub each : (i : ℕ) → i < riders → is_rider_broken stops cars (rider_at table i) ≡ false

pub record CallsIn (stops ups downs : ℕ) : Type 0 where
  pub up : ups < 2 ^ stops
  pub down : downs < 2 ^ stops

pub record Parts (stopCount lineCount carCount riderCount ups downs : ℕ) (rows : List Line) (fleet : List Car)
    (people : List Rider) : Type 0 where
  pub plan : PlanIn stopCount lineCount rows
  pub cars : CarsIn lineCount stopCount carCount fleet
  pub riders : RidersIn stopCount carCount riderCount people
  pub calls : CallsIn stopCount ups downs

abbrev pub Shape : World → Type 0
Shape w =
    Parts w.stops.count w.lines.count w.cars.count w.riders.count w.calls.up w.calls.down w.lines.items w.cars.items w.riders.items

-- a tick has at most 64 moves a car, and there are 2 to the 28 of them
pub record Counters (ticks total cars : ℕ) (table : List Car) : Type 0 where
  pub time : ticks ≤ 2 ^ 28
  pub sum : total ≤ ticks * 1024
  pub each : (i : ℕ) → i < cars → (car_at table i).move_count ≤ ticks * 64

pub record Sound (w : World) : Type 0 where
  pub shape : Shape w
  pub counters : Counters w.ticks w.total_moves w.cars.count w.cars.items

-- ---- a car is set: car i of n, m then

-- what is read past the table's end is a car of line 0
no_car_in : (lines stops : ℕ) → 0 < lines → CarIn lines stops no_car
no_car_in lines stops l =
    record { commands = omega arith; line = l; phase = refl; target = refl; queue = record { few = omega arith; loaded = λ k m. absurd (omega arith) } }

module _ (c : Car) (table : List Car) (i n m : ℕ) (fits : (j : ℕ) → j < m → (j ≡ i → ⊥) → j < n) where
  pub cars_set : (lines stops : ℕ) → m ≤ 16 → CarIn lines stops c → CarsIn lines stops n table
      → CarsIn lines stops m (set table i c)
  cars_set lines stops few new h = record {
    few = few;
    each = table_set (CarIn lines stops) no_car c (no_car_in lines stops (omega (arith, new.line))) new table i n m h.each fits;
  }

  pub counters_set : (ticks total : ℕ) → c.move_count ≤ ticks * 64 → Counters ticks total n table
      → Counters ticks total m (set table i c)
  counters_set ticks total new h = record {
    time = h.time;
    sum = h.sum;
    each = table_set (λ (x : Car). x.move_count ≤ ticks * 64) no_car c (omega arith) new table i n m h.each fits;
  }

-- ---- a car's turn, and the cars' one after another

step_shape : (w : World) (i : ℕ) (s : Turn) → Shape w → CarIn w.lines.count w.stops.count s.car → Shape (with_turn w i s)
step_shape w i s h new = record {
  plan = h.plan;
  cars = cars_set s.car w.cars.items i w.cars.count w.cars.count (λ j m e. m) w.lines.count w.stops.count h.cars.few new h.cars;
  riders = h.riders;
  calls = h.calls;
}

-- w after some turns
pub record Ran (w v : World) : Type 0 where
  pub shape : Shape v
  pub stops : v.stops.count ≡ w.stops.count
  pub cars : v.cars.count ≡ w.cars.count

module _
    (turn : World → ℕ → Turn)
    (keeps : (w : World) (i : ℕ) → Shape w → i < w.cars.count → CarIn w.lines.count w.stops.count (turn w i).car)
    (w : World)
    (h : Shape w)
  where
    run_all : Ran w (run_cars turn w).world
    unfolding run_to run_cars
    run_all =
        by_turns turn w (λ k r. Ran w r.world) w.cars.count (record { shape = h; stops = refl; cars = refl })
        (λ k l p.
        let v : World = (run_to turn w k).world in
        record { shape = step_shape v k (turn v k) p.shape (keeps v k p.shape (omega (arith, p.cars))); stops = p.stops; cars = p.cars })
        (min w.cars.count 16) (omega arith)

-- ---- the two systems

move_keeps : (dt : Float) (w : World) (i : ℕ) → Shape w → i < w.cars.count → CarIn w.lines.count w.stops.count (turn_of_move dt w i).car
move_keeps dt w i h l = move_in w.lines.count w.stops.count dt w i (h.cars.each i l)

door_keeps : (w : World) (i : ℕ) → Shape w → i < w.cars.count → CarIn w.lines.count w.stops.count (turn_of_door w i).car
unfolding turn_of_door
door_keeps w i h l =
    let c : Car = car_at w.cars.items i in
    let line : Line = line_of w.lines.items c.line in
    door_in w.lines.count w.stops.count i c (h.cars.each i l) (at_stop line w.stops c.motion.position)
    (has_rider_traversing w.riders i) (loop_next_stop_for_car line w.stops.items c.motion.position)
    (next_in w.stops.count line (line_in w.stops.count w.lines.items c.line (h.plan.each c.line (h.cars.each i l).line)) w.stops.items c.motion.position)

moved_ran : (w : World) (dt : Float) → Shape w → Ran w (movement_run w dt).world
unfolding movement_run
moved_ran w dt h = run_all (turn_of_move dt) (move_keeps dt) w h

doored_ran : (w : World) → Shape w → Ran w (doors_run w).world
unfolding doors_run
doored_ran w h = run_all turn_of_door door_keeps w h

-- ---- hall calls are cleared only

clear_one_lem : (calls s : ℕ) (lit : Bool) → clear_one calls s lit ≤ calls
unfolding clear_one
clear_one_lem calls s lit = both (λ (x : ℕ). x ≤ calls) (is_matching calls s lit) (clear_most calls s) (omega arith)

-- no more calls than in h
record Fewer (h k : HallCalls) : Type 0 where
  up : k.up ≤ h.up
  down : k.down ≤ h.down

clear_matching_lem : (o : Option JustOpened) (h k : HallCalls) → Fewer h k → Fewer h (clear_matching o k)
clear_matching_lem None h k p = p
clear_matching_lem (Some o) h k p = record {
  up = omega (arith, clear_one_lem k.up o.stop o.lamps.going_up, p.up);
  down = omega (arith, clear_one_lem k.down o.stop o.lamps.going_down, p.down);
}

clear_to_lem : (opened : List (Option JustOpened)) (h : HallCalls) (n : ℕ) → Fewer h (clear_to opened h n)
unfolding clear_to
clear_to_lem opened h zero = record { up = omega arith; down = omega arith }
clear_to_lem opened h (suc n) = clear_matching_lem (opened_of opened h n) h (clear_to opened h n) (clear_to_lem opened h n)

doors_ran : (w : World) → Shape w → Ran w (doors_world w)
unfolding doors_world
doors_ran w h =
    let p : Ran w (doors_run w).world = doored_ran w h in
    let f : Fewer w.calls (clear_to (doors_run w).opened w.calls (car_count w)) = clear_to_lem (doors_run w).opened w.calls (car_count w) in
    record {
      shape =
          record {
            plan = p.shape.plan;
            cars = p.shape.cars;
            riders = p.shape.riders;
            calls = rw p.stops (record { up = omega (arith, f.up, h.calls.up); down = omega (arith, f.down, h.calls.down) });
          };
      stops = p.stops;
      cars = p.cars;
    }

-- ---- the tick

tick_ran : (w : World) (dt : Float) → Shape w → Ran w (tick_world w dt)
unfolding tick_world
tick_ran w dt h =
    let m : Ran w (movement_run w dt).world = moved_ran w dt h in
    let d : Ran (movement_run w dt).world (doors_world (movement_run w dt).world) = doors_ran (movement_run w dt).world m.shape in
    record { shape = d.shape; stops = omega (arith, d.stops, m.stops); cars = omega (arith, d.cars, m.cars) }

pub tick_sound : (w : World) (dt : Float) → w.ticks < 2 ^ 28 → Sound w → Sound (tick_world w dt)
unfolding NothingWraps
tick_sound w dt more h = record {
  shape = r.shape;
  counters =
      record {
        time = omega (arith, c.ticks);
        sum = omega (arith, c.ticks, c.total, c.most, s.sum);
        each = λ i l. let m : i < car_count w = omega (arith, l, r.cars, h.shape.cars.few) in omega (arith, c.ticks, c.cars i m, c.few i, s.each i (omega arith));
      };
}
  where
    r : Ran w (tick_world w dt)
    r = tick_ran w dt h.shape

    s : Counters w.ticks w.total_moves w.cars.count w.cars.items
    s = h.counters

    c : CountersGrow w dt
    c = nothing_wraps.1 w dt (record {
      cars = λ i l. omega (arith, s.each i (omega arith), s.time);
      total = omega (arith, s.sum, s.time);
      ticks = omega (arith, s.time);
    })
