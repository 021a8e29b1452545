-- Document 01's traps and its tape, by computing, on small worlds.
use Rattle.std.specs.Prelude.{◌≡◌, true, false, List, [], ◌∷◌, ◌++◌, ℕ, zero, suc, length, drop, replicate, Float}
use Rattle.std.specs.Float.{binary64}
use Rattle.std.specs.Float.Ieee.{of_bits, add, sub, le}
use Rattle.float.specs.Float as Float
use Rattle.float.specs.Float.{one, two, epsilon, signum}
use Rattle.motion.specs.Movement.{tick_movement, arrived_at, moved_to}
use Rattle.motion.specs.declared.movement.MovementResult.{MovementResult}
use Rattle.world.specs.World.{car_at, new_car, empty_world, serves_none}
use Rattle.world.specs.declared.World.{World}
use Rattle.world.specs.declared.Car.{Car}
use Rattle.world.specs.declared.Table.{Table}
use Rattle.world.specs.declared.Line.{Line}
use Rattle.world.specs.declared.Motion.{Motion}
use Rattle.world.specs.declared.LineKind.{LineKind}
use Rattle.world.specs.declared.LineKind.TheVariants.{Linear, Loop}
use Rattle.world.specs.declared.ElevatorPhase.TheVariants.{MovingToStop}
use Rattle.std.specs.declared.option.Option.TheVariants.{None, Some}
use Rattle.stops_sort.specs.Sorted.{sorted_stops}
use Rattle.move_turn.specs.Passing.{start_of, end_of, emit_range}
use Rattle.tick.specs.Tick.{tick_world, tick_words}
use Rattle.tick.specs.Room.{room_of}

-- ---- the numbers

abbrev f64 : ℕ → Float
f64 bits = of_bits binary64 bits

abbrev half : Float
half = f64 0x3fe0_0000_0000_0000

abbrev quarter : Float
quarter = f64 0x3fd0_0000_0000_0000

abbrev negative_zero : Float
negative_zero = f64 0x8000_0000_0000_0000

abbrev minus_one : Float
minus_one = f64 0xbff0_0000_0000_0000

abbrev four : Float
four = f64 0x4010_0000_0000_0000

abbrev five : Float
five = f64 0x4014_0000_0000_0000

abbrev ten : Float
ten = f64 0x4024_0000_0000_0000

-- ---- small worlds, as records load them into an empty one

abbrev loaded : {A : Type 0} → {n : ℕ} → List A → Table A n → Table A n
loaded xs table = record { items = xs ++ drop (length xs) table.items; count = length xs }

abbrev line : LineKind → Line
line kind = record { kind = kind; serves = serves_none }

-- line 0, its stops and its cars
abbrev world : LineKind → List Float → List Car → World
world kind stops cars =
    record empty_world {
      stops = loaded stops empty_world.stops;
      lines = loaded (line kind ∷ []) empty_world.lines;
      cars = loaded cars empty_world.cars;
      started = true;
    }

-- max speed 2, rates 1, factor 1
abbrev motion : Float → Float → Motion
motion position velocity = record {
  position = position;
  velocity = velocity;
  max_speed = two;
  acceleration = one;
  deceleration = one;
  inspection_speed_factor = one;
}

-- as a send leaves a car
abbrev car_sent : Car → ℕ → Car
car_sent c stop = record c { phase = MovingToStop stop; target_stop = Some stop; repositioning = false }

-- both door times 1
abbrev car : Float → Float → ℕ → Car
car position velocity stop =
    car_sent
    (new_car (record { line = 0; motion = motion position velocity; door_transition_ticks = 1; door_open_ticks = 1 }))
    stop

-- the worlds after n ticks of 0.5, and the words of these ticks
unfoldable pub world_after_ticks : ℕ → World → World
world_after_ticks zero w = w
world_after_ticks (suc n) w = world_after_ticks n (tick_world w half)

unfoldable pub words_of_ticks : ℕ → World → List ℕ
words_of_ticks zero w = []
words_of_ticks (suc n) w = tick_words w half ++ words_of_ticks n (tick_world w half)

abbrev position : World → ℕ → Float
position w i = (car_at w.cars.items i).motion.position

-- ---- the worlds of the claims

-- "stops 0 at 0 and 1 at 0.25; line 0 linear without a list; car 0 at 0, velocity 0 ..; start; send to 1"
abbrev tape_world : World
tape_world = world Linear (Float.zero ∷ quarter ∷ []) (car Float.zero Float.zero 1 ∷ [])

-- stops at 0, 1, 2.5 and 10, and a car at 0 that goes 1 in a tick
abbrev on_the_stop : World
on_the_stop = world Linear (Float.zero ∷ one ∷ f64 0x4004_0000_0000_0000 ∷ ten ∷ []) (car Float.zero two 3 ∷ [])

-- a circle of 10 with headway 4: car 0 goes from 4 to 5, car 1 stands at 0.75 with velocity 0.5; both are sent to the
-- stop at 9
abbrev following : World
following =
    world (Loop ten four) (f64 0x4022_0000_0000_0000 ∷ [])
    (car four two 0 ∷ car (f64 0x3fe8_0000_0000_0000) half 0 ∷ [])

-- a circle of 10 with stops at 0, 9.75, 0.25 and 5: the car goes from 9.5 over the seam to 0.5, on to the last
abbrev over_the_seam : World
over_the_seam =
    world (Loop ten one) (Float.zero ∷ f64 0x4023_8000_0000_0000 ∷ quarter ∷ five ∷ [])
    (car (f64 0x4023_0000_0000_0000) two 3 ∷ [])

-- 1.5e-9, and a stop at 0.7e-9
abbrev range_end : Float
range_end = f64 0x3e19_c511_dc3a_41df

abbrev tiny_stops : List Float
tiny_stops = f64 0x3e08_0d43_de9c_c603 ∷ []

-- tick_movement with max 2, rates 1, dt 0.5, from 0 with velocity -1
abbrev backwards : Float → MovementResult
backwards target = tick_movement Float.zero minus_one target two one one half

pub record Traps : Type 0 where
  -- "signum of zero as 0": "+0 gives 1, -0 gives -1", so a car that goes down from its stop is not there but moves
  -- on, unless the stop is at -0
  pub plus_zero : signum Float.zero ≡ one
  pub minus_zero : signum negative_zero ≡ minus_one
  pub goes_on : backwards Float.zero ≡ moved_to (f64 0xbfd0_0000_0000_0000) (f64 0xbfe0_0000_0000_0000)
  pub is_there : backwards negative_zero ≡ arrived_at negative_zero
  -- "counting a stop on which a tick ends exactly (neither tick counts it)": the first tick ends on stop 1, the third
  -- passes stop 2
  pub ends_on_stop : position (world_after_ticks 1 on_the_stop) 0 ≡ one
  pub neither_tick : words_of_ticks 3 on_the_stop ≡ 0 ∷ 1 ∷ 2 ∷ 0x1002_0001 ∷ []
  -- "a leader's old position": car 1 comes to 5 - 4; behind the old 4 it would stay at 0.75. "A car held at the clamp
  -- arrives there"
  pub leads : position (world_after_ticks 1 following) 0 ≡ five
  pub follows : position (world_after_ticks 1 following) 1 ≡ one
  pub held_arrives : words_of_ticks 1 following ≡ 0 ∷ 0x2100_0000 ∷ 0x6100_0000 ∷ []
  -- "stepping the door from the tick after arrival (it steps in the same tick)"
  pub door_steps : words_of_ticks 1 tape_world ≡ 0x0000_0000 ∷ 0x2001_0000 ∷ 0x6000_0000 ∷ []
  -- "For 0 to 1.5e-9 and a stop at 0.7e-9 the first exceeds the second .. we write none"; the early answer is not
  -- what gives none
  pub not_early : le range_end (add binary64 Float.zero epsilon) ≡ false
  pub first : start_of tiny_stops (sorted_stops tiny_stops 1) (add binary64 Float.zero epsilon) ≡ 1
  pub second : end_of tiny_stops (sorted_stops tiny_stops 1) (sub binary64 range_end epsilon) ≡ 0
  pub writes_none : emit_range tiny_stops (sorted_stops tiny_stops 1) None Float.zero range_end false ≡ []
  -- "After a seam the lower end is taken with lo - 1e-9": the stop at 0 has its word, after those before the seam
  pub seam : words_of_ticks 1 over_the_seam ≡ 0 ∷ 0x1001_0001 ∷ 0x1000_0001 ∷ 0x1002_0001 ∷ []
  -- the tape: "four ticks of 0.5. Output ..", "moves 1", "Log 17 words: accepted"
  pub output : words_of_ticks 4 tape_world
      ≡ 0x0000_0000 ∷ 0x2001_0000 ∷ 0x6000_0000 ∷ 0x0000_0001 ∷ 0x0000_0002 ∷ 0x7000_0000 ∷ 0x0000_0003 ∷ []
  pub moves : (world_after_ticks 4 tape_world).total_moves ≡ 1
  pub room : room_of tape_world ≡ 17
