-- A car's turn in one of the two systems, and the cars in ascending number.
use Rattle.std.specs.Prelude.{Bool, true, false, ◌&&◌, cond, List, [], ◌∷◌, ◌++◌, ℕ, zero, suc, min, ltb, set, replicate, Float}
use Rattle.std.specs.Bool.{beq}
use Rattle.world.specs.World.{line_at}
use Rattle.world.specs.declared.World.{World}
use Rattle.world.specs.declared.Car.{Car}
use Rattle.world.specs.declared.Motion.{Motion}
use Rattle.world.specs.declared.Line.{Line}
use Rattle.world.specs.declared.LineKind.TheVariants.{Linear}
use Rattle.world.specs.declared.ServiceMode.{ServiceMode}
use Rattle.world.specs.declared.ServiceMode.TheVariants.{Normal, Independent, Inspection, Manual, OutOfService}
use Rattle.std.specs.declared.option.Option.{Option}
use Rattle.std.specs.declared.option.Option.TheVariants.{None}
use Rattle.log_words.specs.Words.{word_of}
use Rattle.log_words.specs.declared.Event.TheVariants.{DirectionIndicatorChanged}
use Rattle.world.specs.declared.Lamps.{Lamps}
use Rattle.turn.specs.declared.JustOpened.{JustOpened}
use Rattle.laws.specs.Numbers.{plus}
use Rattle.world.specs.Tables.{with_item}
use Rattle.world.specs.With.{with_motion_and_count}
use Rattle.world.specs.World.{serves_none}

-- a car's line; past the table a linear one without a list, which refusal 0 keeps away
unfoldable pub line_of : List Line → ℕ → Line
line_of lines line = cond (ltb line 8) (line_at lines line) (record { kind = Linear; serves = serves_none })

abbrev pub is_manual : ServiceMode → Bool
is_manual Normal = false
is_manual Independent = false
is_manual Inspection = false
is_manual Manual = true
is_manual OutOfService = false

abbrev pub is_inspection : ServiceMode → Bool
is_inspection Normal = false
is_inspection Independent = false
is_inspection Inspection = true
is_inspection Manual = false
is_inspection OutOfService = false

-- ---- the lamps (direction indicators)

abbrev pub both_lit : Lamps
both_lit = record { going_up = true; going_down = true }

abbrev pub unlit : Lamps
unlit = record { going_up = false; going_down = false }

-- systems/dispatch.rs, update_indicators: a word where a lamp changes
abbrev pub update_indicators : ℕ → Lamps → Lamps → List ℕ
update_indicators i was lamps =
    cond
    (beq was.going_up lamps.going_up && beq was.going_down lamps.going_down)
    []
    (word_of (DirectionIndicatorChanged i lamps.going_up lamps.going_down) ∷ [])

-- ---- a car with some of its fields changed

-- moved: its motion record, and so many moves more
abbrev pub with_motion_and_moves : Car → Motion → ℕ → Car
with_motion_and_moves c motion moves = with_motion_and_count c motion (plus c.move_count moves)

-- ---- a car's turn: the car, its words, the world's totals then, and whether its door has just opened

abbrev pub not_opened : Option JustOpened
not_opened = None

pub record Turn : Type 0 where
  pub car : Car
  pub words : List ℕ
  pub total : ℕ
  pub distance : Float
  pub opened : Option JustOpened

-- a turn that leaves the totals: the car, its words, a door just opened
abbrev pub turn_of : World → Car → List ℕ → Option JustOpened → Turn
turn_of w c words opened =
    record { car = c; words = words; total = w.total_moves; distance = w.reposition_distance; opened = opened }

-- the world after a car's turn
abbrev pub with_turn : World → ℕ → Turn → World
with_turn w i s =
    record w { cars = with_item w.cars i s.car w.cars.count; total_moves = s.total; reposition_distance = s.distance }

-- ---- "Cars go in ascending number", each in the world that the one before has left

-- the world, the words, and what has opened, a place for each car
pub record CarsRun : Type 0 where
  pub world : World
  pub words : List ℕ
  pub opened : List (Option JustOpened)

abbrev pub ran : CarsRun → ℕ → Turn → CarsRun
ran r i s = record { world = with_turn r.world i s; words = r.words ++ s.words; opened = set r.opened i s.opened }

-- after the first i cars
unfoldable pub run_to : (World → ℕ → Turn) → World → ℕ → CarsRun
run_to turn w zero = record { world = w; words = []; opened = replicate 16 not_opened }
run_to turn w (suc i) = ran (run_to turn w i) i (turn (run_to turn w i).world i)

-- after all; a count above the table is taken as the table's size
unfoldable pub run_cars : (World → ℕ → Turn) → World → CarsRun
run_cars turn w = run_to turn w (min w.cars.count 16)
