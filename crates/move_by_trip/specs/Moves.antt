-- A car's move by its trip: what it sweeps over, and its words and the car where it comes to its stop.
use Rattle.std.specs.Prelude.{ℕ, Bool, false, List, [], ◌∷◌, Float}
use Rattle.door.specs.Door.{request_open}
use Rattle.world.specs.declared.Car.{Car}
use Rattle.world.specs.declared.LineKind.{LineKind}
use Rattle.world.specs.declared.Motion.{Motion}
use Rattle.world.specs.declared.ElevatorPhase.TheVariants.{Idle, DoorOpening}
use Rattle.std.specs.declared.option.Option.{Option}
use Rattle.std.specs.declared.option.Option.TheVariants.{None, Some}
use Rattle.log_words.specs.Words.{word_of}
use Rattle.log_words.specs.declared.Event.TheVariants.{ElevatorArrived, ElevatorRepositioned, ElevatorIdle}
use Rattle.turn.specs.Steps.{both_lit, update_indicators}
use Rattle.laws.specs.Numbers.{plus}
use Rattle.world.specs.declared.Lamps.{Lamps}
use Rattle.move_trip.specs.Trips.{travelled, distance_after}
use Rattle.move_trip.specs.Spans.{span_of, manual_span}
use Rattle.move_arrival.specs.Arrival.{popped}
use Rattle.move_trip.specs.declared.span.Span.{Span}
use Rattle.move_trip.specs.declared.Trip.{Trip}
use Rattle.move_trip.specs.declared.Trip.TheVariants.{Rests, Drives, GoesTo, Repositions}

-- whether a car comes to its stop; a Manual one has none
abbrev pub has_arrived : Trip → Bool → Bool
has_arrived Rests arrived = false
has_arrived Drives arrived = false
has_arrived (GoesTo s) arrived = arrived
has_arrived (Repositions s) arrived = arrived

-- the stop that a car goes to
abbrev pub target_of : Trip → Option ℕ
target_of Rests = None
target_of Drives = None
target_of (GoesTo s) = Some s
target_of (Repositions s) = Some s

-- what a tick sweeps over
abbrev pub swept : Trip → LineKind → Motion → Motion → Span
swept Rests kind old new = span_of kind old.position new.position
swept Drives kind old new = manual_span kind old.position new.position new.velocity
swept (GoesTo s) kind old new = span_of kind old.position new.position
swept (Repositions s) kind old new = span_of kind old.position new.position

-- the words of a car that comes to its stop: run, `if result.arrived`
abbrev pub arrival_words : Trip → ℕ → Lamps → Lamps → List ℕ
arrival_words Rests i was lamps = []
arrival_words Drives i was lamps = []
arrival_words (GoesTo s) i was lamps = word_of (ElevatorArrived i s) ∷ update_indicators i was lamps
arrival_words (Repositions s) i was lamps =
    word_of (ElevatorRepositioned i s) ∷ word_of (ElevatorIdle i s) ∷ update_indicators i was both_lit

-- the stop popped off its queue
abbrev pub with_queue_popped : Car → ℕ → Car
with_queue_popped c s = record c { destination_queue = popped c s }

-- the car at its stop. run, `if is_repositioning`: "Repositioned elevators go directly to Idle", "cooldown is tick +
-- 240"; else the door begins to open
abbrev pub arrive : Trip → Car → Lamps → ℕ → Car
arrive Rests c lamps tick = c
arrive Drives c lamps tick = c
arrive (GoesTo s) c lamps tick =
    record (with_queue_popped c s) {
      phase = DoorOpening;
      door = request_open c.door_transition_ticks c.door_open_ticks;
      lamps = lamps;
    }
arrive (Repositions s) c lamps tick =
    record (with_queue_popped c s) {
      phase = Idle;
      target_stop = None;
      repositioning = false;
      lamps = both_lit;
      cooldown = Some (plus tick 240);
    }

-- the reposition distance after a tick: run, `if is_repositioning`
abbrev pub distance_by : Trip → LineKind → Float → Motion → Motion → Float
distance_by Rests kind distance old new = distance
distance_by Drives kind distance old new = distance
distance_by (GoesTo s) kind distance old new = distance
distance_by (Repositions s) kind distance old new = distance_after distance (travelled kind old.position new.position)
