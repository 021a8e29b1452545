-- Refusal 0, a row of a table at a time: what a lent line, car or rider may not hold. What lies past a count is not
-- looked at.
use Rattle.std.specs.Prelude.{Bool, false, ◌||◌, ℕ, zero, suc, ◌^◌, leb, ltb, get_or}
use Rattle.world.specs.declared.Car.{Car}
use Rattle.world.specs.declared.Line.{Line}
use Rattle.world.specs.declared.Rider.{Rider}
use Rattle.world.specs.declared.ElevatorPhase.{ElevatorPhase}
use Rattle.world.specs.declared.ElevatorPhase.TheVariants.{Idle, MovingToStop, Repositioning, DoorOpening, Loading, DoorClosing, Stopped}
use Rattle.world.specs.declared.RiderPhase.{RiderPhase}
use Rattle.world.specs.declared.RiderPhase.TheVariants.{Waiting, Boarding, Riding, Exiting, Walking, Arrived, Abandoned, Resident}
use Rattle.std.specs.declared.option.Option.{Option}
use Rattle.std.specs.declared.option.Option.TheVariants.{None, Some}

-- whether one of the numbers below n passes the test
unfoldable pub is_any_below : (ℕ → Bool) → ℕ → Bool
is_any_below f zero = false
is_any_below f (suc n) = is_any_below f n || f n

-- ---- a number that is not loaded: it is not below the count `loaded` of its table

abbrev pub is_unloaded : ℕ → ℕ → Bool
is_unloaded loaded number = leb loaded number

abbrev pub is_stop_unloaded : ℕ → Option ℕ → Bool
is_stop_unloaded stops None = false
is_stop_unloaded stops (Some s) = is_unloaded stops s

abbrev pub is_car_unloaded : ℕ → Option ℕ → Bool
is_car_unloaded cars None = false
is_car_unloaded cars (Some i) = is_unloaded cars i

abbrev pub is_phase_unloaded : ℕ → ElevatorPhase → Bool
is_phase_unloaded stops Idle = false
is_phase_unloaded stops (MovingToStop s) = is_unloaded stops s
is_phase_unloaded stops (Repositioning s) = is_unloaded stops s
is_phase_unloaded stops DoorOpening = false
is_phase_unloaded stops Loading = false
is_phase_unloaded stops DoorClosing = false
is_phase_unloaded stops Stopped = false

abbrev pub is_rider_phase_unloaded : ℕ → RiderPhase → Bool
is_rider_phase_unloaded cars Waiting = false
is_rider_phase_unloaded cars (Boarding i) = is_unloaded cars i
is_rider_phase_unloaded cars (Riding i) = is_unloaded cars i
is_rider_phase_unloaded cars (Exiting i) = is_unloaded cars i
is_rider_phase_unloaded cars Walking = false
is_rider_phase_unloaded cars Arrived = false
is_rider_phase_unloaded cars Abandoned = false
is_rider_phase_unloaded cars Resident = false

-- ---- a line, a car, a rider

unfoldable pub is_line_broken : ℕ → Line → Bool
is_line_broken stops l =
    -- a count above its table
    ltb 64 l.serves.stops.count
    -- a listed stop
    || is_any_below (λ k. is_unloaded stops (get_or l.serves.stops.items k 0)) l.serves.stops.count

unfoldable pub is_car_broken : ℕ → ℕ → Car → Bool
is_car_broken lines stops c =
    -- a queue above 8
    ltb 8 c.destination_queue.count
    || ltb 8 c.door_command_queue.count
    -- a move counter of 2 to the 48 or more
    || leb (2 ^ 48) c.move_count
    -- its line, its phase's stop, its target, its destinations
    || is_unloaded lines c.line
    || is_phase_unloaded stops c.phase
    || is_stop_unloaded stops c.target_stop
    || is_any_below (λ k. is_unloaded stops (get_or c.destination_queue.items k 0)) c.destination_queue.count

unfoldable pub is_rider_broken : ℕ → ℕ → Rider → Bool
is_rider_broken stops cars r =
    -- its destination, its phase's car, the car aboard
    is_stop_unloaded stops r.destination
    || is_rider_phase_unloaded cars r.phase
    || is_car_unloaded cars r.aboard
