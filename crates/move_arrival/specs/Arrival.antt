-- A car that comes to its stop: systems/movement.rs, run's `if result.arrived`.
use Rattle.std.specs.Prelude.{Bool, true, false, not, ◌&&◌, cond, List, [], ◌∷◌, ℕ, zero, suc, ◌-◌, min, ltb, eqb, get_or, Float}
use Rattle.std.specs.Float.Ieee.{lt}
use Rattle.world.specs.World.{stop_position, rider_at}
use Rattle.world.specs.declared.Car.{Car}
use Rattle.world.specs.declared.Rider.{Rider}
use Rattle.std.specs.declared.option.Option.{Option}
use Rattle.std.specs.declared.option.Option.TheVariants.{None, Some}
use Rattle.world.specs.declared.LineKind.{LineKind}
use Rattle.turn.specs.Steps.{both_lit, unlit}
use Rattle.world.specs.declared.Lamps.{Lamps}
use Rattle.world.specs.declared.Table.{Table}
use Rattle.world.specs.Tables.{Queue}
use Rattle.move_trip.specs.Trips.{is_loop}
use Rattle.move_trip.specs.declared.Trip.{Trip}
use Rattle.move_trip.specs.declared.Trip.TheVariants.{Rests, Drives, GoesTo, Repositions}

-- ---- direction_from_remaining_work

abbrev pub lamps : Bool → Bool → Lamps
lamps up down = record { going_up = up; going_down = down }

-- needs_up and needs_down with one more position
abbrev pub needing : Lamps → Float → Float → Lamps
needing l position stop =
    cond (lt stop position) (lamps true l.going_down) (cond (lt position stop) (lamps l.going_up true) l)

-- with a rider's destination, where it has one
abbrev pub needing_stop : Option ℕ → Lamps → List Float → Float → Lamps
needing_stop None l stops stop = l
needing_stop (Some s) l stops stop = needing l (stop_position stops s) stop

abbrev pub is_aboard : Option ℕ → ℕ → Bool
is_aboard None i = false
is_aboard (Some car) i = eqb car i

-- "A rider counts for lamps by the car aboard and its destination"
abbrev pub needing_rider : Rider → Lamps → List Float → ℕ → Float → Lamps
needing_rider r l stops i stop = cond (is_aboard r.aboard i) (needing_stop r.destination l stops stop) l

-- the first n riders
unfoldable pub riders_lamps_to : List Rider → List Float → ℕ → Float → ℕ → Lamps
riders_lamps_to riders stops i stop zero = unlit
riders_lamps_to riders stops i stop (suc n) =
    needing_rider (rider_at riders n) (riders_lamps_to riders stops i stop n) stops i stop

-- and the first n of the queue
unfoldable pub queue_lamps_to : Queue ℕ → List Float → Lamps → Float → ℕ → Lamps
queue_lamps_to queue stops l stop zero = l
queue_lamps_to queue stops l stop (suc n) =
    needing (queue_lamps_to queue stops l stop n) (stop_position stops (get_or queue.items n 0)) stop

-- no committed next direction: both
abbrev pub both_if_none : Lamps → Lamps
both_if_none l = cond (not l.going_up && not l.going_down) both_lit l

unfoldable pub direction_from_remaining_work : Table Rider 128 → Queue ℕ → List Float → ℕ → Float → Lamps
direction_from_remaining_work riders queue stops i stop =
    both_if_none
    (queue_lamps_to queue stops (riders_lamps_to riders.items stops i stop (min riders.count 128)) stop
    (min queue.count 8))

-- ---- the queue's front popped where it is the stop

abbrev pub shifted : List ℕ → List ℕ
shifted q =
    get_or q 1 0 ∷ get_or q 2 0 ∷ get_or q 3 0 ∷ get_or q 4 0 ∷ get_or q 5 0 ∷ get_or q 6 0 ∷ get_or q 7 0 ∷ 0 ∷ []

unfoldable pub popped : Car → ℕ → Queue ℕ
popped c s =
    cond
    (ltb 0 c.destination_queue.count && eqb (get_or c.destination_queue.items 0 0) s)
    (record { items = shifted c.destination_queue.items; count = c.destination_queue.count - 1 })
    c.destination_queue

-- ---- the lamps on arrival

-- direction_from_remaining_work of a car that goes to a stop
abbrev pub lamps_on_arrival : Trip → Table Rider 128 → Car → List Float → ℕ → Lamps
lamps_on_arrival Rests riders c stops i = c.lamps
lamps_on_arrival Drives riders c stops i = c.lamps
lamps_on_arrival (GoesTo s) riders c stops i =
    direction_from_remaining_work riders (popped c s) stops i (stop_position stops s)
lamps_on_arrival (Repositions s) riders c stops i = c.lamps

-- whether a turn asks for it: the car comes to its stop, and "Loop cars don't carry up/down lamps": theirs stay as
-- they are
abbrev pub is_direction_asked : Trip → LineKind → Bool → Bool
is_direction_asked Rests kind arrived = false
is_direction_asked Drives kind arrived = false
is_direction_asked (GoesTo s) kind arrived = arrived && not (is_loop kind)
is_direction_asked (Repositions s) kind arrived = false
