-- What the state refuses of a record that loads, and what it does to the world: kinds 1 to 4.
use Rattle.std.specs.Prelude.{Ok, Err, ◌||◌, cond, List, [], ◌∷◌, ℕ, ◌+◌, leb, ltb, eqb, Float}
use Rattle.world.specs.World.{new_car}
use Rattle.world_sound_rows.specs.Rows.{is_unloaded, is_line_broken, is_rider_broken}
use Rattle.world.specs.Refusal.{Check, check, unless}
use Rattle.world.specs.declared.World.{World}
use Rattle.world.specs.declared.Line.{Line}
use Rattle.world.specs.declared.CarPlan.{CarPlan}
use Rattle.world.specs.declared.Rider.{Rider}
use Rattle.world.specs.declared.refusal.Refusal.TheVariants.{FieldOutside, NotNow, NotNext, NotLoaded}
use Rattle.record_start.specs.Changes.{Effect, is_not_next}
use Rattle.world.specs.Tables.{with_item}

-- 1 line: "v count of served stops, at most 64"; a record of the tape never has more
abbrev pub line_checks : World → ℕ → Line → List Check
line_checks w number row =
    check FieldOutside (ltb 64 row.serves.stops.count)
    ∷ check NotNow w.started
    ∷ check NotNext (is_not_next 8 w.lines.count number)
    ∷ check NotLoaded (is_line_broken w.stops.count row)
    ∷ []

abbrev pub with_line : World → ℕ → Line → World
with_line w number row = record w { lines = with_item w.lines number row (number + 1) }

unfoldable pub load_line : World → ℕ → Line → Effect
load_line w number row = unless (line_checks w number row) Err (Ok (with_line w number row))

-- 2 stop
abbrev pub stop_checks : World → ℕ → List Check
stop_checks w number =
    check NotNow w.started
    ∷ check NotNext (is_not_next 64 w.stops.count number)
    ∷ []

abbrev pub with_stop : World → ℕ → Float → World
with_stop w number position = record w { stops = with_item w.stops number position (number + 1) }

unfoldable pub load_stop : World → ℕ → Float → Effect
load_stop w number position = unless (stop_checks w number) Err (Ok (with_stop w number position))

-- 3 car
abbrev pub car_checks : World → ℕ → CarPlan → List Check
car_checks w number plan =
    check NotNow w.started
    ∷ check NotNext (is_not_next 16 w.cars.count number)
    ∷ check NotLoaded (is_unloaded w.lines.count plan.line)
    ∷ []

abbrev pub with_new_car : World → ℕ → CarPlan → World
with_new_car w number plan = record w { cars = with_item w.cars number (new_car plan) (number + 1) }

unfoldable pub load_car : World → ℕ → CarPlan → Effect
load_car w number plan = unless (car_checks w number plan) Err (Ok (with_new_car w number plan))

-- the count of riders once this number is loaded: one more where it is new
abbrev pub count_with : ℕ → ℕ → ℕ
count_with count number = cond (eqb number count) (number + 1) count

-- 4 rider: "an old number replaces that rider"
abbrev pub rider_checks : World → ℕ → Rider → List Check
rider_checks w number rider =
    check NotNext (leb 128 number || ltb w.riders.count number)
    ∷ check NotLoaded (is_rider_broken w.stops.count w.cars.count rider)
    ∷ []

abbrev pub with_rider : World → ℕ → Rider → World
with_rider w number rider = record w { riders = with_item w.riders number rider (count_with w.riders.count number) }

unfoldable pub load_rider : World → ℕ → Rider → Effect
load_rider w number rider = unless (rider_checks w number rider) Err (Ok (with_rider w number rider))
