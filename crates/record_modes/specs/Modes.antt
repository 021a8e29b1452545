-- What the state refuses of a mode, a manual speed or an enable, and what each does to the world: kinds 6, 7 and B.
use Rattle.std.specs.Prelude.{Ok, Err, Bool, not, List, [], ◌∷◌, ℕ, Float}
use Rattle.world.specs.World.{car_at}
use Rattle.world.specs.With.{with_car}
use Rattle.world.specs.declared.World.{World}
use Rattle.world.specs.declared.Car.{Car}
use Rattle.world.specs.declared.ServiceMode.{ServiceMode}
use Rattle.std.specs.declared.option.Option.{Option}
use Rattle.world.specs.declared.refusal.Refusal.TheVariants.{NotNow, NotLoaded}
use Rattle.world.specs.Refusal.{Check, check, unless}
use Rattle.record_start.specs.Changes.{Effect, has_no_car}

-- the checks of an order to a car that needs nothing but the car: kinds 6, 7 and B
abbrev pub order_checks : World → ℕ → List Check
order_checks w car =
    check NotNow (not w.started)
    ∷ check NotLoaded (has_no_car w car)
    ∷ []

-- 6 mode
abbrev pub with_mode : Car → ServiceMode → Car
with_mode c mode = record c { service_mode = mode }

unfoldable pub set_mode : World → ℕ → ServiceMode → Effect
set_mode w car mode =
    unless (order_checks w car) Err (Ok (with_car w car (with_mode (car_at w.cars.items car) mode)))

-- 7 manual speed
abbrev pub with_manual_speed : Car → Option Float → Car
with_manual_speed c speed = record c { manual_target_velocity = speed }

unfoldable pub set_manual_speed : World → ℕ → Option Float → Effect
set_manual_speed w car speed =
    unless (order_checks w car) Err (Ok (with_car w car (with_manual_speed (car_at w.cars.items car) speed)))

-- B enable, disable
abbrev pub with_enabled : Car → Bool → Car
with_enabled c enabled = record c { enabled = enabled }

unfoldable pub set_enabled : World → ℕ → Bool → Effect
set_enabled w car enabled =
    unless (order_checks w car) Err (Ok (with_car w car (with_enabled (car_at w.cars.items car) enabled)))
