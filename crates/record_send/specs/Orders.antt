-- What the state refuses of a send, and what it does to the world: kind 5.
use Rattle.std.specs.Prelude.{Ok, Err, Bool, true, false, not, ◌||◌, cond, List, [], ◌∷◌, ℕ}
use Rattle.world.specs.World.{car_at}
use Rattle.world.specs.With.{with_car}
use Rattle.world_sound_rows.specs.Rows.{is_unloaded}
use Rattle.world.specs.declared.World.{World}
use Rattle.world.specs.declared.Car.{Car}
use Rattle.world.specs.declared.ElevatorPhase.{ElevatorPhase}
use Rattle.world.specs.declared.ElevatorPhase.TheVariants.{Idle, MovingToStop, Repositioning, DoorOpening, Loading, DoorClosing, Stopped}
use Rattle.std.specs.declared.option.Option.TheVariants.{Some}
use Rattle.world.specs.declared.refusal.Refusal.TheVariants.{NotNow, NotLoaded, CannotGo}
use Rattle.world.specs.Refusal.{Check, check, unless}
use Rattle.record_start.specs.Changes.{Effect, has_no_car}

-- whether a car may be sent: Idle or Stopped
abbrev pub is_sendable : ElevatorPhase → Bool
is_sendable Idle = true
is_sendable (MovingToStop s) = false
is_sendable (Repositioning s) = false
is_sendable DoorOpening = false
is_sendable Loading = false
is_sendable DoorClosing = false
is_sendable Stopped = true

-- 5 send (dispatch command): "sets phase, target and repositioning flag"
abbrev pub with_target : Car → ℕ → Bool → Car
with_target c stop reposition =
    record c {
      phase = cond reposition (Repositioning stop) (MovingToStop stop);
      target_stop = Some stop;
      repositioning = reposition;
    }

abbrev pub send_checks : World → ℕ → ℕ → List Check
send_checks w car stop =
    let c = car_at w.cars.items car in
    check NotNow (not w.started)
    ∷ check NotLoaded (has_no_car w car || is_unloaded w.stops.count stop)
    ∷ check CannotGo (not c.enabled || not (is_sendable c.phase))
    ∷ []

unfoldable pub send : World → ℕ → ℕ → Bool → Effect
send w car stop reposition =
    unless (send_checks w car stop) Err (Ok (with_car w car (with_target (car_at w.cars.items car) stop reposition)))
