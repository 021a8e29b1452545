-- A car's turn by its cases: it rests, it passes stops, it arrives, or it has been repositioned. Assumes nothing.
use mathlib.Core.Path.{◌≡◌, refl}
use mathlib.Core.Bool.{true}
use mathlib.Core.List.{[]}
use Prim.Native.Nat.{ℕ}
use lib.Ieee.{Float}
use Rattle.world.specs.World.{car_at}
use Rattle.world.specs.declared.World.{World}
use Rattle.world.specs.declared.LineKind.{LineKind}
use Rattle.world.specs.declared.Motion.{Motion}
use Rattle.world.specs.declared.Lamps.{Lamps}
use Rattle.laws.proofs.Choices.{both}
use Rattle.turn.specs.Steps.{Turn, turn_of, not_opened}
use Rattle.move_trip.specs.Trips.{trip_of, has_trip}
use Rattle.move_landing.specs.declared.Landed.{Landed}
use Rattle.move_trip.specs.declared.Trip.{Trip}
use Rattle.move_trip.specs.declared.Trip.TheVariants.{Rests, Drives, GoesTo, Repositions}
use Rattle.move_turn.specs.Movement.{passing_turn, arrival_turn, turn_of_move_by, turn_of_move}

module _
    (P : Turn → Type 0)
    (w : World)
    (i : ℕ)
    (rests : P (turn_of w (car_at w.cars.items i) [] not_opened))
    (passing : has_trip (trip_of (car_at w.cars.items i)) ≡ true → (trip : Trip) (kind : LineKind) (m : Motion) → P (passing_turn w i trip kind m))
    (arriving : has_trip (trip_of (car_at w.cars.items i)) ≡ true → (s : ℕ) (kind : LineKind) (m : Motion) (lamps : Lamps) → P (arrival_turn w i (GoesTo s) kind m lamps))
    (repositioned : has_trip (trip_of (car_at w.cars.items i)) ≡ true → (s : ℕ) (kind : LineKind) (m : Motion) (lamps : Lamps) → P (arrival_turn w i (Repositions s) kind m lamps))
  where
    by : (trip : Trip) → has_trip (trip_of (car_at w.cars.items i)) ≡ has_trip trip → (kind : LineKind) (r : Landed) (lamps : Lamps) → P (turn_of_move_by w i trip kind r lamps)
    by Rests e kind r lamps = rests
    by Drives e kind r lamps = passing e Drives kind r.motion
    by (GoesTo s) e kind r lamps = both P r.arrived (arriving e s kind r.motion lamps) (passing e (GoesTo s) kind r.motion)
    by (Repositions s) e kind r lamps = both P r.arrived (repositioned e s kind r.motion lamps) (passing e (Repositions s) kind r.motion)

    pub move_cases : (dt : Float) → P (turn_of_move dt w i)
    unfolding turn_of_move
    move_cases dt = by (trip_of (car_at w.cars.items i)) refl _ _ _
