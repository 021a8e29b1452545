-- The door's tick of a car by its cases: the door waits, has opened, begins to close, or has closed, and the car stops
-- or departs. Assumes nothing.
use mathlib.Core.Path.{◌≡◌, refl}
use Prim.Native.Nat.{ℕ}
use Rattle.door.specs.Door.{tick}
use Rattle.door.specs.declared.DoorState.{DoorState}
use Rattle.door.specs.declared.DoorTransition.{DoorTransition}
use Rattle.door.specs.declared.DoorTransition.TheVariants as Transition
use Rattle.world.specs.declared.Car.{Car}
use Rattle.world.specs.declared.ElevatorPhase.TheVariants.{DoorClosing}
use Rattle.std.specs.declared.option.Option.{Option}
use Rattle.std.specs.declared.option.Option.TheVariants.{None, Some}
use Rattle.laws.proofs.Choices.{both}
use Rattle.doors_tick.specs.Ticks.{DoorTurn, with_phase_and_door, quiet_turn, finished_opening, finished_closing, finish_by, is_door_tick_skipped, door_by}

module _
    (P : DoorTurn → Type 0)
    (i : ℕ)
    (c : Car)
    (next : Option ℕ)
    (waits : (d : DoorState) → P (quiet_turn (with_phase_and_door c c.phase d)))
    (opened : (d : DoorState) → P (finished_opening i (with_phase_and_door c c.phase d)))
    (closing : (d : DoorState) → P (quiet_turn (with_phase_and_door c DoorClosing d)))
    (stops : (d : DoorState) → P (finished_closing None i (with_phase_and_door c c.phase d)))
    (departs : (s : ℕ) (d : DoorState) → next ≡ Some s → P (finished_closing (Some s) i (with_phase_and_door c c.phase d)))
  where
    closed : (n : Option ℕ) (d : DoorState) → next ≡ n → P (finished_closing n i (with_phase_and_door c c.phase d))
    closed None d e = stops d
    closed (Some s) d e = departs s d e

    finished : (t : DoorTransition) (d : DoorState) → P (finish_by t i (with_phase_and_door c c.phase d) next)
    finished Transition.None d = waits d
    finished Transition.FinishedOpening d = opened d
    finished Transition.FinishedOpen d = closing d
    finished Transition.FinishedClosing d = closed next d refl

    pub door_cases : P (door_by i c next)
    door_cases = both P (is_door_tick_skipped c) (waits c.door) (finished (tick c.door).transition (tick c.door).door)
