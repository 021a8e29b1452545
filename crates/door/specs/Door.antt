-- A car's door, tick by tick: what the functions of door.rs answer. Assumes nothing.
use Rattle.std.specs.Prelude.{Bool, true, false, cond, ℕ, ◌-◌, leb}
use Rattle.door.specs.declared.DoorState.{DoorState}
use Rattle.door.specs.declared.DoorState.TheVariants.{Closed, Opening, Open, Closing}
use Rattle.door.specs.declared.DoorTransition.{DoorTransition}
use Rattle.door.specs.declared.DoorTransition.TheVariants.{None, FinishedOpening, FinishedOpen, FinishedClosing}

-- A state's numbers, in the order of door.rs: ticks remaining, open duration `od`, close duration `cd`.

-- door.rs, DoorState::is_open
abbrev pub is_open : DoorState → Bool
is_open Closed = false
is_open (Opening ticks od cd) = false
is_open (Open ticks cd) = true
is_open (Closing ticks) = false

-- door.rs, DoorState::is_closed
abbrev pub is_closed : DoorState → Bool
is_closed Closed = true
is_closed (Opening ticks od cd) = false
is_closed (Open ticks cd) = false
is_closed (Closing ticks) = false

-- door.rs, DoorState::request_open
abbrev pub request_open : ℕ → ℕ → DoorState
request_open transition-ticks open-ticks = Opening transition-ticks open-ticks transition-ticks

-- a door after a tick, and the transition of that tick
pub record DoorTick : Type 0 where
  pub door : DoorState
  pub transition : DoorTransition

abbrev pub ticked : DoorState → DoorTransition → DoorTick
ticked d t = record { door = d; transition = t }

-- door.rs, DoorState::tick
abbrev pub tick : DoorState → DoorTick
tick Closed = ticked Closed None
tick (Opening ticks od cd) =
    cond (leb ticks 1) (ticked (Open od cd) FinishedOpening) (ticked (Opening (ticks - 1) od cd) None)
tick (Open ticks cd) = cond (leb ticks 1) (ticked (Closing cd) FinishedOpen) (ticked (Open (ticks - 1) cd) None)
tick (Closing ticks) = cond (leb ticks 1) (ticked Closed FinishedClosing) (ticked (Closing (ticks - 1)) None)
