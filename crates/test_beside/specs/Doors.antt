-- A door and its transition as plain numbers. Assumes nothing.
use Rattle.std.specs.Prelude.{cond, ℕ, eqb}
use Rattle.door.specs.Door.{tick}
use Rattle.door.specs.declared.DoorState.{DoorState}
use Rattle.door.specs.declared.DoorState.TheVariants.{Closed, Opening, Open, Closing}
use Rattle.door.specs.declared.DoorTransition.{DoorTransition}
use Rattle.door.specs.declared.DoorTransition.TheVariants.{None, FinishedOpening, FinishedOpen, FinishedClosing}
use Rattle.test_beside.specs.declared.doors.DoorWords.{DoorWords}

-- the door of a state's number: 1 Opening, 2 Open, 3 Closing, and any other number is Closed
abbrev pub door_of : ℕ → ℕ → ℕ → ℕ → DoorState
door_of state ticks od cd =
    cond (eqb state 1) (Opening ticks od cd)
    (cond (eqb state 2) (Open ticks cd)
    (cond (eqb state 3) (Closing ticks) Closed))

abbrev pub transition_number : DoorTransition → ℕ
transition_number None = 0
transition_number FinishedOpening = 1
transition_number FinishedOpen = 2
transition_number FinishedClosing = 3

abbrev pub door_fields : ℕ → ℕ → ℕ → ℕ → DoorTransition → DoorWords
door_fields state ticks od cd t =
    record {
      state = state;
      ticks_remaining = ticks;
      open_duration = od;
      close_duration = cd;
      transition = transition_number t;
    }

-- a door and a transition as numbers; a field that the state does not have is 0
abbrev pub door_words : DoorState → DoorTransition → DoorWords
door_words Closed t = door_fields 0 0 0 0 t
door_words (Opening ticks od cd) t = door_fields 1 ticks od cd t
door_words (Open ticks cd) t = door_fields 2 ticks 0 cd t
door_words (Closing ticks) t = door_fields 3 ticks 0 0 t

-- the door's next tick as numbers
abbrev pub door_tick_words : DoorState → DoorWords
door_tick_words d = door_words (tick d).door (tick d).transition
