-- What a car's phase and door have, its queued commands keep: by induction on the queue, and the cases of each
-- command. Assumes nothing.
use mathlib.Core.Bool.{Bool}
use Prim.Native.Nat.{ℕ, zero, suc, min}
use Rattle.door.specs.Door.{request_open}
use Rattle.door.specs.declared.DoorState.{DoorState}
use Rattle.door.specs.declared.DoorState.TheVariants.{Closed, Opening, Open, Closing}
use Rattle.door.specs.declared.DoorCommand.{DoorCommand}
use Rattle.door.specs.declared.DoorCommand.TheVariants as Command
use Rattle.world.specs.declared.Car.{Car}
use Rattle.world.specs.declared.ElevatorPhase.{ElevatorPhase}
use Rattle.world.specs.declared.ElevatorPhase.TheVariants.{Idle, MovingToStop, Repositioning, DoorOpening, Loading, DoorClosing, Stopped}
use Rattle.laws.proofs.Choices.{both}
use Rattle.doors_commands.specs.Commands.{apply_open, apply_close, with_hold, apply_hold, without_hold, apply_cancel_hold, try_apply_command, queued, after_command, processed_to, process_door_commands}
use Rattle.doors_commands.specs.declared.Doorway.{Doorway}
use Rattle.std.specs.declared.option.Option.{Option}
use Rattle.std.specs.declared.option.Option.TheVariants.{None, Some}

module _
    (Has : ElevatorPhase → DoorState → Type 0)
    (opening : (a b : ℕ) → Has DoorOpening (request_open a b))
    (closing : (a : ℕ) → Has DoorClosing (Closing a))
    (longer : (a b cd : ℕ) → Has Loading (Open a cd) → Has Loading (Open b cd))
    (c : Car)
    (here traversing : Bool)
  where
    -- what a command leaves of them, where it is applied
    abbrev Keeps : Option Doorway → Type 0
    Keeps None = Unit {0}
    Keeps (Some d) = Has d.phase d.door

    open_keeps : (p : ElevatorPhase) (d : DoorState) → Has p d → Keeps (apply_open p d c here)
    open_keeps Idle d h = both Keeps here (opening _ _) tt
    open_keeps (MovingToStop s) d h = tt
    open_keeps (Repositioning s) d h = tt
    open_keeps DoorOpening d h = h
    open_keeps Loading d h = h
    open_keeps DoorClosing d h = opening _ _
    open_keeps Stopped d h = both Keeps here (opening _ _) tt

    close_keeps : (p : ElevatorPhase) (d : DoorState) → Has p d → Keeps (apply_close p d c traversing)
    close_keeps Idle d h = h
    close_keeps (MovingToStop s) d h = h
    close_keeps (Repositioning s) d h = h
    close_keeps DoorOpening d h = tt
    close_keeps Loading d h = both Keeps traversing tt (closing _)
    close_keeps DoorClosing d h = h
    close_keeps Stopped d h = h

    held_keeps : (d : DoorState) (ticks : ℕ) → Has Loading d → Has Loading (with_hold d ticks)
    held_keeps Closed ticks h = h
    held_keeps (Opening a od cd) ticks h = h
    held_keeps (Open a cd) ticks h = longer a _ cd h
    held_keeps (Closing a) ticks h = h

    hold_keeps : (p : ElevatorPhase) (d : DoorState) (ticks : ℕ) → Has p d → Keeps (apply_hold p d ticks)
    hold_keeps Idle d ticks h = h
    hold_keeps (MovingToStop s) d ticks h = h
    hold_keeps (Repositioning s) d ticks h = h
    hold_keeps DoorOpening d ticks h = tt
    hold_keeps Loading d ticks h = held_keeps d ticks h
    hold_keeps DoorClosing d ticks h = h
    hold_keeps Stopped d ticks h = h

    unheld_keeps : (d : DoorState) (base : ℕ) → Has Loading d → Has Loading (without_hold d base)
    unheld_keeps Closed base h = h
    unheld_keeps (Opening a od cd) base h = h
    unheld_keeps (Open a cd) base h = longer a _ cd h
    unheld_keeps (Closing a) base h = h

    cancel_keeps : (p : ElevatorPhase) (d : DoorState) → Has p d → Keeps (apply_cancel_hold p d c)
    cancel_keeps Idle d h = h
    cancel_keeps (MovingToStop s) d h = h
    cancel_keeps (Repositioning s) d h = h
    cancel_keeps DoorOpening d h = h
    cancel_keeps Loading d h = unheld_keeps d c.door_open_ticks h
    cancel_keeps DoorClosing d h = h
    cancel_keeps Stopped d h = h

    try_keeps : (q : DoorCommand) → Has c.phase c.door → Keeps (try_apply_command q c here traversing)
    try_keeps Command.Open h = open_keeps c.phase c.door h
    try_keeps Command.Close h = close_keeps c.phase c.door h
    try_keeps (Command.HoldOpen ticks) h = hold_keeps c.phase c.door ticks h
    try_keeps Command.CancelHold h = cancel_keeps c.phase c.door h

    worked_keeps : (q : DoorCommand) (t : Option Doorway) → Has c.phase c.door → Keeps t → Has (after_command c q t).phase (after_command c q t).door
    worked_keeps q None h g = h
    worked_keeps q (Some d) h g = g

module _
    (Has : ElevatorPhase → DoorState → Type 0)
    (opening : (a b : ℕ) → Has DoorOpening (request_open a b))
    (closing : (a : ℕ) → Has DoorClosing (Closing a))
    (longer : (a b cd : ℕ) → Has Loading (Open a cd) → Has Loading (Open b cd))
    (c : Car)
    (here traversing : Bool)
  where
    work_keeps : (n : ℕ) → Has c.phase c.door → Has (processed_to c here traversing n).phase (processed_to c here traversing n).door
    unfolding processed_to
    work_keeps zero h = h
    work_keeps (suc n) h =
        let k : Car = processed_to c here traversing n in
        let q : DoorCommand = queued c here traversing n in
        let g : Has k.phase k.door = work_keeps n h in
        worked_keeps Has opening closing longer k here traversing q (try_apply_command q k here traversing) g (try_keeps Has opening closing longer k here traversing q g)

    pub commands_keep : Has c.phase c.door
        → Has (process_door_commands c here traversing).phase (process_door_commands c here traversing).door
    unfolding process_door_commands
    commands_keep = work_keeps (min c.door_command_queue.count 8)
