-- The door's tick of a car: systems/doors.rs, run, after the commands.
use Rattle.std.specs.Prelude.{Bool, true, false, not, ◌&&◌, ◌||◌, cond, List, [], ◌∷◌, ◌++◌, ℕ}
use Rattle.door.specs.Door.{is_closed, is_open, tick}
use Rattle.door.specs.declared.DoorState.{DoorState}
use Rattle.door.specs.declared.DoorTransition.{DoorTransition}
use Rattle.door.specs.declared.DoorTransition.TheVariants as Transition
use Rattle.door.specs.declared.DoorTransition.TheVariants.{FinishedOpening, FinishedOpen, FinishedClosing}
use Rattle.world.specs.declared.Car.{Car}
use Rattle.world.specs.declared.ElevatorPhase.{ElevatorPhase}
use Rattle.world.specs.declared.ElevatorPhase.TheVariants.{Idle, MovingToStop, Repositioning, DoorOpening, Loading, DoorClosing, Stopped}
use Rattle.std.specs.declared.option.Option.{Option}
use Rattle.std.specs.declared.option.Option.TheVariants.{None, Some}
use Rattle.log_words.specs.Words.{word_of}
use Rattle.log_words.specs.declared.Event.TheVariants.{DoorOpened, DoorClosed, ElevatorDeparted}
use Rattle.turn.specs.Steps.{is_inspection, both_lit, unlit, update_indicators, not_opened}
use Rattle.turn.specs.declared.JustOpened.{JustOpened}

abbrev pub is_door_opening : ElevatorPhase → Bool
is_door_opening Idle = false
is_door_opening (MovingToStop s) = false
is_door_opening (Repositioning s) = false
is_door_opening DoorOpening = true
is_door_opening Loading = false
is_door_opening DoorClosing = false
is_door_opening Stopped = false

-- what a car's turn at its door gives: the car, its words, a door just opened
pub record DoorTurn : Type 0 where
  pub car : Car
  pub words : List ℕ
  pub opened : Option JustOpened

abbrev pub turned : Car → List ℕ → Option JustOpened → DoorTurn
turned c words opened = record { car = c; words = words; opened = opened }

-- without a word or a door just opened
abbrev pub quiet_turn : Car → DoorTurn
quiet_turn c = turned c [] not_opened

-- the car with a phase and a door
abbrev pub with_phase_and_door : Car → ElevatorPhase → DoorState → Car
with_phase_and_door c phase door = record c { phase = phase; door = door }

-- run, FinishedOpening: what goes into just_opened
abbrev pub just_opened_at : Option ℕ → Car → Option JustOpened
just_opened_at None c = None
just_opened_at (Some s) c = Some (record { stop = s; lamps = c.lamps })

-- run, FinishedClosing on a loop: the word of where the car departed from
abbrev pub departed_words : Option ℕ → ℕ → List ℕ
departed_words None i = []
departed_words (Some s) i = word_of (ElevatorDeparted i s) ∷ []

-- run, FinishedClosing: by the loop's next stop
abbrev pub finished_closing : Option ℕ → ℕ → Car → DoorTurn
finished_closing (Some next) i c =
    turned
    (record c { phase = MovingToStop next; target_stop = Some next; lamps = unlit; going_forward = true })
    (word_of (DoorClosed i) ∷ (update_indicators i c.lamps unlit ++ departed_words c.target_stop i))
    not_opened
finished_closing None i c =
    turned
    (record c { phase = Stopped; target_stop = None; lamps = both_lit })
    (word_of (DoorClosed i) ∷ update_indicators i c.lamps both_lit)
    not_opened

-- run, FinishedOpening
abbrev pub finished_opening : ℕ → Car → DoorTurn
finished_opening i c =
    turned (with_phase_and_door c Loading c.door) (word_of (DoorOpened i) ∷ []) (just_opened_at c.target_stop c)

-- run, `match transition`: of the car whose door's tick has made it
abbrev pub finish_by : DoorTransition → ℕ → Car → Option ℕ → DoorTurn
finish_by FinishedOpening i c next = finished_opening i c
finish_by FinishedOpen i c next = quiet_turn (with_phase_and_door c DoorClosing c.door)
finish_by FinishedClosing i c next = finished_closing next i c
finish_by Transition.None i c next = quiet_turn c

-- run, its two tests that leave the door's tick out
abbrev pub is_door_tick_skipped : Car → Bool
is_door_tick_skipped c =
    (is_closed c.door && not (is_door_opening c.phase)) || (is_inspection c.service_mode && is_open c.door)

-- run, after the commands: the car is as they left it
abbrev pub door_by : ℕ → Car → Option ℕ → DoorTurn
door_by i c next =
    cond
    (is_door_tick_skipped c)
    (quiet_turn c)
    (finish_by (tick c.door).transition i (with_phase_and_door c c.phase (tick c.door).door) next)

-- a turn after words of its own
abbrev pub after_words : List ℕ → DoorTurn → DoorTurn
after_words words t = turned t.car (words ++ t.words) t.opened
