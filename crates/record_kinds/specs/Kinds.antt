-- What each record but the tick does, and what the state says of a tick.
use Rattle.std.specs.Prelude.{Bool, not, List, [], ◌∷◌, ℕ, ◌^◌, leb, ltb}
use Rattle.world.specs.Refusal.{Check, check}
use Rattle.world.specs.declared.World.{World}
use Rattle.world.specs.declared.refusal.Refusal.TheVariants.{NotNow, LastTick, LogShort}
use Rattle.tape_records.specs.declared.Record.{Record}
use Rattle.tape_records.specs.declared.Record.TheVariants.{Line, Stop, Car, Rider, Send, Mode, ManualSpeed, DoorCommand, HallCall, Destination, Enable, Start}
use Rattle.record_loads.specs.Loads.{load_line, load_stop, load_car, load_rider}
use Rattle.record_start.specs.Changes.{Effect, start}
use Rattle.record_send.specs.Orders.{send}
use Rattle.record_modes.specs.Modes.{set_mode, set_manual_speed, set_enabled}
use Rattle.record_queues.specs.Requests.{queue_command, press_hall_call, push_destination}
use Rattle.tick.specs.Room.{room_for}

-- ---- kinds 1 to B and D: the state's refusal, or the world after the record

abbrev pub change_by : World → Record → Effect
change_by w (Line number line) = load_line w number line
change_by w (Stop number position) = load_stop w number position
change_by w (Car number plan) = load_car w number plan
change_by w (Rider number rider) = load_rider w number rider
change_by w (Send car stop reposition) = send w car stop reposition
change_by w (Mode car mode) = set_mode w car mode
change_by w (ManualSpeed car speed) = set_manual_speed w car speed
change_by w (DoorCommand car command) = queue_command w car command
change_by w (HallCall stop down) = press_hall_call w stop down
change_by w (Destination car stop) = push_destination w car stop
change_by w (Enable car enabled) = set_enabled w car enabled
change_by w Start = start w

-- ---- C tick

-- 6: before start. 11: "a tick when tick 268,435,455 has been made (the first is 0)". 12: "the lent log is shorter
-- than cars × (stops + 14) + 1"
abbrev pub tick_checks_by : Bool → ℕ → ℕ → ℕ → ℕ → List Check
tick_checks_by started ticks cars stops room =
    check NotNow (not started)
    ∷ check LastTick (leb (2 ^ 28) ticks)
    ∷ check LogShort (ltb room (room_for cars stops))
    ∷ []
