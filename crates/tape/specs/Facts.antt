-- Claims about the definitions. The function `facts` carries them.
use Rattle.std.specs.Prelude.{Result, Ok, Err, ◌≡◌, List, ℕ, ◌<◌, ◌≤◌, length, get_or}
use Rattle.world.specs.Refusal.{refusal_number}
use Rattle.world.specs.declared.refusal.Refusal.{Refusal}
use Rattle.tape_records.specs.declared.Read.{Read}
use Rattle.tape_records.specs.declared.Found.{Found}
use Rattle.tape_records.specs.declared.Found.TheVariants.{Change, Tick}
use Rattle.tape_records.specs.declared.Record.{Record}
use Rattle.tape_records.specs.declared.Record.TheVariants.{Line, Stop, Car, Rider, Send, Mode, ManualSpeed, DoorCommand, HallCall, Destination, Enable, Start}
use Rattle.tape.specs.Tape.{decoded}
use Rattle.layout.specs.Layout.{kind_of}

-- the kind of a record other than a tick
abbrev pub record_kind_number : Record → ℕ
record_kind_number (Line number line) = 1
record_kind_number (Stop number position) = 2
record_kind_number (Car number plan) = 3
record_kind_number (Rider number rider) = 4
record_kind_number (Send car stop reposition) = 5
record_kind_number (Mode car mode) = 6
record_kind_number (ManualSpeed car speed) = 7
record_kind_number (DoorCommand car command) = 8
record_kind_number (HallCall stop down) = 9
record_kind_number (Destination car stop) = 10
record_kind_number (Enable car enabled) = 11
record_kind_number Start = 13

-- a tick is kind C
abbrev pub found_kind_number : Found → ℕ
found_kind_number (Change r) = record_kind_number r
found_kind_number (Tick dt) = 12

-- a record takes some words and no more than there are, and its kind is its head's
abbrev pub ReadInBounds : List ℕ → Read → Type 0
ReadInBounds ws r = (0 < r.used) × (r.used ≤ length ws) × (kind_of (get_or ws 0 0) ≡ found_kind_number r.found)

-- a refusal is 1 to 4
abbrev pub InBounds : List ℕ → Result Read Refusal → Type 0
InBounds ws (Err r) = (1 ≤ refusal_number r) × (refusal_number r ≤ 4)
InBounds ws (Ok r) = ReadInBounds ws r

unfoldable pub ReadsInBounds : Type 0
ReadsInBounds = (ws : List ℕ) → InBounds ws (decoded ws)
