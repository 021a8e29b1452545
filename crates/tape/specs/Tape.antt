-- What a tape (the input record stream) begins with: the record of its kind, or the first refusal whose condition
-- holds.
use Rattle.std.specs.Prelude.{Result, Err, cond, List, [], ◌∷◌, ℕ, eqb, length, get_or}
use Rattle.world.specs.Refusal.{check, unless}
use Rattle.world.specs.declared.refusal.Refusal.{Refusal}
use Rattle.world.specs.declared.refusal.Refusal.TheVariants.{CutShort, UnknownKind}
use Rattle.layout.specs.declared.Fields.{Fields}
use Rattle.layout.specs.Layout.{fields_of}
use Rattle.tape_records.specs.declared.Read.{Read}
use Rattle.tape_records.specs.Answers.{CheckedRead, read_checked}
use Rattle.tape_loads.specs.LoadRecords.{line_record, stop_record, car_record, rider_record}
use Rattle.tape_orders.specs.OrderRecords.{send_record, mode_record, manual_speed_record, door_command_record, hall_call_record, destination_record, enable_record, tick_record, start_record}

-- ---- the kinds by their numbers; every other kind is refused

pub record KindEntry : Type 0 where
  pub number : ℕ
  pub deed : CheckedRead

abbrev pub kind_entry : ℕ → CheckedRead → KindEntry
kind_entry k d = record { number = k; deed = d }

abbrev pub kind_in : ℕ → List KindEntry → Result Read Refusal
kind_in k [] = Err UnknownKind
kind_in k (t ∷ ts) = cond (eqb k t.number) (read_checked t.deed) (kind_in k ts)

abbrev pub kinds : Fields → List ℕ → List KindEntry
kinds h ws =
    kind_entry 1 (line_record h ws)
    ∷ kind_entry 2 (stop_record h ws)
    ∷ kind_entry 3 (car_record h ws)
    ∷ kind_entry 4 (rider_record h ws)
    ∷ kind_entry 5 (send_record h)
    ∷ kind_entry 6 (mode_record h)
    ∷ kind_entry 7 (manual_speed_record h ws)
    ∷ kind_entry 8 (door_command_record h)
    ∷ kind_entry 9 (hall_call_record h)
    ∷ kind_entry 10 (destination_record h)
    ∷ kind_entry 11 (enable_record h)
    ∷ kind_entry 12 (tick_record h ws)
    ∷ kind_entry 13 (start_record h)
    ∷ []

-- the record of a head and words, and the record that words begin with
unfoldable pub decoded_by : Fields → List ℕ → Result Read Refusal
decoded_by h ws = kind_in h.kind (kinds h ws)

unfoldable pub decoded : List ℕ → Result Read Refusal
decoded ws = unless (check CutShort (eqb (length ws) 0) ∷ []) Err (decoded_by (fields_of (get_or ws 0 0)) ws)
