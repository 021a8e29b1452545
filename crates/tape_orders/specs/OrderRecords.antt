-- Kinds 5 to D: for each its checks in the paper's order, its values and its length.
use Rattle.std.specs.Prelude.{Bool, not, ◌&&◌, ◌||◌, cond, List, [], ◌∷◌, ℕ, ltb, eqb, length, Float}
use Rattle.float.specs.Float as F64
use Rattle.door.specs.declared.DoorCommand.{DoorCommand}
use Rattle.door.specs.declared.DoorCommand.TheVariants as Command
use Rattle.world.specs.Refusal.{check}
use Rattle.world.specs.declared.refusal.Refusal.TheVariants.{CutShort, FieldOutside, FloatOutside}
use Rattle.world.specs.Modes.{mode_of}
use Rattle.std.specs.declared.option.Option.{Option}
use Rattle.std.specs.declared.option.Option.TheVariants.{None, Some}
use Rattle.layout.specs.declared.Fields.{Fields}
use Rattle.tape_fields.specs.Fields.{float_at, is_raw_zero_at, is_outside_size, is_outside_above_zero}
use Rattle.tape_records.specs.declared.Record.TheVariants as Record
use Rattle.tape_records.specs.Answers.{is_not_stop, is_nonzero, thousand, CheckedRead}
use Rattle.tape_records.specs.declared.Found.TheVariants.{Change, Tick}

-- ---- 5 send: n car, s stop, v 0 go, 1 reposition

abbrev pub send_record : Fields → CheckedRead
send_record h = record {
  checks =
      check FieldOutside (is_not_stop h.s || ltb 1 h.v)
      ∷ [];
  done = record { found = Change (Record.Send h.n h.s (eqb h.v 1)); used = 1 };
}

-- ---- 6 mode: n car, v 0 Normal, 1 Independent, 2 Inspection, 3 Manual, 4 OutOfService

abbrev pub mode_record : Fields → CheckedRead
mode_record h = record {
  checks =
      check FieldOutside (is_nonzero h.s || ltb 4 h.v)
      ∷ [];
  done = record { found = Change (Record.Mode h.n (mode_of h.v)); used = 1 };
}

-- ---- 7 manual speed: n car, v 1 set, 0 none; body a float (raw zero words if none)

abbrev pub speed_of : ℕ → Float → Option Float
speed_of v speed = cond (eqb v 1) (Some speed) None

abbrev pub manual_speed_record : Fields → List ℕ → CheckedRead
manual_speed_record h ws = record {
  checks =
      check CutShort (ltb (length ws) 3)
      ∷ check FieldOutside (is_nonzero h.s || ltb 1 h.v || eqb h.v 0 && not (is_raw_zero_at ws 1))
      ∷ check FloatOutside (eqb h.v 1 && is_outside_size (float_at ws 1) thousand)
      ∷ [];
  done = record { found = Change (Record.ManualSpeed h.n (speed_of h.v (float_at ws 1))); used = 3 };
}

-- ---- 8 door command: n car, s 0 Open, 1 Close, 2 HoldOpen with v ticks, 3 CancelHold

abbrev pub command_of : ℕ → ℕ → DoorCommand
command_of s v =
    cond (eqb s 0) Command.Open
    (cond (eqb s 1) Command.Close
    (cond (eqb s 2) (Command.HoldOpen v) Command.CancelHold))

abbrev pub door_command_record : Fields → CheckedRead
door_command_record h = record {
  checks =
      check FieldOutside (ltb 3 h.s || not (eqb h.s 2) && is_nonzero h.v)
      ∷ [];
  done = record { found = Change (Record.DoorCommand h.n (command_of h.s h.v)); used = 1 };
}

-- ---- 9 hall call: s stop, v 0 up, 1 down

abbrev pub hall_call_record : Fields → CheckedRead
hall_call_record h = record {
  checks =
      check FieldOutside (is_nonzero h.n || is_not_stop h.s || ltb 1 h.v)
      ∷ [];
  done = record { found = Change (Record.HallCall h.s (eqb h.v 1)); used = 1 };
}

-- ---- A destination: n car, s stop

abbrev pub destination_record : Fields → CheckedRead
destination_record h = record {
  checks =
      check FieldOutside (is_not_stop h.s || is_nonzero h.v)
      ∷ [];
  done = record { found = Change (Record.Destination h.n h.s); used = 1 };
}

-- ---- B: n car, v 0 enable, 1 disable

abbrev pub enable_record : Fields → CheckedRead
enable_record h = record {
  checks =
      check FieldOutside (is_nonzero h.s || ltb 1 h.v)
      ∷ [];
  done = record { found = Change (Record.Enable h.n (eqb h.v 0)); used = 1 };
}

-- ---- C tick: body dt

-- "Fields not named are 0": one of n, s and v is not
abbrev pub has_field_set : Fields → Bool
has_field_set h = is_nonzero h.n || is_nonzero h.s || is_nonzero h.v

abbrev pub tick_record : Fields → List ℕ → CheckedRead
tick_record h ws = record {
  checks =
      check CutShort (ltb (length ws) 3)
      ∷ check FieldOutside (has_field_set h)
      ∷ check FloatOutside (is_outside_above_zero (float_at ws 1) F64.one)
      ∷ [];
  done = record { found = Tick (float_at ws 1); used = 3 };
}

-- ---- D start

abbrev pub start_record : Fields → CheckedRead
start_record h = record {
  checks =
      check FieldOutside (has_field_set h)
      ∷ [];
  done = record { found = Change Record.Start; used = 1 };
}
