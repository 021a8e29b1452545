-- Kinds 1 to 4: for each its checks in the paper's order, its values and its length.
use Rattle.std.specs.Prelude.{Bool, false, not, ◌&&◌, ◌||◌, cond, List, [], ◌∷◌, ℕ, zero, suc, ◌+◌, ◌/◌, ◌%◌, ◌^◌, ltb, eqb, length, get_or, set, replicate}
use Rattle.world.specs.Refusal.{check}
use Rattle.world.specs.declared.refusal.Refusal.TheVariants.{CutShort, FieldOutside, FloatOutside}
use Rattle.world.specs.declared.Line.{Line}
use Rattle.world.specs.declared.LineKind.{LineKind}
use Rattle.world.specs.declared.LineKind.TheVariants.{Linear, Loop}
use Rattle.world.specs.declared.Motion.{Motion}
use Rattle.std.specs.declared.option.Option.{Option}
use Rattle.std.specs.declared.option.Option.TheVariants.{None, Some}
use Rattle.world.specs.declared.RiderPhase.{RiderPhase}
use Rattle.world.specs.declared.RiderPhase.TheVariants.{Waiting, Boarding, Riding, Exiting, Walking, Arrived, Abandoned, Resident}
use Rattle.layout.specs.declared.Fields.{Fields}
use Rattle.tape_fields.specs.Fields.{float_at, is_raw_zero_at, is_outside_size, is_outside_from_zero, is_outside_above_zero}
use Rattle.tape_records.specs.declared.Record.TheVariants as Record
use Rattle.tape_records.specs.declared.Found.TheVariants.{Change}
use Rattle.tape_records.specs.Answers.{is_not_stop, is_not_line, is_not_car, is_not_rider, is_nonzero, million, thousand, ten, CheckedRead}
use Rattle.tape_loads.specs.declared.RiderBody.{RiderBody}

-- ---- 1 line: n number; s 0 linear, 1 loop; v count of served stops, at most 64, or 65,535 for no list

unfoldable pub serves_count : ℕ → ℕ
serves_count v = cond (eqb v 65535) 0 v

-- one of the first n served words is no stop's number
unfoldable pub has_stop_outside : List ℕ → ℕ → Bool
has_stop_outside ws zero = false
has_stop_outside ws (suc i) = has_stop_outside ws i || is_not_stop (get_or ws (5 + i) 0)

-- the first n served words in order, and zeros
unfoldable pub serves_to : List ℕ → ℕ → List ℕ
serves_to ws zero = replicate 64 0
serves_to ws (suc i) = set (serves_to ws i) i (get_or ws (5 + i) 0)

unfoldable pub has_line_field_outside : Fields → List ℕ → Bool
has_line_field_outside h ws =
    is_not_line h.n || ltb 1 h.s || eqb h.s 0 && not (is_raw_zero_at ws 1 && is_raw_zero_at ws 3)

unfoldable pub has_line_float_outside : Fields → List ℕ → Bool
has_line_float_outside h ws =
    eqb h.s 1 && (is_outside_above_zero (float_at ws 1) million || is_outside_from_zero (float_at ws 3) million)

unfoldable pub line_kind_of : Fields → List ℕ → LineKind
line_kind_of h ws = cond (eqb h.s 0) Linear (Loop (float_at ws 1) (float_at ws 3))

-- its kind, and the stops that it serves
abbrev pub line_row : Fields → List ℕ → Line
line_row h ws =
    let count = serves_count h.v in
    record {
      kind = line_kind_of h ws;
      serves = record { listed = not (eqb h.v 65535); stops = record { items = serves_to ws count; count = count } };
    }

unfoldable pub line_record : Fields → List ℕ → CheckedRead
line_record h ws =
    let count = serves_count h.v in
    record {
      checks =
          check FieldOutside (ltb 64 h.v && not (eqb h.v 65535))
          ∷ check CutShort (ltb (length ws) (5 + count))
          ∷ check FieldOutside (has_line_field_outside h ws || has_stop_outside ws count)
          ∷ check FloatOutside (has_line_float_outside h ws)
          ∷ [];
      done = record { found = Change (Record.Line h.n (line_row h ws)); used = 5 + count };
    }

-- ---- 2 stop: s number; body position

abbrev pub stop_record : Fields → List ℕ → CheckedRead
stop_record h ws = record {
  checks =
      check CutShort (ltb (length ws) 3)
      ∷ check FieldOutside (is_nonzero h.n || is_not_stop h.s || is_nonzero h.v)
      ∷ check FloatOutside (is_outside_size (float_at ws 1) million)
      ∷ [];
  done = record { found = Change (Record.Stop h.s (float_at ws 1)); used = 3 };
}

-- ---- 3 car: n number; s line; body six floats, then transition ticks and open ticks

abbrev pub motion_at : List ℕ → Motion
motion_at ws = record {
  position = float_at ws 1;
  velocity = float_at ws 3;
  max_speed = float_at ws 5;
  acceleration = float_at ws 7;
  deceleration = float_at ws 9;
  inspection_speed_factor = float_at ws 11;
}

abbrev pub has_motion_outside : Motion → Bool
has_motion_outside m =
    is_outside_size m.position million
    || is_outside_size m.velocity thousand
    || is_outside_from_zero m.max_speed thousand
    || is_outside_from_zero m.acceleration thousand
    || is_outside_from_zero m.deceleration thousand
    || is_outside_from_zero m.inspection_speed_factor ten

abbrev pub car_record : Fields → List ℕ → CheckedRead
car_record h ws = record {
  checks =
      check CutShort (ltb (length ws) 15)
      ∷ check FieldOutside (is_not_line h.s || is_nonzero h.v)
      ∷ check FloatOutside (has_motion_outside (motion_at ws))
      ∷ [];
  done = record {
    found = Change (Record.Car h.n (record {
      line = h.s;
      motion = motion_at ws;
      door_transition_ticks = get_or ws 13 0;
      door_open_ticks = get_or ws 14 0;
    }));
    used = 15;
  };
}

-- ---- 4 rider: s number; v destination stop or 65,535 for none

-- "bits 7-0 phase, 15-8 phase's car, 23-16 car aboard or 255, top bits 0"
abbrev pub rider_body : ℕ → RiderBody
rider_body w = record { phase = w % 256; car = w / 2 ^ 8 % 256; aboard = w / 2 ^ 16 % 256; top = w / 2 ^ 24 }

-- "phase's car (phases 1 to 3; else 255)"
abbrev pub is_phase_car_outside : ℕ → ℕ → Bool
is_phase_car_outside phase car = cond (ltb 0 phase && ltb phase 4) (is_not_car car) (not (eqb car 255))

abbrev pub is_rider_body_outside : RiderBody → Bool
is_rider_body_outside b =
    ltb 7 b.phase
    || is_phase_car_outside b.phase b.car
    || is_not_car b.aboard && not (eqb b.aboard 255)
    || is_nonzero b.top

-- "0 Waiting, 1 Boarding, 2 Riding, 3 Exiting, 4 Walking, 5 Arrived, 6 Abandoned, 7 Resident"
abbrev pub rider_phase : ℕ → ℕ → RiderPhase
rider_phase phase car =
    cond (eqb phase 0) Waiting
    (cond (eqb phase 1) (Boarding car)
    (cond (eqb phase 2) (Riding car)
    (cond (eqb phase 3) (Exiting car)
    (cond (eqb phase 4) Walking
    (cond (eqb phase 5) Arrived
    (cond (eqb phase 6) Abandoned Resident))))))

abbrev pub car_option : ℕ → Option ℕ
car_option car = cond (eqb car 255) None (Some car)

abbrev pub stop_option : ℕ → Option ℕ
stop_option stop = cond (ltb stop 64) (Some stop) None

abbrev pub rider_record : Fields → List ℕ → CheckedRead
rider_record h ws =
    let b = rider_body (get_or ws 1 0) in
    record {
      checks =
          check CutShort (ltb (length ws) 2)
          ∷ check FieldOutside
          (is_nonzero h.n || is_not_rider h.s || is_not_stop h.v && not (eqb h.v 65535) || is_rider_body_outside b)
          ∷ [];
      done = record {
        found = Change (Record.Rider h.s (record {
          destination = stop_option h.v;
          phase = rider_phase b.phase b.car;
          aboard = car_option b.aboard;
        }));
        used = 2;
      };
    }
