-- What is read of a tape (the input record stream): a record after its checks, and the ranges of its numbers and
-- floats.
use Rattle.std.specs.Prelude.{Result, Ok, Err, Bool, not, List, ℕ, ltb, eqb, Float}
use Rattle.std.specs.Float.{binary64}
use Rattle.std.specs.Float.Ieee.{of_bits}
use Rattle.world.specs.Refusal.{Check, unless}
use Rattle.world.specs.declared.refusal.Refusal.{Refusal}
use Rattle.tape_records.specs.declared.Read.{Read}

-- ---- numbers: "Stops 0 to 63, cars 0 to 15, riders 0 to 127", lines 0 to 7; "Fields not named are 0"

abbrev pub is_not_stop : ℕ → Bool
is_not_stop s = ltb 63 s

abbrev pub is_not_line : ℕ → Bool
is_not_line l = ltb 7 l

abbrev pub is_not_car : ℕ → Bool
is_not_car c = ltb 15 c

abbrev pub is_not_rider : ℕ → Bool
is_not_rider r = ltb 127 r

abbrev pub is_nonzero : ℕ → Bool
is_nonzero x = not (eqb x 0)

-- ---- ranges: "a float not finite or outside its range"

abbrev pub million : Float
million = of_bits binary64 0x412e_8480_0000_0000

abbrev pub thousand : Float
thousand = of_bits binary64 0x408f_4000_0000_0000

abbrev pub ten : Float
ten = of_bits binary64 0x4024_0000_0000_0000

-- ---- checks: "Checked in the order of the numbers"; "on its condition and on no other"

-- a record: its checks in order, and the answer where none holds
pub record CheckedRead : Type 0 where
  pub checks : List Check
  pub done : Read

abbrev pub read_checked : CheckedRead → Result Read Refusal
read_checked d = unless d.checks Err (Ok d.done)
