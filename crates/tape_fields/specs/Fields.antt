-- The fields of a record's body: its floats, and their ranges. Negative zero is level with zero in `lt` and `le`.
use Rattle.std.specs.Prelude.{Bool, not, ◌&&◌, ◌||◌, List, ℕ, ◌+◌, ◌*◌, ◌^◌, eqb, get_or, Float}
use Rattle.std.specs.Float.{binary64}
use Rattle.std.specs.Float.Ieee.{lt, le, of_bits}
use Rattle.float.specs.Float as F64

-- "A float is two words, high half first"
unfoldable pub float_at : List ℕ → ℕ → Float
float_at ws k = of_bits binary64 (get_or ws k 0 * 2 ^ 32 + get_or ws (k + 1) 0)

-- "raw zero words": no bit is set in a float's two words
unfoldable pub is_raw_zero_at : List ℕ → ℕ → Bool
is_raw_zero_at ws k = eqb (get_or ws k 0) 0 && eqb (get_or ws (k + 1) 0) 0

-- "at most .. in size"
abbrev pub is_outside_size : Float → Float → Bool
is_outside_size x most = not (F64.is_finite x) || lt most (F64.abs x)

-- "0 to .."
abbrev pub is_outside_from_zero : Float → Float → Bool
is_outside_from_zero x most = not (F64.is_finite x) || lt x F64.zero || lt most x

-- "above 0 to .."
abbrev pub is_outside_above_zero : Float → Float → Bool
is_outside_above_zero x most = not (F64.is_finite x) || le x F64.zero || lt most x
