-- Parts of the code, cited within the library alone, on which the promise of `record` does not rest: an order of
-- floats in which 0 and -0 are alike.
use Rattle.std.specs.Prelude.{Bool, not, ◌&&◌, ◌||◌, Float}
use Rattle.std.specs.Float.Ieee.{lt, is_nan}

-- x is below y, or y alone is the nan: 0 and -0 alike, the nan last
abbrev pub is_before : Float → Float → Bool
is_before x y = lt x y || (not (is_nan x) && is_nan y)
