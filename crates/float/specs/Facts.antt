-- Facts of any f64. The function `facts` of `motion_circle` carries them.
use Rattle.std.specs.Prelude.{◌≡◌, true, false, Float}
use Rattle.std.specs.Float.{binary64}
use Rattle.std.specs.Float.Ieee.{add, sub, le, is_nan, fits}
use Rattle.float.specs.Float.{epsilon, is_total_before}

-- an f64: the logic's Float serves other formats too
abbrev pub IsF64 : Float → Type 0
IsF64 x = fits binary64 x ≡ true

-- fl(x - 1e-9) ≤ x and x ≤ fl(x + 1e-9), for every f64 that is a number
unfoldable pub EpsilonKeepsSide : Type 0
EpsilonKeepsSide = (x : Float) → IsF64 x → is_nan x ≡ false
    → (le (sub binary64 x epsilon) x ≡ true) × (le x (add binary64 x epsilon) ≡ true)

-- total_cmp is a strict total order of the f64s: no x is before itself, "before" is transitive, and of two different
-- f64s one is before the other
unfoldable pub TotalOrder : Type 0
TotalOrder = ((x : Float) → is_total_before x x ≡ false)
    × ((x y z : Float) → is_total_before x y ≡ true → is_total_before y z ≡ true → is_total_before x z ≡ true)
    × ((x y : Float) → IsF64 x → IsF64 y → is_total_before x y ≡ false → is_total_before y x ≡ false → x ≡ y)
