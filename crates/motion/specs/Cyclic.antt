-- components/cyclic.rs, over the logic's IEEE 754. Each operation rounds once.
use Rattle.std.specs.Prelude.{◌≡◌, Bool, true, not, ◌||◌, cond, Float}
use Rattle.std.specs.Float.{binary64}
use Rattle.std.specs.Float.Ieee.{add, sub, lt, le}
use Rattle.float.specs.Float.{zero, is_finite, min, rem_euclid}

-- no circle: the circumference is not finite, or not above 0
abbrev pub is_degenerate : Float → Bool
is_degenerate circumference = not (is_finite circumference) || le circumference zero

-- x lies in [0, c)
abbrev pub InCircle : Float → Float → Type 0
InCircle x c = (le zero x ≡ true) × (lt x c ≡ true)

-- cyclic.rs, wrap_position
unfoldable pub wrap_position : Float → Float → Float
wrap_position p circumference =
    let r = rem_euclid p circumference in
    cond (is_degenerate circumference || not (is_finite p)) p (cond (le circumference r) zero r)

-- cyclic.rs, forward_distance: a difference below 0 gets one turn more
unfoldable pub forward_distance : Float → Float → Float → Float
forward_distance from to circumference =
    let d = sub binary64 (wrap_position to circumference) (wrap_position from circumference) in
    cond
    (is_degenerate circumference || not (is_finite from) || not (is_finite to))
    zero
    (cond (lt d zero) (add binary64 d circumference) d)

-- cyclic.rs, cyclic_distance
unfoldable pub cyclic_distance : Float → Float → Float → Float
cyclic_distance a b circumference =
    let fwd = forward_distance a b circumference in
    let back = sub binary64 circumference fwd in
    cond (is_degenerate circumference) zero (min fwd back)
