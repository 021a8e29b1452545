-- Zero, or outside from zero on, is outside above zero: `le` is `lt` or `eq`. Assumes nothing.
use mathlib.Core.Path.{◌≡◌, refl}
use mathlib.Core.Bool.{Bool, true, false, not, ◌||◌}
use lib.Ieee.{Float, lt, le, eq}
use Rattle.float.specs.Float as F64
use Rattle.tape_fields.specs.Fields.{is_outside_from_zero, is_outside_above_zero}

ends : (zero wild below above : Bool) → (zero || (wild || below || above)) ≡ (wild || (below || zero) || above)
ends true true below above = refl
ends true false true above = refl
ends true false false above = refl
ends false true below above = refl
ends false false true above = refl
ends false false false above = refl

pub above_zero : (x most : Float) → (eq x F64.zero || is_outside_from_zero x most) ≡ is_outside_above_zero x most
unfolding le
above_zero x most = ends (eq x F64.zero) (not (F64.is_finite x)) (lt x F64.zero) (lt most x)
