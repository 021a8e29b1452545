-- Facts of the formulas over any circle, and over any float that each names. The function `facts` carries them.
use Rattle.std.specs.Prelude.{◌≡◌, true, false, Float}
use Rattle.std.specs.Float.{inf, binary64}
use Rattle.std.specs.Float.Ieee.{of_bits, add, sub, le, eq, is_nan}
use Rattle.float.specs.Float.{zero, is_finite, max}
use Rattle.float.specs.Facts.{IsF64, EpsilonKeepsSide, TotalOrder}
use Rattle.motion.specs.Cyclic.{InCircle, is_degenerate, wrap_position, forward_distance, cyclic_distance}
use Rattle.motion.specs.Movement.{tick_movement, tick_movement_cyclic, headway_clamp_target}

-- a circle: an f64 above 0 and finite
abbrev pub IsCircle : Float → Type 0
IsCircle c = IsF64 c × (is_degenerate c ≡ false)

-- wrap_position of a finite position lies in [0, c)
unfoldable pub WrapInCircle : Type 0
WrapInCircle = (p c : Float) → IsCircle c → is_finite p ≡ true → InCircle (wrap_position p c) c

-- and it is wrapped already: a second wrap changes nothing, whatever the position, degenerate circles included
unfoldable pub WrapTwice : Type 0
WrapTwice = (p c : Float) → IsF64 c → wrap_position (wrap_position p c) c ≡ wrap_position p c

-- forward_distance lies in [0, c] whatever the positions: the whole circle is possible, as from 1e-20 to 0 on 10
unfoldable pub ForwardInCircle : Type 0
ForwardInCircle = (from to c : Float) → IsCircle c
    → (le zero (forward_distance from to c) ≡ true) × (le (forward_distance from to c) c ≡ true)

-- twice a cyclic_distance is at most the circle, whatever the positions
unfoldable pub TwiceCyclic : Type 0
TwiceCyclic = (a b c : Float) → IsCircle c → le (add binary64 (cyclic_distance a b c) (cyclic_distance a b c)) c ≡ true

-- cyclic_distance is one number both ways where c - (c - x) is x for each of the two ways forward.
-- By `eq`: from 0 to -0 it is -0, and back +0.
unfoldable pub CyclicBothWays : Type 0
CyclicBothWays = (a b c : Float) → IsF64 c
    → eq (sub binary64 c (sub binary64 c (forward_distance a b c))) (forward_distance a b c) ≡ true
    → eq (sub binary64 c (sub binary64 c (forward_distance b a c))) (forward_distance b a c) ≡ true
    → eq (cyclic_distance a b c) (cyclic_distance b a c) ≡ true

-- and not everywhere: on 10 it is 1e-20 from 0 to 1e-20, and 0 back
unfoldable pub CyclicOneWay : Type 0
CyclicOneWay =
    (cyclic_distance zero (of_bits binary64 0x3bc7_9ca1_0c92_4223) (of_bits binary64 0x4024_0000_0000_0000)
    ≡ of_bits binary64 0x3bc7_9ca1_0c92_4223)
    × (cyclic_distance (of_bits binary64 0x3bc7_9ca1_0c92_4223) zero (of_bits binary64 0x4024_0000_0000_0000) ≡ zero)

-- forward_distance is never a NaN, whatever the three arguments are
unfoldable pub ForwardIsNumber : Type 0
ForwardIsNumber = (from to c : Float) → IsF64 c → is_nan (forward_distance from to c) ≡ false

-- tick_movement_cyclic on a circle of which twice is finite ends in [0, c), from a finite position to a finite target,
-- where the landing that it takes from tick_movement along the way forward is finite
unfoldable pub TickInCircle : Type 0
TickInCircle = (position velocity target max_speed acceleration deceleration dt c : Float) → IsCircle c
    → is_finite (add binary64 c c) ≡ true
    → is_finite position ≡ true → is_finite target ≡ true
    → is_finite
    (tick_movement zero velocity (forward_distance (wrap_position position c) (wrap_position target c) c)
    max_speed acceleration deceleration dt).position
    ≡ true
    → InCircle (tick_movement_cyclic position velocity target max_speed acceleration deceleration dt c).position c

-- and on a larger circle it can end at infinity, as here: circle 1.5 * 2^1023, from 2^1023 to 1.5 * 2^1022,
-- velocity and top speed 2^1023, acceleration, deceleration and dt 1; the landing is 2^1023
unfoldable pub TickOnLargeCircle : Type 0
TickOnLargeCircle =
    (tick_movement_cyclic
    (of_bits binary64 0x7fe0_0000_0000_0000)
    (of_bits binary64 0x7fe0_0000_0000_0000)
    (of_bits binary64 0x7fd8_0000_0000_0000)
    (of_bits binary64 0x7fe0_0000_0000_0000)
    (of_bits binary64 0x3ff0_0000_0000_0000)
    (of_bits binary64 0x3ff0_0000_0000_0000)
    (of_bits binary64 0x3ff0_0000_0000_0000)
    (of_bits binary64 0x7fe8_0000_0000_0000)
    ).position
    ≡ inf false

-- headway_clamp_target of finite arguments lies in [0, c) where twice the circle is finite too.
-- On a larger circle trailer + safe_advance can be infinite, and so is the answer, in the Rust as here
-- (docs/DECISIONS.md).
unfoldable pub HeadwayInCircle : Type 0
HeadwayInCircle = (trailer leader intended headway c : Float) → IsCircle c → is_finite (add binary64 c c) ≡ true
    → is_finite trailer ≡ true → is_finite intended ≡ true → is_finite headway ≡ true
    → InCircle (headway_clamp_target trailer leader intended headway c) c

-- as here: circle 1.5 * 2^1023, trailer 2^1023, leader 1.5 * 2^1022, target 1.75 * 2^1022, headway 2^1020
unfoldable pub HeadwayOnLargeCircle : Type 0
HeadwayOnLargeCircle =
    headway_clamp_target
    (of_bits binary64 0x7fe0_0000_0000_0000)
    (of_bits binary64 0x7fd8_0000_0000_0000)
    (of_bits binary64 0x7fdc_0000_0000_0000)
    (of_bits binary64 0x7fb0_0000_0000_0000)
    (of_bits binary64 0x7fe8_0000_0000_0000)
    ≡ inf false

-- the advance that the clamp allows: the gap to the leader less the headway, and 0 where that is below 0
abbrev pub safe_advance : Float → Float → Float → Float → Float
safe_advance trailer leader headway c =
    max (sub binary64 (forward_distance (wrap_position trailer c) (wrap_position leader c) c) headway) zero

-- headway_clamp_target's answer lies at most that far ahead of the trailer, where (trailer + s) - trailer is s for
-- that advance s
unfoldable pub ClampAhead : Type 0
ClampAhead = (trailer leader intended headway c : Float) → IsCircle c
    → is_finite trailer ≡ true → is_finite headway ≡ true
    → eq
    (sub binary64 (add binary64 (wrap_position trailer c) (safe_advance trailer leader headway c))
    (wrap_position trailer c))
    (safe_advance trailer leader headway c)
    ≡ true
    → le
    (forward_distance (wrap_position trailer c) (headway_clamp_target trailer leader intended headway c) c)
    (safe_advance trailer leader headway c)
    ≡ true

-- and elsewhere it can lie further: on 10, trailer 0.2, leader 3.1, target 0.1, headway 1 has the advance 1.9 and an
-- answer 1.9000000000000001 ahead
unfoldable pub ClampFurther : Type 0
ClampFurther =
    (safe_advance
    (of_bits binary64 0x3fc9_9999_9999_999a)
    (of_bits binary64 0x4008_cccc_cccc_cccd)
    (of_bits binary64 0x3ff0_0000_0000_0000)
    (of_bits binary64 0x4024_0000_0000_0000)
    ≡ of_bits binary64 0x3ffe_6666_6666_6666)
    × (forward_distance
    (of_bits binary64 0x3fc9_9999_9999_999a)
    (headway_clamp_target
    (of_bits binary64 0x3fc9_9999_9999_999a)
    (of_bits binary64 0x4008_cccc_cccc_cccd)
    (of_bits binary64 0x3fb9_9999_9999_999a)
    (of_bits binary64 0x3ff0_0000_0000_0000)
    (of_bits binary64 0x4024_0000_0000_0000))
    (of_bits binary64 0x4024_0000_0000_0000)
    ≡ of_bits binary64 0x3ffe_6666_6666_6667)

-- all of them
pub record FormulaFacts : Type 0 where
  pub wrapped : WrapInCircle
  pub twice : WrapTwice
  pub forward : ForwardInCircle
  pub half : TwiceCyclic
  pub both : CyclicBothWays
  pub one : CyclicOneWay
  pub number : ForwardIsNumber
  pub ticked : TickInCircle
  pub far : TickOnLargeCircle
  pub headway : HeadwayInCircle
  pub large : HeadwayOnLargeCircle
  pub clamp : ClampAhead
  pub further : ClampFurther
  pub side : EpsilonKeepsSide
  pub order : TotalOrder
