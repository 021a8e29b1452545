-- The claims of specs/Facts, together. Assumes nothing.
use mathlib.Core.Path.{refl}
use lib.Ieee.{of_bits, add, sub, mul, div, rem, neg, lt, le, eq, is_nan}
use Rattle.float.specs.Float.{abs, signum, is_finite, max, min, rem_euclid}
use Rattle.motion.specs.Cyclic.{wrap_position, forward_distance, cyclic_distance}
use Rattle.motion.specs.Movement.{tick_movement, tick_movement_cyclic, headway_clamp_target}
use Rattle.motion_velocity.specs.Velocity.{decelerated, accelerated, new_velocity}
use Rattle.motion_circle.specs.Facts.{ClampFurther, CyclicOneWay, FormulaFacts, HeadwayOnLargeCircle, TickOnLargeCircle}
use Rattle.motion_circle.proofs.Ahead.{clamp_ahead}
use Rattle.motion_circle.proofs.Circle.{wrap_in_circle, forward_in_circle, forward_is_number}
use Rattle.motion_circle.proofs.Headway.{headway_in_circle}
use Rattle.motion_circle.proofs.Wrapped.{wrap_twice}
use Rattle.motion_circle.proofs.Shorter.{twice_cyclic}
use Rattle.motion_circle.proofs.Tick.{tick_in_circle}
use Rattle.motion_circle.proofs.Ways.{cyclic_both_ways}
use Rattle.float.proofs.Sides.{epsilon_keeps_side}
use Rattle.float.proofs.Total.{total_order}

large_circle : HeadwayOnLargeCircle
unfolding HeadwayOnLargeCircle headway_clamp_target wrap_position forward_distance abs is_finite max rem_euclid of_bits add sub rem neg lt le eq is_nan
large_circle = refl

one_way : CyclicOneWay
unfolding CyclicOneWay cyclic_distance wrap_position forward_distance abs is_finite min rem_euclid of_bits add sub rem neg lt le eq is_nan
one_way = (refl, refl)

clamp_further : ClampFurther
unfolding ClampFurther headway_clamp_target wrap_position forward_distance abs is_finite max rem_euclid of_bits add sub rem neg lt le eq is_nan
clamp_further = (refl, refl)

tick_far : TickOnLargeCircle
unfolding TickOnLargeCircle tick_movement_cyclic tick_movement new_velocity decelerated accelerated wrap_position forward_distance abs signum is_finite max rem_euclid of_bits add sub mul div rem neg lt le eq is_nan
tick_far = refl

pub facts : FormulaFacts
facts = record {
  wrapped = wrap_in_circle;
  twice = wrap_twice;
  forward = forward_in_circle;
  half = twice_cyclic;
  both = cyclic_both_ways;
  one = one_way;
  number = forward_is_number;
  ticked = tick_in_circle;
  far = tick_far;
  headway = headway_in_circle;
  large = large_circle;
  clamp = clamp_ahead;
  further = clamp_further;
  side = epsilon_keeps_side;
  order = total_order;
}
