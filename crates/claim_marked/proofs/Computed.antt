-- Every marked example computes. Assumes nothing.
use mathlib.Core.Path.{refl}
use lib.Ieee.{of_bits, add, sub, mul, div, rem, neg, lt, le, eq, is_nan}
use Rattle.float.specs.Float.{abs, signum, is_finite, max, rem_euclid}
use Rattle.motion.specs.Cyclic.{wrap_position, forward_distance}
use Rattle.motion.specs.Movement.{tick_movement, headway_clamp_target}
use Rattle.motion_velocity.specs.Velocity.{decelerated, accelerated, new_velocity}
use Rattle.door.specs.Phases.{after, transition_at}
use Rattle.stops_next.specs.NextStop.{ahead_of, nearest_to, loop_next_stop_forward}
use Rattle.claim_marked.specs.Marked.{Marked, Hold}

pub examples_hold : Marked
unfolding Marked Hold tick_movement new_velocity decelerated accelerated wrap_position forward_distance headway_clamp_target transition_at after loop_next_stop_forward nearest_to ahead_of abs signum is_finite max rem_euclid of_bits add sub mul div rem neg lt le eq is_nan
examples_hold = (refl, (refl, (refl, (refl, (refl, (refl, (refl, (refl, (refl, (refl, (refl, (refl, (refl, (refl, tt))))))))))))))
