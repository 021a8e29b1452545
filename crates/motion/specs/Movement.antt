-- movement.rs (loop_lines), over the logic's IEEE 754. Each operation rounds once.
use Rattle.std.specs.Prelude.{true, false, not, ◌&&◌, ◌||◌, cond, Float}
use Rattle.std.specs.Float.{binary64}
use Rattle.std.specs.Float.Ieee.{add, sub, mul, div, lt, le}
use Rattle.float.specs.Float.{zero, two, epsilon, abs, signum, is_finite, max}
use Rattle.motion.specs.Cyclic.{is_degenerate, wrap_position, forward_distance}
use Rattle.motion.specs.declared.movement.MovementResult.{MovementResult}
use Rattle.motion_velocity.specs.Velocity.{fma, new_velocity}

-- movement.rs, braking_distance
unfoldable pub braking_distance : Float → Float → Float
braking_distance velocity deceleration =
    let speed = abs velocity in
    cond (le deceleration zero) zero (div binary64 (mul binary64 speed speed) (mul binary64 two deceleration))

-- movement.rs, tick_movement's answer on arrival
abbrev pub arrived_at : Float → MovementResult
arrived_at target = record { position = target; velocity = zero; arrived = true }

-- its answer where the car has not arrived
abbrev pub moved_to : Float → Float → MovementResult
moved_to position velocity = record { position = position; velocity = velocity; arrived = false }

-- movement.rs, tick_movement
unfoldable pub tick_movement : Float → Float → Float → Float → Float → Float → Float → MovementResult
tick_movement position velocity target_position max_speed acceleration deceleration dt =
    let displacement = sub binary64 target_position position in
    let sign = signum displacement in
    let new_v = new_velocity displacement sign velocity max_speed acceleration deceleration dt in
    let new_pos = fma new_v dt position in
    let new_displacement = sub binary64 target_position new_pos in
    cond
    (lt (abs displacement) epsilon && lt (abs velocity) epsilon)
    (arrived_at target_position)
    (cond
    (lt (abs new_displacement) epsilon || lt epsilon (abs (sub binary64 (signum new_displacement) sign)))
    (arrived_at target_position)
    (record { position = new_pos; velocity = new_v; arrived = false }))

-- movement.rs, tick_movement_cyclic
unfoldable pub tick_movement_cyclic : Float → Float → Float → Float → Float → Float → Float → Float → MovementResult
tick_movement_cyclic position velocity target_position max_speed acceleration deceleration dt circumference =
    let pos = wrap_position position circumference in
    let target = wrap_position target_position circumference in
    let fwd = forward_distance pos target circumference in
    let linear = tick_movement zero velocity fwd max_speed acceleration deceleration dt in
    cond
    (is_degenerate circumference)
    (record { position = position; velocity = zero; arrived = false })
    (cond
    linear.arrived
    (arrived_at target)
    (record {
      position = wrap_position (add binary64 pos linear.position) circumference;
      velocity = linear.velocity;
      arrived = false;
    }))

-- movement.rs, headway_clamp_target
unfoldable pub headway_clamp_target : Float → Float → Float → Float → Float → Float
headway_clamp_target trailer_position leader_position intended_target min_headway circumference =
    let trailer = wrap_position trailer_position circumference in
    let leader = wrap_position leader_position circumference in
    let intended = wrap_position intended_target circumference in
    let gap = forward_distance trailer leader circumference in
    let safe_advance = max (sub binary64 gap min_headway) zero in
    let intended_advance = forward_distance trailer intended circumference in
    cond
    (is_degenerate circumference || not (is_finite min_headway))
    intended_target
    (cond (le intended_advance safe_advance) intended (wrap_position (add binary64 trailer safe_advance) circumference))
