-- fp.rs (deterministic-fp), tick_movement's new velocity of movement.rs and tick_manual's, over the logic's IEEE 754.
-- Each operation rounds once.
use Rattle.std.specs.Prelude.{◌&&◌, ◌||◌, cond, Float}
use Rattle.std.specs.Float.{binary64}
use Rattle.std.specs.Float.Ieee.{add, sub, mul, div, neg, lt, le}
use Rattle.float.specs.Float.{zero, two, epsilon, abs, signum, max, clamp}

-- fp.rs, fma: a product rounded, then a sum rounded
abbrev pub fma : Float → Float → Float → Float
fma a b c = add binary64 (mul binary64 a b) c

-- movement.rs, tick_movement's arm "Decelerate"
unfoldable pub decelerated : Float → Float → Float → Float
decelerated velocity safe_decel dt =
    let v = fma (mul binary64 (neg safe_decel) dt) (signum velocity) velocity in
    cond ((lt zero velocity && lt v zero) || (lt velocity zero && lt zero v)) zero v

-- movement.rs, tick_movement's arm "Accelerate toward target"
unfoldable pub accelerated : Float → Float → Float → Float → Float → Float
accelerated velocity sign max_speed acceleration dt =
    let v = fma (mul binary64 acceleration dt) sign velocity in
    cond (lt max_speed (abs v)) (mul binary64 sign max_speed) v

-- movement.rs, tick_movement's `new_velocity`
unfoldable pub new_velocity : Float → Float → Float → Float → Float → Float → Float → Float
new_velocity displacement sign velocity max_speed acceleration deceleration dt =
    let distance_remaining = abs displacement in
    let speed = abs velocity in
    let safe_decel = max deceleration epsilon in
    let stopping_distance = div binary64 (mul binary64 speed speed) (mul binary64 two safe_decel) in
    let opposing = lt (mul binary64 velocity sign) zero in
    cond
    (opposing || le (sub binary64 distance_remaining epsilon) stopping_distance)
    (decelerated velocity safe_decel dt)
    (cond (lt speed max_speed) (accelerated velocity sign max_speed acceleration dt) (mul binary64 sign max_speed))

-- systems/movement.rs, tick_manual: from `target.clamp` to `new_vel`. The Rust's clamp panics at a max speed below 0
-- or NaN, which no record brings.
unfoldable pub manual_velocity : Float → Float → Float → Float → Float → Float → Float
manual_velocity wanted vel max_speed accel decel dt =
    let target = clamp wanted (neg max_speed) max_speed in
    let slowing = lt (abs target) (abs vel) || lt (mul binary64 (signum target) (signum vel)) zero in
    let rate = cond slowing decel accel in
    let dv_max = mul binary64 rate dt in
    cond
    (le (abs (sub binary64 target vel)) dv_max)
    target
    (cond (lt vel target) (add binary64 vel dv_max) (sub binary64 vel dv_max))
