-- Where a tick takes a car: systems/movement.rs, the motion of run and of tick_manual.
use Rattle.std.specs.Prelude.{false, cond, List, ℕ, Float}
use Rattle.std.specs.Float.{binary64}
use Rattle.std.specs.Float.Ieee.{sub, mul, lt}
use Rattle.float.specs.Float as Float
use Rattle.float.specs.Float.{epsilon, abs}
use Rattle.motion.specs.Cyclic.{wrap_position}
use Rattle.motion.specs.Movement.{moved_to, tick_movement, tick_movement_cyclic, headway_clamp_target}
use Rattle.motion_velocity.specs.Velocity.{fma, manual_velocity}
use Rattle.motion.specs.declared.movement.MovementResult.{MovementResult}
use Rattle.world.specs.World.{stop_position}
use Rattle.world.specs.With.{with_position_and_velocity}
use Rattle.world.specs.declared.Car.{Car}
use Rattle.world.specs.declared.Table.{Table}
use Rattle.world.specs.declared.Motion.{Motion}
use Rattle.world.specs.declared.LineKind.{LineKind}
use Rattle.world.specs.declared.LineKind.TheVariants.{Linear, Loop}
use Rattle.std.specs.declared.option.Option.{Option}
use Rattle.std.specs.declared.option.Option.TheVariants.{None, Some}
use Rattle.move_leader.specs.Leader.{loop_leader_pos}
use Rattle.turn.specs.Steps.{is_inspection}
use Rattle.move_trip.specs.declared.Trip.{Trip}
use Rattle.move_landing.specs.declared.Landed.{Landed}
use Rattle.move_trip.specs.declared.Trip.TheVariants.{Rests, Drives, GoesTo, Repositions}

-- "On a loop the leader is the other car of the line": loop_leader_pos, on positions already updated
abbrev pub leader_position : LineKind → Table Car 16 → ℕ → Car → Option Float
leader_position Linear cars i c = None
leader_position (Loop circumference headway) cars i c = loop_leader_pos cars i c.line c.motion.position circumference

-- "Inspection multiplies max speed by the factor"
abbrev pub max_speed_of : Car → Float
max_speed_of c =
    cond
    (is_inspection c.service_mode)
    (mul binary64 c.motion.max_speed c.motion.inspection_speed_factor)
    c.motion.max_speed

-- "its clamp sets the target": run, `effective_target`
abbrev pub effective_target : Option Float → Float → Float → Float → Float → Float
effective_target None pos target headway circumference = target
effective_target (Some leader) pos target headway circumference =
    headway_clamp_target pos leader target headway circumference

-- a car's motion record where a formula has brought it: its position and velocity are set
abbrev pub land : Motion → MovementResult → Landed
land m r = record { motion = with_position_and_velocity m r.position r.velocity; arrived = r.arrived }

-- run, `result`
abbrev pub result_by : LineKind → Option Float → Motion → Float → Float → Float → Landed
result_by Linear ahead m speed target dt =
    land m (tick_movement m.position m.velocity target speed m.acceleration m.deceleration dt)
result_by (Loop circumference headway) ahead m speed target dt =
    let clamped = effective_target ahead m.position target headway circumference in
    land m (tick_movement_cyclic m.position m.velocity clamped speed m.acceleration m.deceleration dt circumference)

-- manual_target_velocity.unwrap_or(0.0)
abbrev pub wanted_velocity : Option Float → Float
wanted_velocity None = Float.zero
wanted_velocity (Some v) = v

-- tick_manual, `was_clamped`: velocity 0 where the landing was pulled back
abbrev pub held_velocity : Float → Float → Float → Float
held_velocity clamped wrapped velocity = cond (lt epsilon (abs (sub binary64 clamped wrapped))) Float.zero velocity

-- tick_manual, on a loop: the landing behind the leader
abbrev pub behind : Option Float → Motion → Float → Float → Float → Float → Landed
behind None m wrapped velocity headway circumference = land m (moved_to wrapped velocity)
behind (Some leader) m wrapped velocity headway circumference =
    let clamped = headway_clamp_target m.position leader wrapped headway circumference in
    land m (moved_to clamped (held_velocity clamped wrapped velocity))

-- tick_manual, from `raw_new_pos` on
abbrev pub driven_by : LineKind → Option Float → Motion → Float → Float → Landed
driven_by Linear ahead m raw velocity = land m (moved_to raw velocity)
driven_by (Loop circumference headway) ahead m raw velocity =
    behind ahead m (wrap_position raw circumference) velocity headway circumference

-- tick_manual, `new_vel` before the loop's landing
abbrev pub manual_speed : Motion → Float → Float → Float
manual_speed m wanted dt = manual_velocity wanted m.velocity m.max_speed m.acceleration m.deceleration dt

-- tick_manual: position and velocity; no Manual car arrives
abbrev pub driven : LineKind → Option Float → Motion → Float → Float → Landed
driven kind leader m wanted dt =
    let velocity = manual_speed m wanted dt in
    driven_by kind leader m (fma velocity dt m.position) velocity

-- a car's landing
abbrev pub landing : Trip → LineKind → Option Float → Car → List Float → Float → Landed
landing Rests kind ahead c stops dt = record { motion = c.motion; arrived = false }
landing Drives kind ahead c stops dt = driven kind ahead c.motion (wanted_velocity c.manual_target_velocity) dt
landing (GoesTo s) kind ahead c stops dt =
    result_by kind ahead c.motion (max_speed_of c) (stop_position stops s) dt
landing (Repositions s) kind ahead c stops dt =
    result_by kind ahead c.motion (max_speed_of c) (stop_position stops s) dt
