-- No list of calls from the empty world leaves a broken one: that world is sound, each record keeps it so, and a sound
-- world is not broken. Assumes nothing.
use mathlib.Core.List.{List, [], ◌∷◌}
use native.Mathlib.Omega.{arith}
use Rattle.world.specs.declared.World.{World}
use Rattle.record.specs.Calls.{Empty, RecordCall, outcome, next_world, world_after}
use Rattle.claim_unbroken.specs.NeverBroken.{Unbroken, NeverBroken}
use Rattle.claim_unbroken.proofs.Worlds.{Sound}
use Rattle.claim_unbroken.proofs.Whole.{whole}
use Rattle.claim_unbroken.proofs.Records.{Good, record_good}

call_good : (w : World) (c : RecordCall) → Sound w → Good (outcome w c)
unfolding outcome
call_good w c h = record_good w c.words c.log h

calls_sound : (calls : List RecordCall) (w : World) → Sound w → Sound (world_after w calls)
unfolding world_after next_world
calls_sound [] w h = h
calls_sound (c ∷ cs) w h = calls_sound cs (next_world w c) (call_good w c h).world

unbroken : (w : World) → Sound w → Unbroken w
unbroken w h = record { world = rw (whole w h); answer = λ c e. let z = rw e at (call_good w c h).answer in omega arith }

empty_sound : (w : World) → Empty w → Sound w
empty_sound w e = record {
  shape =
      record {
        plan = record { low = omega (arith, e.stops); few = omega (arith, e.lines); each = λ i l. absurd (omega (arith, e.lines, l)) };
        cars = record { few = omega (arith, e.cars); each = λ i l. absurd (omega (arith, e.cars, l)) };
        riders = record { few = omega (arith, e.riders); each = λ i l. absurd (omega (arith, e.riders, l)) };
        calls = record { up = rw (e.up, e.stops) (omega arith); down = rw (e.down, e.stops) (omega arith) };
      };
  counters = record { time = omega (arith, e.ticks); sum = omega (arith, e.moves); each = λ i l. absurd (omega (arith, e.cars, l)) };
}

pub never_broken : NeverBroken
unfolding NeverBroken
never_broken w e calls = unbroken (world_after w calls) (calls_sound calls w (empty_sound w e))
