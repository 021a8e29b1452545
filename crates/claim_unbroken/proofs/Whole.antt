-- A sound world is not broken: each test of refusal 0 fails by its part of soundness; 2 ^ 28 ticks of 1,024 moves are
-- not past the limit. Assumes nothing.
use mathlib.Core.Path.{◌≡◌}
use mathlib.Core.Bool.{false}
use Prim.Native.Nat.{ℕ, ◌^◌, ◌<◌}
use native.Mathlib.Omega.{arith}
use lib.ListN.{get_or}
use borrow.Author.Tests.{le-ltb, lt-leb}
use Rattle.world_sound_rows.specs.Rows.{is_unloaded, is_line_broken, is_car_broken, is_rider_broken}
use Rattle.world_sound.specs.Sound.{has_broken_count, is_broken}
use Rattle.world.specs.World.{line_at, car_at, rider_at}
use Rattle.world.specs.declared.World.{World}
use Rattle.world.specs.declared.Car.{Car}
use Rattle.world_sound_rows.proofs.AnyTo.{none_to}
use Rattle.claim_unbroken.proofs.Turns.{CarIn}
use Rattle.claim_unbroken.proofs.Worlds.{Sound}

car_whole : (lines stops : ℕ) (c : Car) → CarIn lines stops c → c.move_count < 2 ^ 48 → is_car_broken lines stops c ≡ false
unfolding is_car_broken
car_whole lines stops c h low =
    rw (
      le-ltb 8 c.destination_queue.count h.queue.few,
      le-ltb 8 c.door_command_queue.count h.commands,
      lt-leb (2 ^ 48) c.move_count low,
      lt-leb lines c.line h.line,
      h.phase,
      h.target,
    )
    (none_to (λ k. is_unloaded stops (get_or c.destination_queue.items k 0)) c.destination_queue.count h.queue.loaded)

counts_whole : (w : World) → Sound w → has_broken_count w ≡ false
unfolding has_broken_count
counts_whole w h =
    rw (
      le-ltb 64 w.stops.count h.shape.plan.low,
      le-ltb 8 w.lines.count h.shape.plan.few,
      le-ltb 16 w.cars.count h.shape.cars.few,
      le-ltb 128 w.riders.count h.shape.riders.few,
      le-ltb (2 ^ 28) w.ticks h.counters.time,
      lt-leb (2 ^ 48) w.total_moves (omega (arith, h.counters.sum, h.counters.time)),
    )

pub whole : (w : World) → Sound w → is_broken w ≡ false
unfolding is_broken
whole w h =
    rw (
      counts_whole w h,
      none_to (λ i. is_line_broken w.stops.count (line_at w.lines.items i)) w.lines.count h.shape.plan.each,
      none_to (λ i. is_car_broken w.lines.count w.stops.count (car_at w.cars.items i)) w.cars.count cars,
      none_to (λ i. is_rider_broken w.stops.count w.cars.count (rider_at w.riders.items i)) w.riders.count h.shape.riders.each,
      lt-leb (2 ^ w.stops.count) w.calls.up h.shape.calls.up,
      lt-leb (2 ^ w.stops.count) w.calls.down h.shape.calls.down,
    )
  where
    cars : (i : ℕ) → i < w.cars.count → is_car_broken w.lines.count w.stops.count (car_at w.cars.items i) ≡ false
    cars i l =
        car_whole w.lines.count w.stops.count (car_at w.cars.items i) (h.shape.cars.each i l) (omega (arith, h.counters.each i l, h.counters.time))
