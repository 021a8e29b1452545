-- What a world that is not broken holds: each test of its counts has failed. Assumes nothing.
use mathlib.Core.Path.{◌≡◌}
use mathlib.Core.Bool.{false, ◌||◌}
use Prim.Native.Nat.{◌≤◌, ◌<◌, ◌^◌}
use lib.Dec.{leb, ltb}
use borrow.Author.Tests.{ltb-false, leb-false}
use Rattle.laws.proofs.Bools.{or_left, or_right}
use Rattle.world_sound.specs.Sound.{has_broken_count}
use Rattle.world.specs.declared.World.{World}

-- the counts of a world whose counts are not broken
pub record Counts (w : World) : Type 0 where
  pub stops : w.stops.count ≤ 64
  pub lines : w.lines.count ≤ 8
  pub cars : w.cars.count ≤ 16
  pub riders : w.riders.count ≤ 128
  pub ticks : w.ticks ≤ 2 ^ 28
  pub moves : w.total_moves < 2 ^ 48

pub counts_fit : (w : World) → has_broken_count w ≡ false → Counts w
unfolding has_broken_count
counts_fit w h =
    let a = ltb 64 w.stops.count in
    let b = ltb 8 w.lines.count in
    let c = ltb 16 w.cars.count in
    let d = ltb 128 w.riders.count in
    let e = ltb (2 ^ 28) w.ticks in
    let h5 = or_left (a || b || c || d || e) (leb (2 ^ 48) w.total_moves) h in
    let h4 = or_left (a || b || c || d) e h5 in
    let h3 = or_left (a || b || c) d h4 in
    let h2 = or_left (a || b) c h3 in
    record {
      stops = ltb-false 64 w.stops.count (or_left a b h2);
      lines = ltb-false 8 w.lines.count (or_right a b h2);
      cars = ltb-false 16 w.cars.count (or_right (a || b) c h3);
      riders = ltb-false 128 w.riders.count (or_right (a || b || c) d h4);
      ticks = ltb-false (2 ^ 28) w.ticks (or_right (a || b || c || d) e h5);
      moves = leb-false (2 ^ 48) w.total_moves (or_right (a || b || c || d || e) (leb (2 ^ 48) w.total_moves) h);
    }
