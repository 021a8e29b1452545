-- The room that a tick asks for, in a world that is not broken: its counts fit their tables, so none is cut. Assumes
-- nothing.
use mathlib.Core.Path.{◌≡◌, refl, sym, ◌∙◌}
use mathlib.Core.Bool.{Bool, true, false}
use Prim.Native.Nat.{ℕ, ◌+◌, ◌*◌, ◌≤◌, min}
use native.Mathlib.Nat.{mul-le-mul}
use native.Mathlib.Omega.{arith}
use Rattle.laws.proofs.Bools.{yes}
use Rattle.world_sound.specs.Sound.{is_broken, has_broken_count}
use Rattle.world_sound.proofs.Unbroken.{Counts, counts_fit}
use Rattle.world.specs.declared.World.{World}
use Rattle.record_kinds.specs.PaperRoom.{PaperRoom}

broken_counts : (w : World) → has_broken_count w ≡ true → is_broken w ≡ true
unfolding is_broken
broken_counts w e = rw e refl

whole_counts : (w : World) (b : Bool) → has_broken_count w ≡ b → is_broken w ≡ false → b ≡ false
whole_counts w true e h = yes (sym (broken_counts w e) ∙ h)
whole_counts w false e h = refl

-- a world that is not broken has counts that fit their tables
pub counted : (w : World) → is_broken w ≡ false → Counts w
counted w h = counts_fit w (whole_counts w (has_broken_count w) refl h)

-- the room fits a machine number
pub small : (cars stops : ℕ) → cars ≤ 16 → stops ≤ 64 → cars * (stops + 14) ≤ 16 * 78
small cars stops h k = mul-le-mul {n₁ = cars} {m₁ = stops + 14} {n₂ = 16} {m₂ = 78} h (omega arith)

pub paper_room : PaperRoom
unfolding PaperRoom
paper_room w h =
    let n : Counts w = counted w h in
    let c : min w.cars.count 16 ≡ w.cars.count = omega (arith, n.cars) in
    let s : min w.stops.count 64 ≡ w.stops.count = omega (arith, n.stops) in
    rw (c, s)
