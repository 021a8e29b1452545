-- The room that a tick asks for is the paper's number wherever refusal 0 is not given. The function `paper_room`
-- carries it.
use Rattle.std.specs.Prelude.{◌≡◌, false, ◌+◌, ◌*◌}
use Rattle.world_sound.specs.Sound.{is_broken}
use Rattle.world.specs.declared.World.{World}
use Rattle.tick.specs.Room.{room_for}

-- "cars × (stops + 14) + 1"
unfoldable pub PaperRoom : Type 0
PaperRoom =
    (w : World) → is_broken w ≡ false
    → room_for w.cars.count w.stops.count ≡ w.cars.count * (w.stops.count + 14) + 1
