-- Refusal 0: "Records never make one."
use Rattle.std.specs.Prelude.{◌≡◌, false, List, Err}
use Rattle.world_sound.specs.Sound.{is_broken}
use Rattle.world.specs.declared.World.{World}
use Rattle.world.specs.declared.refusal.Refusal.TheVariants.{BrokenWorld}
use Rattle.record.specs.Calls.{Empty, RecordCall, outcome, world_after}

-- a world that is not broken, so that no call in it, whatever its words and log, is refused 0
pub record Unbroken (w : World) : Type 0 where
  pub world : is_broken w ≡ false
  pub answer : (c : RecordCall) → (outcome w c).answer ≡ Err BrokenWorld → ⊥

-- every list of calls from an empty world leaves such a world: any words, any logs, Manual mode too
unfoldable pub NeverBroken : Type 0
NeverBroken = (w : World) → Empty w → (calls : List RecordCall) → Unbroken (world_after w calls)
