-- Parts of the code, on which no promise of the library rests: where the bench's loops stand.
use Rattle.std.specs.Prelude.{◌≡◌, ℕ, List}
use Rattle.world.specs.declared.World.{World}
use Rattle.test_beside_ticks.specs.Bench.{Progress}

-- the code stands there
pub record ProgressReached (p : Progress) (w : World) (left : List ℕ) (from told : ℕ) : Type 0 where
  pub world : w ≡ p.world
  pub log : left ≡ p.log
  pub used : from ≡ p.used
  pub written : told ≡ p.written
