-- Hall calls are sets: claims about the definitions of specs/Calls.antt, whatever number the calls are.
-- The function `sets` carries them.
use Rattle.std.specs.Prelude.{◌≡◌, not, ◌&&◌, ◌||◌, ℕ, ◌<◌, eqb}
use Rattle.world_call_sets.specs.Calls.{is_called, pressed, cleared}

-- "9 hall call": after pressing at one of the 64 stops, a call is in the set exactly if it was or is the one pressed
unfoldable pub Pressing : Type 0
Pressing = (calls p s : ℕ) → p < 64 → is_called (pressed calls p) s ≡ (is_called calls s || eqb s p)

-- "Pressing twice is one call."
unfoldable pub PressingTwice : Type 0
PressingTwice = (calls p : ℕ) → pressed (pressed calls p) p ≡ pressed calls p

-- "Hall calls clear after all cars": after clearing, a call is in the set exactly if it was and is not the one cleared
unfoldable pub Clearing : Type 0
Clearing = (calls p s : ℕ) → is_called (cleared calls p) s ≡ (is_called calls s && not (eqb s p))

-- all of them
pub record Sets : Type 0 where
  pub pressing : Pressing
  pub twice : PressingTwice
  pub clearing : Clearing
