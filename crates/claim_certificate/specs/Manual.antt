-- With Manual mode: the totals hold for every list of calls, and both door parts for each car that no accepted record
-- of the list puts into Manual mode. The third condition follows from it.
use Rattle.std.specs.Prelude.{◌≡◌, Bool, true, false, ◌&&◌, List, [], ◌∷◌, ℕ, ◌<◌, eqb}
use Rattle.door.specs.Door.{is_closed}
use Rattle.world.specs.World.{car_at}
use Rattle.world.specs.declared.World.{World}
use Rattle.layout.specs.Layout.{n_of}
use Rattle.record.specs.Calls.{Empty, RecordCall, next_world, head_word, world_after}
use Rattle.claim_certificate.specs.Certificate.{is_tick, is_manual_record, position_of, joined, MoveWhileOpen, TotalsHold}

-- the car that the record puts into Manual mode is n: "6 mode: n car"
abbrev pub is_manual_record_of : World → RecordCall → ℕ → Bool
is_manual_record_of w c n = is_manual_record w c && eqb (n_of (head_word c)) n

-- no accepted record of the list puts car n into Manual mode
unfoldable pub NeverManual : World → List RecordCall → ℕ → Type 0
NeverManual w [] n = Unit {0}
NeverManual w (c ∷ cs) n = (is_manual_record_of w c n ≡ false) × NeverManual (next_world w c) cs n

-- no tick has changed the position of car n where its door was not closed when the tick began
unfoldable pub CarDoorHolds : World → List RecordCall → ℕ → Type 0
CarDoorHolds w [] n = Unit {0}
CarDoorHolds w (c ∷ cs) n =
    (is_tick w c ≡ true → n < w.cars.count → is_closed (car_at w.cars.items n).door ≡ false
    → position_of (next_world w c) n ≡ position_of w n)
    × CarDoorHolds (next_world w c) cs n

-- both door parts, of car n
pub record CarHolds (w : World) (calls : List RecordCall) (n : ℕ) : Type 0 where
  pub door : CarDoorHolds w calls n
  pub log : MoveWhileOpen n (joined w calls) → ⊥

-- the totals, and the door parts of each car that is never put into Manual mode
pub record AnyHolds (w : World) (calls : List RecordCall) : Type 0 where
  pub totals : TotalsHold (world_after w calls) (joined w calls)
  pub cars : (n : ℕ) → NeverManual w calls n → CarHolds w calls n

-- for every list of calls from an empty world
unfoldable pub WithManual : Type 0
WithManual = (w : World) → Empty w → (calls : List RecordCall) → AnyHolds w calls
