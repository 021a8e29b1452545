-- Two lists of calls, by computing: one of which the third condition speaks, and one that shows what Manual mode does.
use Rattle.std.specs.Prelude.{◌≡◌, true, false, List, [], ◌∷◌, ◌++◌, ℕ, replicate}
use Rattle.door.specs.Door.{is_closed}
use Rattle.world.specs.World.{car_at, empty_world}
use Rattle.record.specs.Calls.{Empty, RecordCall, world_after}
use Rattle.claim_certificate.specs.Certificate.{is_tick, NoManual, DoorsHold, joined, LogHolds}

-- ---- calls, each with a log of n words that holds sevens before

abbrev call_lent : ℕ → List ℕ → RecordCall
call_lent n words = record { words = words; log = replicate n 7 }

-- three stops and a car need 18 words
abbrev record_call : List ℕ → RecordCall
record_call words = call_lent 18 words

-- car 0 on line 0, at 0 with velocity 0, max 2, rates 1, factor 1, both ticks 1
abbrev car_load : RecordCall
car_load =
    record_call (0x3000_0000 ∷ 0 ∷ 0 ∷ 0 ∷ 0 ∷ 0x4000_0000 ∷ 0
    ∷ 0x3ff0_0000 ∷ 0 ∷ 0x3ff0_0000 ∷ 0 ∷ 0x3ff0_0000 ∷ 0 ∷ 1 ∷ 1 ∷ [])

-- line 0, linear without a list
abbrev line_load : RecordCall
line_load = record_call (0x1000_ffff ∷ 0 ∷ 0 ∷ 0 ∷ 0 ∷ [])

-- a stop's head, and the high half of its position
abbrev stop_load : ℕ → ℕ → RecordCall
stop_load head high = record_call (head ∷ high ∷ 0 ∷ [])

-- a tick of 0.5, and one of 0.25
abbrev half_tick : List ℕ
half_tick = 0xc000_0000 ∷ 0x3fe0_0000 ∷ 0 ∷ []

abbrev quarter_tick : List ℕ
quarter_tick = 0xc000_0000 ∷ 0x3fd0_0000 ∷ 0 ∷ []

-- ---- document 01's tape with one more stop, and the way back

-- stops 0 at 0, 1 at 0.25 and 2 at 0.21875; line, car and start; send to 1; the first tick
abbrev departure : List RecordCall
departure =
    stop_load 0x2000_0000 0 ∷ stop_load 0x2001_0000 0x3fd0_0000 ∷ stop_load 0x2002_0000 0x3fcc_0000
    ∷ line_load ∷ car_load ∷ record_call (0xd000_0000 ∷ [])
    ∷ record_call (0x5001_0000 ∷ []) ∷ record_call half_tick ∷ []

-- a tick refused for its log of 17 words; three ticks; repositioned to stop 0, past stop 2
abbrev return : List RecordCall
return =
    call_lent 17 half_tick ∷ record_call half_tick ∷ record_call half_tick ∷ record_call half_tick
    ∷ record_call (0x5000_0001 ∷ []) ∷ record_call quarter_tick ∷ record_call half_tick ∷ []

abbrev tape_calls : List RecordCall
tape_calls = departure ++ return

-- ---- a car in Manual mode: stops 0 at 0 and 1 at 0.125; its door opens, it is put into Manual mode with speed 1,
-- and drives

abbrev manual_calls : List RecordCall
manual_calls =
    stop_load 0x2000_0000 0 ∷ stop_load 0x2001_0000 0x3fc0_0000 ∷ line_load ∷ car_load ∷ record_call (0xd000_0000 ∷ [])
    ∷ record_call (0x8000_0000 ∷ []) ∷ record_call half_tick
    ∷ record_call (0x6000_0003 ∷ []) ∷ record_call (0x7000_0001 ∷ 0x3ff0_0000 ∷ 0 ∷ []) ∷ record_call half_tick ∷ []

pub record Examples : Type 0 where
  -- the condition speaks of the tape from the empty world; in it a car arrives, opens, closes, passes a stop and is
  -- repositioned; three moves
  pub empty : Empty empty_world
  pub tame : NoManual empty_world tape_calls
  pub log : joined empty_world tape_calls
      ≡ 0x0000_0000 ∷ 0x2001_0000 ∷ 0x6000_0000 ∷ 0x0000_0001 ∷ 0x0000_0002 ∷ 0x7000_0000 ∷ 0x0000_0003
      ∷ 0x0000_0004 ∷ 0x1002_0000 ∷ 0x0000_0005 ∷ 0x3000_0000 ∷ 0x4000_0000 ∷ []
  pub moves : (world_after empty_world tape_calls).total_moves ≡ 3
  -- the tape's second tick begins with a door that is not closed
  pub ticks : is_tick (world_after empty_world departure) (record_call half_tick) ≡ true
  pub ajar : is_closed (car_at (world_after empty_world departure).cars.items 0).door ≡ false
  -- with a car in Manual mode, which passes stop 1 with its door open, two of its parts do not hold
  pub puts : NoManual empty_world manual_calls → ⊥
  pub drives : joined empty_world manual_calls
      ≡ 0x0000_0000 ∷ 0xa000_0000 ∷ 0x6000_0000 ∷ 0x0000_0001 ∷ 0x1001_0001 ∷ []
  pub doors : DoorsHold empty_world manual_calls → ⊥
  pub words : LogHolds (joined empty_world manual_calls) → ⊥
