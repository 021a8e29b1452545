-- The record call on a lent world: what it answers and what it leaves, by the definition of the by-value call; and
-- that lists of these calls are the certificate's lists.
use Rattle.std.specs.Prelude.{◌≡◌, true, List, [], ◌∷◌, ℕ, Ok, Err}
use Rattle.world.specs.World.{empty_world}
use Rattle.world.specs.declared.World.{World}
use Rattle.world.specs.declared.refusal.Refusal.TheVariants.{LogShort}
use Rattle.std.specs.declared.option.Option.TheVariants.{None, Some}
use Rattle.record.specs.Record.{Answer, Outcome, answer_numbers, record_of}
use Rattle.record.specs.Calls.{RecordCall, outcome, next_world, world_after}
use Rattle.claim_conditions.specs.Conditions.{Kept}

-- a call that is lent the world `w`, the words and the log: its answer, the world and the log as it leaves them
pub record Lent (w : World) (words lent : List ℕ) (a : Answer) (w' : World) (lent' : List ℕ) : Type 0 where
  pub answer : a ≡ (record_of w words lent).answer
  pub numbers : answer_numbers a ≡ answer_numbers (record_of w words lent).answer
  pub world : w' ≡ (record_of w words lent).world
  pub log : lent' ≡ (record_of w words lent).log

-- ---- lists of lent calls

-- one that was made: what it was given, and what it gave
pub record LentCall : Type 0 where
  pub call : RecordCall
  pub gave : Outcome

-- one world is lent to the calls in turn: each finds it as the one before left it
unfoldable pub InTurn : World → List LentCall → Type 0
InTurn w [] = Unit {0}
InTurn w (m ∷ ms) = Lent w m.call.words m.call.log m.gave.answer m.gave.world m.gave.log × InTurn m.gave.world ms

-- what the calls were given
unfoldable pub calls_given : List LentCall → List RecordCall
calls_given [] = []
calls_given (m ∷ ms) = m.call ∷ calls_given ms

-- what they gave
unfoldable pub outcomes_of : List LentCall → List Outcome
outcomes_of [] = []
outcomes_of (m ∷ ms) = m.gave ∷ outcomes_of ms

-- the world that is there at the end
unfoldable pub world_left : World → List LentCall → World
world_left w [] = w
world_left w (m ∷ ms) = world_left m.gave.world ms

-- what a list of calls gives by the definitions that the certificate uses
unfoldable pub outcomes : World → List RecordCall → List Outcome
outcomes w [] = []
outcomes w (c ∷ cs) = outcome w c ∷ outcomes (next_world w c) cs

-- The certificate's calls are these calls: lent in turn, they give what its definitions give, and leave the world
-- that `world_after` is.
pub record AsCalled (w : World) (ms : List LentCall) : Type 0 where
  pub each : outcomes_of ms ≡ outcomes w (calls_given ms)
  pub last : world_left w ms ≡ world_after w (calls_given ms)

-- the first condition, of a lent call
abbrev pub FirstLent : Type 0
FirstLent = (w : World) (m : LentCall) → InTurn w (m ∷ []) → Kept w m.call.words m.call.log m.gave

-- ---- three calls in turn, by computing: an empty world is lent to its start, to a tick whose log has no room, and
-- to the tick again with a log of one word

abbrev pub half_tick : List ℕ
half_tick = 0xc000_0000 ∷ 0x3fe0_0000 ∷ 0 ∷ []

abbrev pub three_calls : Outcome → Outcome → Outcome → List LentCall
three_calls a b c =
    record { call = record { words = 0xd000_0000 ∷ []; log = [] }; gave = a }
    ∷ record { call = record { words = half_tick; log = [] }; gave = b }
    ∷ record { call = record { words = half_tick; log = 7 ∷ [] }; gave = c }
    ∷ []

pub record Three (a b c : Outcome) : Type 0 where
  -- an accepted record leaves the next world
  pub accepted : a.answer ≡ Ok (record { used = 1; written = 0 })
  pub one_word : answer_numbers a.answer ≡ record { refusal = None; used = 1; written = 0 }
  pub started : a.world.started ≡ true
  -- a refused one the old
  pub refused : b.answer ≡ Err LogShort
  pub number_12 : answer_numbers b.answer ≡ record { refusal = Some 12; used = 0; written = 0 }
  pub waits : b.world.ticks ≡ 0
  -- a tick's word is in the log
  pub ticked : c.answer ≡ Ok (record { used = 3; written = 1 })
  pub three_words : answer_numbers c.answer ≡ record { refusal = None; used = 3; written = 1 }
  pub ticks : c.world.ticks ≡ 1
  pub word : c.log ≡ 0 ∷ []

abbrev pub Shown : Type 0
Shown = (a b c : Outcome) → InTurn empty_world (three_calls a b c) → Three a b c

unfoldable pub LentCallsHold : Type 0
LentCallsHold = ((w : World) (ms : List LentCall) → InTurn w ms → AsCalled w ms) × FirstLent × Shown
