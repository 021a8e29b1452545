-- The certificate's third condition over calls that were lent one world in turn: said of what they were given and what
-- they gave, their words, answers, worlds and logs.
use Rattle.std.specs.Prelude.{◌≡◌, Bool, true, false, ◌&&◌, cond, List, [], ◌∷◌, ◌++◌, ℕ, ◌<◌, eqb, take}
use Rattle.door.specs.Door.{is_closed}
use Rattle.world.specs.World.{car_at}
use Rattle.world.specs.declared.World.{World}
use Rattle.layout.specs.Layout.{kind_of, v_of}
use Rattle.record.specs.Record.{is_accepted, written_of}
use Rattle.record.specs.Calls.{Empty, head_word}
use Rattle.claim_certificate.specs.Certificate.{position_of, LogHolds, TotalsHold}
use Rattle.record_lent.specs.Lent.{LentCall, InTurn, world_left}

-- a call whose answer accepted a record of that kind
abbrev pub is_lent_kind : ℕ → LentCall → Bool
is_lent_kind k m = is_accepted m.gave.answer && eqb (kind_of (head_word m.call)) k

-- "A tick is an accepted record of kind C."
abbrev pub is_lent_tick : LentCall → Bool
is_lent_tick m = is_lent_kind 12 m

-- "A car is put into Manual mode by an accepted record of kind 6 with v 3."
abbrev pub is_lent_manual : LentCall → Bool
is_lent_manual m = is_lent_kind 6 m && eqb (v_of (head_word m.call)) 3

-- no call of the list has put a car into Manual mode
unfoldable pub LentNoManual : List LentCall → Type 0
LentNoManual [] = Unit {0}
LentNoManual (m ∷ ms) = (is_lent_manual m ≡ false) × LentNoManual ms

-- no tick has changed the position of a car whose door was not closed when it began: from "the world given to the tick"
-- to "the one it leaves"
unfoldable pub LentDoorsHold : World → List LentCall → Type 0
LentDoorsHold w [] = Unit {0}
LentDoorsHold w (m ∷ ms) =
    (is_lent_tick m ≡ true → (i : ℕ) → i < w.cars.count → is_closed (car_at w.cars.items i).door ≡ false
    → position_of m.gave.world i ≡ position_of w i)
    × LentDoorsHold m.gave.world ms

-- "from each as many words from its log's start as the answer says were written, as the call left them"
abbrev pub lent_words_written : LentCall → List ℕ
lent_words_written m = cond (is_lent_tick m) (take (written_of m.gave.answer) m.gave.log) []

-- "The joined log takes the ticks in order"
unfoldable pub lent_joined : List LentCall → List ℕ
lent_joined [] = []
lent_joined (m ∷ ms) = lent_words_written m ++ lent_joined ms

-- the three parts
pub record LentHolds (w : World) (ms : List LentCall) : Type 0 where
  pub doors : LentDoorsHold w ms
  pub log : LogHolds (lent_joined ms)
  pub totals : TotalsHold (world_left w ms) (lent_joined ms)

-- for every list of calls that were lent an empty world in turn, none of which has put a car into Manual mode
unfoldable pub ThirdLent : Type 0
ThirdLent = (w : World) → Empty w → (ms : List LentCall) → InTurn w ms → LentNoManual ms → LentHolds w ms
