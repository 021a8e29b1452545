-- One more record of a tape: by the call's first condition it uses no more words than are left and the log keeps its
-- length, and what the call gives is the definition's next. Assumes nothing.
use Rattle.std.proofs.Common.{◌≡◌, ℕ, ◌+◌, ◌-◌, ◌≤◌, List, length, take, drop, refl, add-one, arith, length-drop, take_all}
use Rattle.world.specs.World.{empty_world}
use Rattle.world.specs.declared.World.{World}
use Rattle.record.specs.Record.{Answer, Outcome, record_of, used_of, written_of}
use Rattle.claim_conditions.specs.Conditions.{FirstCondition}
use Rattle.claim_conditions.proofs.Answering.{first_condition}
use Rattle.laws.specs.Numbers.{plus}
use Rattle.test_beside_ticks.specs.Bench.{played_to}
use Rattle.test_beside_ticks.specs.Parts.{ProgressReached}

-- before the first
pub begins : (words log : List ℕ) {w : World} → w ≡ empty_world → ProgressReached (played_to words log 0) w log 0 0
unfolding played_to
begins words log e = record { world = e; log = refl; used = refl; written = refl }

-- the code's words from a place on
rest_of : (words : List ℕ) (from : ℕ) → take (length words - from) (drop from words) ≡ drop from words
rest_of words from = take_all (length words - from) (drop from words) (rw length-drop (omega arith))

-- one more, by what the call gives
module _ (w : World) (words log : List ℕ) (from : ℕ) where
  abbrev Made : Outcome
  Made = record_of w (take (length words - from) (drop from words)) log

  -- it uses no more words than are left
  pub within : {answer : Answer} {used : ℕ} → answer ≡ Made.answer → from ≤ length words → used ≡ used_of answer
      → from + used ≤ length words
  unfolding FirstCondition
  within o h e = rw (e, o, rest_of) (omega (arith, h, rw length-drop at (first_condition w (drop from words) log).used))

  -- the log keeps its length
  pub stays : {left : List ℕ} → left ≡ Made.log → length left ≡ length log
  unfolding FirstCondition
  stays l = rw (l, rest_of) (first_condition w (drop from words) log).size

  pub again : (lent : List ℕ) (n : ℕ) {answer : Answer} {after : World} {left : List ℕ} {told used written : ℕ}
      → ProgressReached (played_to words lent n) w log from told
      → answer ≡ Made.answer
      → after ≡ Made.world
      → left ≡ Made.log
      → used ≡ used_of answer
      → written ≡ written_of answer
      → ProgressReached (played_to words lent (n + 1)) after left (from + used) (plus told written)
  unfolding played_to
  again lent n g a b l e f =
      rw (add-one, ← g.world, ← g.log, ← g.used, ← g.written, ← rest_of words from)
      (record { world = b; log = l; used = rw (e, a) refl; written = rw (f, a) refl })
