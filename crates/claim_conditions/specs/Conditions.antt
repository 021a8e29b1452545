-- The certificate's first condition, as a claim about the record call's definition. Refusals.antt has "A refusal is
-- given on its condition and on no other".
use Rattle.std.specs.Prelude.{◌≡◌, true, false, List, ℕ, ◌<◌, ◌≤◌, eqb, length, get_or}
use Rattle.world.specs.declared.World.{World}
use Rattle.layout.specs.Layout.{kind_of}
use Rattle.record.specs.Record.{Outcome, is_accepted, used_of, written_of, record_of}

-- ---- the certificate's first condition. "An accepted record or one numbered refusal" is the type of the answer;
-- that every call ends is in the contract of `record`, as of every function.

-- of what a call with this world, these words and this log gives
pub record Kept (w : World) (words lent : List ℕ) (o : Outcome) : Type 0 where
  -- "A refused record leaves the world and every word of the lent log as it found them."
  pub world : is_accepted o.answer ≡ false → o.world ≡ w
  pub log : is_accepted o.answer ≡ false → o.log ≡ lent
  -- the log keeps its length, and "later words stay"
  pub size : length o.log ≡ length lent
  pub later : (i : ℕ) → written_of o.answer ≤ i → get_or o.log i 0 ≡ get_or lent i 0
  -- the words that the answer counts are there, and an accepted record takes some
  pub used : used_of o.answer ≤ length words
  pub some : is_accepted o.answer ≡ true → 0 < used_of o.answer
  pub written : written_of o.answer ≤ length lent
  -- "0 except on ticks": any other kind leaves the log
  pub untouched : eqb (kind_of (get_or words 0 0)) 12 ≡ false → (o.log ≡ lent) × (written_of o.answer ≡ 0)

unfoldable pub FirstCondition : Type 0
FirstCondition = (w : World) (words log : List ℕ) → Kept w words log (record_of w words log)
