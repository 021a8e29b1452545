-- What an accepted record takes of its words and writes of its log, by the record call's first condition.
use Rattle.std.proofs.Common.{◌≡◌, ℕ, ◌<◌, ◌≤◌, length, take, List, refl, sym, ◌∙◌, ap, length-take-le}
use Rattle.std.specs.Prelude.{Ok}
use Rattle.claim_conditions.specs.Conditions.{Kept, FirstCondition}
use Rattle.claim_conditions.proofs.Answering.{first_condition}
use Rattle.record.specs.Record.{Answer, record_of}
use Rattle.record.specs.declared.Accepted.{Accepted}
use Rattle.world.specs.declared.World.{World}

module _ (w : World) (words lent : List ℕ) where
  kept : Kept w words lent (record_of w words lent)
  unfolding FirstCondition
  kept = first_condition w words lent

  pub same_length : {log : List ℕ} → log ≡ (record_of w words lent).log → length log ≡ length lent
  same_length l = ap length l ∙ kept.size

  module _ {answer : Answer} {a : Accepted} (g : answer ≡ (record_of w words lent).answer) (e : answer ≡ Ok a) where
    pub uses_some : 0 < a.used
    uses_some = (rw (← g, e) at kept.some) refl

    pub uses_within : a.used ≤ length words
    uses_within = rw (← g, e) at kept.used

    pub writes_within : a.written ≤ length lent
    writes_within = rw (← g, e) at kept.written

    pub writes_all : {log : List ℕ} → log ≡ (record_of w words lent).log → a.written ≡ length (take a.written log)
    writes_all {log} l = sym (length-take-le a.written log (rw (same_length l) writes_within))
