-- Parts of the code, cited within the library alone, on which the promise of `record` does not rest: what the state
-- says of a tick, asked by itself.
use Rattle.std.specs.Prelude.{Result, Ok, Err, Bool, ℕ}
use Rattle.world.specs.Refusal.{unless}
use Rattle.world.specs.declared.refusal.Refusal.{Refusal}
use Rattle.record_kinds.specs.Kinds.{tick_checks_by}

-- the first of its checks that holds, or the tick is taken
unfoldable pub tick_taken : Bool → ℕ → ℕ → ℕ → ℕ → Result (Unit {0}) Refusal
tick_taken started ticks cars stops room = unless (tick_checks_by started ticks cars stops room) Err (Ok tt)
