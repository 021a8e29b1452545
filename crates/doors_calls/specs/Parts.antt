-- Parts of the code, cited within the library alone, on which the promise of `record` does not rest: calls cleared,
-- and what is written of them.
use Rattle.std.specs.Prelude.{◌≡◌, List, ℕ, min, length}
use Rattle.std.specs.declared.option.Option.{Option}
use Rattle.log_writes.specs.Parts.{Written, Log}
use Rattle.world.specs.declared.HallCalls.{HallCalls}
use Rattle.turn.specs.declared.JustOpened.{JustOpened}
use Rattle.doors_calls.specs.Clearing.{clear_to, clear_words_to}

-- calls cleared by code: those that stand, and the words that it wrote
pub record Clears (h : HallCalls) (words : List ℕ) (l : Log) (l' : Log) (r : HallCalls) : Type 0 where
  pub calls : r ≡ h
  pub written : Written l words l'

-- for what all cars opened: the first 16, whose numbers have words
abbrev pub ClearsAll : List (Option JustOpened) → HallCalls → Log → Log → HallCalls → Type 0
ClearsAll opened h = let n = min (length opened) 16 in Clears (clear_to opened h n) (clear_words_to opened h n)
