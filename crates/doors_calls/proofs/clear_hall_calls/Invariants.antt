-- The loop keeps: the calls are those that the first n cars leave, and the log has the words of those cleared.
use Prim.Native.Nat.{◌≤◌}
use Rattle.doors_calls.specs.Clearing.{clear_to, clear_words_to}
use Rattle.doors_calls.specs.Parts.{Clears}
use Rattle.doors_calls.proofs.clear_hall_calls.Given as goal

abbrev pub invariant-loop-n : goal.invariant-loop-n
invariant-loop-n l = (l.n ≤ l.cars)
    × Clears (clear_to l.just_opened l.fn.calls l.n) (clear_words_to l.just_opened l.fn.calls l.n) l.initial.log l.log l.calls
