-- The loop keeps: the first i served words are stops' numbers, and the array holds them, zeros behind.
use Rattle.std.proofs.Common.{◌≡◌, false}
use Rattle.tape_loads.specs.LoadRecords.{has_stop_outside, serves_to}
use Rattle.tape_loads.proofs.serves_to.Given as goal

abbrev pub invariant-loop-i : goal.invariant-loop-i
invariant-loop-i l = (has_stop_outside l.words l.i ≡ false) × (l.serves ≡ serves_to l.words l.i)
