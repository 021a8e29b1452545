-- The loop over a tape's records: what is left of it is no longer than it. Assumes nothing.
use Rattle.std.proofs.Common.{◌≤◌, length}
use Rattle.test_records.proofs.play.Given as goal

abbrev pub invariant-loop-at : goal.invariant-loop-at
invariant-loop-at l = length l.rest ≤ length l.tape
