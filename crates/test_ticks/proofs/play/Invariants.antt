-- The loop over a tape's records: each accepted one takes a word at least.
use Rattle.std.proofs.Common.{◌≡◌, ◌≤◌, length}
use Rattle.test_ticks.proofs.play.Given as goal

abbrev pub invariant-loop-rest : goal.invariant-loop-rest
invariant-loop-rest g l = (length l.log ≡ length l.initial.log) × (length l.rest ≤ length l.tape)

abbrev pub decreases-loop-rest : goal.decreases-loop-rest
decreases-loop-rest g l = length l.rest
