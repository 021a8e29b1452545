-- So many records are played, by words that the tape has, and the log keeps its length.
use Rattle.std.proofs.Common.{◌≡◌, ◌≤◌, length}
use Rattle.test_beside_ticks.specs.Bench.{played_to}
use Rattle.test_beside_ticks.specs.Parts.{ProgressReached}
use Rattle.test_beside_ticks.proofs.by_lending.Given as goal

abbrev pub invariant-loop : goal.invariant-loop
invariant-loop l =
    (l.counter ≤ l.records) × (l.used ≤ length l.words) × (length l.log ≡ length l.initial.log) × ProgressReached (played_to l.words l.initial.log l.counter) l.world l.log l.used l.written
