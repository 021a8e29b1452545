-- The loop keeps: going on from place k, which is free, gives the sort of the first i + 1. It ends as k falls.
use mathlib.Core.Path.{◌≡◌}
use Prim.Native.Nat.{◌+◌, ◌≤◌}
use Rattle.stops_sort.specs.Parts.{sorted_table}
use Rattle.stops_sort.proofs.Insertion.{from_back}
use Rattle.stops_sort.proofs.insert.Given as goal

abbrev pub invariant-loop-k : goal.invariant-loop-k
invariant-loop-k l = (l.k ≤ l.i) × (from_back l.stops l.order l.i l.k ≡ sorted_table l.stops (l.i + 1))

abbrev pub decreases-loop-k : goal.decreases-loop-k
decreases-loop-k l = l.k
