-- The loop keeps: the table begins with the first i numbers in the order of their stops, and has zeros behind them.
use mathlib.Core.Path.{◌≡◌}
use Rattle.stops_sort.specs.Parts.{sorted_table}
use Rattle.stops_sort.proofs.sorted_stops.Given as goal

abbrev pub invariant-loop-i : goal.invariant-loop-i
invariant-loop-i l = l.order ≡ sorted_table l.stops.items l.i
