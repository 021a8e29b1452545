-- The loop keeps: the best so far is the nearest of the stops passed, with its distance; none before the first.
use mathlib.Core.Path.{◌≡◌}
use Rattle.stops_next.specs.NextStop.{nearest_to}
use Rattle.stops_next.proofs.loop_next_stop_forward.Given as goal

abbrev pub invariant-loop-s : goal.invariant-loop-s
invariant-loop-s l = l.best ≡ nearest_to l.stops l.circumference l.serves.items l.position l.s-index
