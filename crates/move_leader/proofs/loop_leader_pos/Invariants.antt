-- The loop keeps: the best so far is the leader of the first i cars, by its distance and position, or none.
use mathlib.Core.Path.{◌≡◌}
use Rattle.move_leader.specs.Leader.{leader_to}
use Rattle.move_leader.proofs.Lead.{held}
use Rattle.move_leader.proofs.loop_leader_pos.Given as goal

abbrev pub invariant-loop-i : goal.invariant-loop-i
invariant-loop-i l = l.best ≡ held l.cars.items l.pos l.circumference (leader_to l.cars.items l.me l.line l.pos l.circumference l.i)
