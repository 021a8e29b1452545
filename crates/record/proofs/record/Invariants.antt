-- The loops keep: the world and the log are as the definition's first i turns leave them, one loop of the moves, the
-- other of the doors, with what has opened. The cars are at most 16.
use Rattle.std.proofs.Common.{◌≤◌}
use Rattle.doors_turn.specs.Doors.{turn_of_door}
use Rattle.doors_turn.proofs.Running.{Runs}
use Rattle.move_turn.specs.Movement.{turn_of_move}
use Rattle.move_turn.proofs.Moving.{Moves}
use Rattle.record.proofs.record.Given as goal

-- the cars' moves
abbrev pub invariant-loop-i : goal.invariant-loop-i
invariant-loop-i l = (l.i ≤ l.cars) × Moves (turn_of_move l.dt) l.initial.w l.initial.log l.i l.w l.log × (l.cars ≤ 16)

-- the doors, from where the moves ended
abbrev pub invariant-loop-i-2 : goal.invariant-loop-i-2
invariant-loop-i-2 l = (l.i ≤ l.cars) × Runs turn_of_door l.initial.w l.initial.log l.i l.w l.just_opened l.log × (l.cars ≤ 16)
