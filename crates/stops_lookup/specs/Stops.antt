-- Stop look-ups: world.rs and dispatch/mod.rs. A count above its table is taken as the table's size.
use Rattle.std.specs.Prelude.{Bool, cond, List, ℕ, zero, suc, ◌+◌, min, ltb, get_or, Float}
use Rattle.std.specs.Float.{binary64}
use Rattle.std.specs.Float.Ieee.{of_bits, sub, lt}
use Rattle.float.specs.Float.{abs}
use Rattle.world.specs.World.{stop_position, line_at}
use Rattle.world.specs.declared.Line.{Line}
use Rattle.std.specs.declared.option.Option.{Option}
use Rattle.std.specs.declared.option.Option.TheVariants.{None, Some}
use Rattle.world.specs.declared.Serves.{Serves}
use Rattle.world.specs.declared.Table.{Table}
use Rattle.world.specs.Tables.{Stops}
use Rattle.world.specs.World.{serves_none}

-- ---- the stop at a position

-- world.rs, STOP_POSITION_EPSILON: 1e-6
abbrev pub stop_position_epsilon : Float
stop_position_epsilon = of_bits binary64 0x3eb0_c6f7_a0b5_ed8d

-- (stop.position - position).abs() < STOP_POSITION_EPSILON
unfoldable pub is_standing_at : Float → Float → Bool
is_standing_at stop position = lt (abs (sub binary64 stop position)) stop_position_epsilon

-- the first of m candidates, of which i is the next, that stands at the position; `candidate i` is a stop's number
unfoldable pub first_standing : List Float → Float → (ℕ → ℕ) → ℕ → ℕ → Option ℕ
first_standing stops position candidate zero i = None
first_standing stops position candidate (suc m) i =
    cond
    (is_standing_at (stop_position stops (candidate i)) position)
    (Some (candidate i))
    (first_standing stops position candidate m (i + 1))

-- world.rs, find_stop_at_position: in number order
unfoldable pub find_stop_at_position : Stops → Float → Option ℕ
find_stop_at_position stops position = first_standing stops.items position (λ s. s) (min stops.count 64) 0

-- world.rs, find_stop_at_position_in: in the list's order
unfoldable pub find_stop_at_position_in : List Float → Float → Table ℕ 64 → Option ℕ
find_stop_at_position_in stops position serves =
    first_standing stops position (λ i. get_or serves.items i 0) (min serves.count 64) 0

-- ---- what a line serves

-- dispatch/mod.rs, elevator_line_serves: "a line's list is its serves"
unfoldable pub elevator_line_serves : List Line → ℕ → Serves
elevator_line_serves lines line =
    cond (ltb line 8) (line_at lines line).serves serves_none
