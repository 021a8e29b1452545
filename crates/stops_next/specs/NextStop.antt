-- The next stop of a loop: dispatch/mod.rs. A count above its table is taken as the table's size.
use Rattle.std.specs.Prelude.{not, ◌||◌, cond, List, ℕ, zero, suc, min, get_or, Float}
use Rattle.std.specs.Float.Ieee.{le}
use Rattle.float.specs.Float.{epsilon, is_finite}
use Rattle.motion.specs.Cyclic.{is_degenerate, forward_distance}
use Rattle.world.specs.World.{stop_position}
use Rattle.world.specs.declared.Line.{Line}
use Rattle.world.specs.declared.LineKind.{LineKind}
use Rattle.world.specs.declared.LineKind.TheVariants.{Linear, Loop}
use Rattle.std.specs.declared.option.Option.{Option}
use Rattle.std.specs.declared.option.Option.TheVariants.{None, Some}
use Rattle.world.specs.declared.Table.{Table}

-- how far a stop is ahead: the whole circle where the car stands at it
unfoldable pub ahead_of : Float → Float → Float → Float
ahead_of circumference position stop =
    let d = forward_distance position stop circumference in
    cond (le d epsilon) circumference d

-- the nearer of two with their distances, the earlier where neither is
abbrev pub nearer_stop : Option (Float × ℕ) → Float → ℕ → Option (Float × ℕ)
nearer_stop None d s = Some (d, s)
nearer_stop (Some (best, stop)) d s = cond (le best d) (Some (best, stop)) (Some (d, s))

-- the nearest ahead of the list's first i. A number past the table has no position; refusal 0 keeps it away.
unfoldable pub nearest_to : List Float → Float → List ℕ → Float → ℕ → Option (Float × ℕ)
nearest_to stops circumference serves position zero = None
nearest_to stops circumference serves position (suc i) =
    nearer_stop
    (nearest_to stops circumference serves position i)
    (ahead_of circumference position (stop_position stops (get_or serves i 0)))
    (get_or serves i 0)

-- the stop, without its distance
abbrev pub without_distance : Option (Float × ℕ) → Option ℕ
without_distance None = None
without_distance (Some (d, s)) = Some s

-- dispatch/mod.rs, loop_next_stop_forward: none where there is no circle or no position, and for an empty list
unfoldable pub loop_next_stop_forward : List Float → Float → Table ℕ 64 → Float → Option ℕ
loop_next_stop_forward stops circumference serves position =
    cond
    (not (is_finite position) || is_degenerate circumference)
    None
    (without_distance (nearest_to stops circumference serves.items position (min serves.count 64)))

-- dispatch/mod.rs, loop_next_stop_for_car. "Without a list .. a loop car has no next stop"
abbrev pub next_stop_by : LineKind → Line → List Float → Float → Option ℕ
next_stop_by Linear line stops position = None
next_stop_by (Loop circumference headway) line stops position =
    cond line.serves.listed (loop_next_stop_forward stops circumference line.serves.stops position) None

unfoldable pub loop_next_stop_for_car : Line → List Float → Float → Option ℕ
loop_next_stop_for_car line stops position = next_stop_by line.kind line stops position
