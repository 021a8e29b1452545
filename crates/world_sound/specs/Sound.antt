-- Refusal 0: what a lent world may not hold. Records never make such a world. What lies past a count is not looked at.
use Rattle.std.specs.Prelude.{Bool, ◌||◌, ℕ, ◌^◌, leb, ltb}
use Rattle.world.specs.World.{line_at, car_at, rider_at}
use Rattle.world.specs.declared.World.{World}
use Rattle.world_sound_rows.specs.Rows.{is_any_below, is_line_broken, is_car_broken, is_rider_broken}

-- a set of hall calls with a stop that is not loaded: a bit at or above `stops`
abbrev pub has_unloaded_call : ℕ → ℕ → Bool
has_unloaded_call stops calls = leb (2 ^ stops) calls

-- a count above its table or limit, the ticks made and the total of moves among them
unfoldable pub has_broken_count : World → Bool
has_broken_count w =
    ltb 64 w.stops.count
    || ltb 8 w.lines.count
    || ltb 16 w.cars.count
    || ltb 128 w.riders.count
    || ltb (2 ^ 28) w.ticks
    || leb (2 ^ 48) w.total_moves

unfoldable pub is_broken : World → Bool
is_broken w =
    has_broken_count w
    || is_any_below (λ i. is_line_broken w.stops.count (line_at w.lines.items i)) w.lines.count
    || is_any_below (λ i. is_car_broken w.lines.count w.stops.count (car_at w.cars.items i)) w.cars.count
    || is_any_below (λ i. is_rider_broken w.stops.count w.cars.count (rider_at w.riders.items i)) w.riders.count
    -- a hall call's stop
    || has_unloaded_call w.stops.count w.calls.up
    || has_unloaded_call w.stops.count w.calls.down
