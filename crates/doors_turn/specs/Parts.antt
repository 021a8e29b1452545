-- Parts of the code, cited within the library alone, on which the promise of `record` does not rest: the turns that
-- may be left out.
use Rattle.std.specs.Prelude.{Bool, not, ◌&&◌, ◌||◌, eqb}
use Rattle.world.specs.declared.Car.{Car}
use Rattle.doors_tick.specs.Ticks.{is_door_tick_skipped}

-- whether the turn may change anything: not of a disabled car, nor without a command where the door's tick is left out
abbrev pub has_turn : Car → Bool
has_turn c = c.enabled && (not (eqb c.door_command_queue.count 0) || not (is_door_tick_skipped c))
