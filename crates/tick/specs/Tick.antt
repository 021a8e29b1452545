-- One tick: "the tick moves the cars", "the same tick works the doors".
use Rattle.std.specs.Prelude.{List, ◌∷◌, ◌++◌, ℕ, Float}
use Rattle.world.specs.declared.World.{World}
use Rattle.log_words.specs.Words.{word_of}
use Rattle.log_words.specs.declared.Event.TheVariants.{TickMade}
use Rattle.laws.specs.Numbers.{plus}
use Rattle.move_turn.specs.Movement.{movement_run}
use Rattle.doors_turn.specs.Doors.{doors_world, doors_words}

-- a world with the tick's number one more
abbrev pub with_next_tick : World → World
with_next_tick w = record w { ticks = plus w.ticks 1 }

unfoldable pub tick_world : World → Float → World
tick_world w dt = with_next_tick (doors_world (movement_run w dt).world)

-- the tick's word, movement's, the doors' and the hall calls'
unfoldable pub tick_words : World → Float → List ℕ
tick_words w dt = word_of (TickMade w.ticks) ∷ ((movement_run w dt).words ++ doors_words (movement_run w dt).world)
