-- A tick's moves: they are its passing, arrived and repositioned words, and no counter wraps.
use Rattle.std.specs.Prelude.{◌≡◌, Bool, ◌||◌, List, ℕ, zero, suc, ◌+◌, ◌*◌, ◌^◌, ◌<◌, ◌≤◌, eqb, Float}
use Rattle.world.specs.World.{car_at}
use Rattle.world.specs.declared.World.{World}
use Rattle.layout.specs.Layout.{kind_of}
use Rattle.turn.specs.Steps.{Turn, run_to}
use Rattle.laws.specs.Numbers.{plus}
use Rattle.laws.specs.Counting.{how_many}
use Rattle.move_turn.specs.Movement.{turn_of_move}
use Rattle.doors_turn.specs.Doors.{car_count}
use Rattle.tick.specs.Tick.{tick_world, tick_words}

-- "Passing, arrived, repositioned .. words are those of kinds 1, 2, 3"
abbrev pub is_move : ℕ → Bool
is_move kind = eqb kind 1 || eqb kind 2 || eqb kind 3

abbrev pub is_move_word : ℕ → Bool
is_move_word w = is_move (kind_of w)

-- how many of them
abbrev pub moves_in : List ℕ → ℕ
moves_in words = how_many is_move_word words

-- how many car i has in its turn, which begins in the world that the cars before it have left
unfoldable pub moves_of : (World → ℕ → Turn) → World → ℕ → ℕ
moves_of turn w i = moves_in (turn (run_to turn w i).world i).words

unfoldable pub sum_to : (ℕ → ℕ) → ℕ → ℕ
sum_to f zero = 0
sum_to f (suc n) = sum_to f n + f n

-- a car's counter
abbrev pub move_count_of : World → ℕ → ℕ
move_count_of w i = (car_at w.cars.items i).move_count

-- as refusal 0 has it: no "move counter of 2 to the 48 or more"; the ticks made are at most 2 to the 28 there
pub record CountersLow (w : World) : Type 0 where
  pub cars : (i : ℕ) → i < car_count w → move_count_of w i < 2 ^ 48
  pub total : w.total_moves < 2 ^ 48
  pub ticks : w.ticks < 2 ^ 48

-- a tick from w: each car's counter grows by its moves, and both their sum and the total by all of the tick's,
-- without `plus`
pub record CountersGrow (w : World) (dt : Float) : Type 0 where
  pub few : (i : ℕ) → moves_of (turn_of_move dt) w i ≤ 64
  pub cars :
      (i : ℕ) → i < car_count w → move_count_of (tick_world w dt) i ≡ move_count_of w i + moves_of (turn_of_move dt) w i
  pub written : moves_in (tick_words w dt) ≡ sum_to (moves_of (turn_of_move dt) w) (car_count w)
  pub most : moves_in (tick_words w dt) ≤ 16 * 64
  pub sum : sum_to (move_count_of (tick_world w dt)) (car_count w)
      ≡ sum_to (move_count_of w) (car_count w) + moves_in (tick_words w dt)
  pub total : (tick_world w dt).total_moves ≡ w.total_moves + moves_in (tick_words w dt)
  pub ticks : (tick_world w dt).ticks ≡ w.ticks + 1

-- "a made-up move or passing count" is shut out. `plus` is `+` for the numbers that a tick adds: the counters, the
-- total on its way, a cooldown's tick + 240
unfoldable pub NothingWraps : Type 0
NothingWraps =
    ((a b : ℕ) → a < 2 ^ 49 → b ≤ 2 ^ 48 → plus a b ≡ a + b)
    × ((w : World) (dt : Float) → CountersLow w → CountersGrow w dt)
