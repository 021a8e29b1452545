-- The claims about a tick, from its turns: their words, with those of the calls that they may clear, fit into the
-- room; the counters grow by the moves, and no sum reaches 2 ^ 64. Assumes nothing.
use mathlib.Core.Path.{◌≡◌, refl, sym, ap, ◌∙◌}
use mathlib.Core.Bool.{true, false}
use mathlib.Core.List.{List, ◌++◌}
use Prim.Native.Nat.{ℕ, zero, suc, ◌+◌, ◌*◌, ◌<◌, ◌≤◌, min}
use native.Mathlib.Omega.{arith}
use lib.ListN.{length, length-append}
use lib.Ieee.{Float}
use Rattle.world.specs.World.{car_at}
use Rattle.world.specs.declared.World.{World}
use Rattle.std.specs.declared.option.Option.{Option}
use Rattle.std.specs.declared.option.Option.TheVariants.{None, Some}
use Rattle.laws.specs.Numbers.{bit}
use Rattle.log_read_back.proofs.Reading.{kind_tick}
use Rattle.turn.specs.Steps.{run_to, run_cars}
use Rattle.turn.proofs.Cars.{kept}
use Rattle.turn.specs.declared.JustOpened.{JustOpened}
use Rattle.move_turn.specs.Movement.{turn_of_move, movement_run}
use Rattle.doors_turn.specs.Doors.{car_count, turn_of_door, doors_run, doors_world, doors_words}
use Rattle.world.specs.declared.HallCalls.{HallCalls}
use Rattle.doors_calls.specs.Clearing.{is_matching, clear_word, clear_matching_words, opened_of, clear_to, clear_words_to}
use Rattle.tick.specs.Tick.{tick_world, tick_words}
use Rattle.tick.specs.Room.{room_of, WordsFit}
use Rattle.laws.specs.Counting.{how_many}
use Rattle.tick.specs.Counters.{moves_in, moves_of, sum_to, move_count_of, CountersLow, CountersGrow, NothingWraps}
use Rattle.tick.proofs.Turns.{Quiet, quiet_none, quiet_if, quiet_more, quiet_join, moves_append, ones, plus_plain, Fair, move_fair, move_still, door_fair}
use Rattle.tick.proofs.Runs.{stops_in, RunCounts, run_told, Grown, run_grown}

-- ---- the hall calls

match_quiet : (o : Option JustOpened) (i : ℕ) (h : HallCalls) → Quiet (2 * ones o) (clear_matching_words o i h)
unfolding clear_word
match_quiet None i h = quiet_none
match_quiet (Some o) i h =
    quiet_join (quiet_if (is_matching h.up o.stop o.lamps.going_up) 9 i o.stop (bit false) refl) (quiet_if (is_matching h.down o.stop o.lamps.going_down) 9 i o.stop (bit true) refl)

calls_quiet : (os : List (Option JustOpened)) (h : HallCalls) (n : ℕ) → Quiet (2 * stops_in os n) (clear_words_to os h n)
unfolding clear_words_to stops_in sum_to
calls_quiet os h zero = quiet_none
calls_quiet os h (suc n) =
    quiet_more (omega arith) (quiet_join (calls_quiet os h n) (match_quiet (opened_of os h n) n (clear_to os h n)))

-- ---- the two systems

module _ (w : World) (dt : Float) where
  move_turns : (v : World) (i : ℕ) → v.stops.count ≡ w.stops.count → Fair (min w.stops.count 64 + 3) 64 v.total_moves (car_at v.cars.items i) (turn_of_move dt v i)
  move_turns v i e = rw (← e) (move_fair dt v i)

  moved_told : RunCounts (turn_of_move dt) w (min w.stops.count 64 + 3) 64 (car_count w) (movement_run w dt)
  unfolding movement_run run_cars
  moved_told = run_told (turn_of_move dt) w (min w.stops.count 64 + 3) 64 move_turns (car_count w)

doored_told : (w : World) → RunCounts turn_of_door w 11 0 (car_count w) (doors_run w)
unfolding doors_run run_cars
doored_told w = run_told turn_of_door w 11 0 (λ v i e. door_fair v i) (car_count w)

pub moved_count : (w : World) (dt : Float) → (movement_run w dt).world.cars.count ≡ w.cars.count
unfolding movement_run run_cars
moved_count w dt = kept (turn_of_move dt) w (λ (v : World). v.cars.count) (λ v i s. refl) (car_count w)

-- a tick's words by their parts
parts : (a b c : List ℕ) → length (a ++ (b ++ c)) ≡ length a + (length b + length c)
parts a b c = simp length-append

move_parts : (a b c : List ℕ) → moves_in (a ++ (b ++ c)) ≡ moves_in a + (moves_in b + moves_in c)
move_parts a b c = simp moves_append

pub words_fit : WordsFit
unfolding WordsFit room_of tick_words doors_words
words_fit w dt =
    let v : World = (movement_run w dt).world in
    let os : List (Option JustOpened) = (doors_run v).opened in
    omega (
      arith,
      parts (movement_run w dt).words (doors_run v).words (clear_words_to os v.calls (car_count v)),
      (moved_told w dt).size,
      moved_count w dt,
      (doored_told v).size,
      (calls_quiet os v.calls (car_count v)).size,
    )

-- ---- the counters

sums : (f g h : ℕ → ℕ) (n : ℕ) → ((i : ℕ) → i < n → f i ≡ g i + h i) → sum_to f n ≡ sum_to g n + sum_to h n
unfolding sum_to
sums f g h zero e = refl
sums f g h (suc n) e = omega (arith, sums f g h n (λ i l. e i (omega arith)), e n (omega arith))

module _ (w : World) (dt : Float) (low : CountersLow w) where
  abbrev v : World
  v = (movement_run w dt).world

  same_cars : car_count v ≡ car_count w
  same_cars = rw (moved_count w dt)

  moved_grown : Grown (turn_of_move dt) w (car_count w) v
  unfolding movement_run run_cars
  moved_grown =
      run_grown (turn_of_move dt) w (min w.stops.count 64 + 3) 64 (move_turns w dt) (car_count w) (omega arith) (omega arith) (λ j l. omega (arith, low.cars j l))
      (omega (arith, low.total)) (move_still dt) (car_count w) (omega arith)

  move_few : (i : ℕ) → moves_of (turn_of_move dt) w i ≤ 64
  unfolding moves_of
  move_few i = (move_fair dt (run_to (turn_of_move dt) w i).world i).few

  door_none : (j : ℕ) → moves_of turn_of_door v j ≡ 0
  unfolding moves_of
  door_none j = omega (arith, (door_fair (run_to turn_of_door v j).world j).few)

  doored_grown : Grown turn_of_door v (car_count v) (doors_run v).world
  unfolding doors_run run_cars
  doored_grown =
      run_grown turn_of_door v 11 0 (λ u i e. door_fair u i) (car_count v) (omega arith) (omega arith)
      (λ j l. omega (arith, moved_grown.done j (rw same_cars at l), move_few j, low.cars j (rw same_cars at l)))
      (omega (arith, moved_grown.total, (moved_told w dt).few, low.total))
      (λ u i e. omega (arith, (door_fair u i).few)) (car_count v) (omega arith)

  same_ticks : (doors_run v).world.ticks ≡ w.ticks
  unfolding movement_run doors_run run_cars
  same_ticks = kept turn_of_door v (λ (u : World). u.ticks) (λ u i s. refl) (car_count v) ∙ kept (turn_of_move dt) w (λ (u : World). u.ticks) (λ u i s. refl) (car_count w)

  written : moves_in (tick_words w dt) ≡ sum_to (moves_of (turn_of_move dt) w) (car_count w)
  unfolding tick_words doors_words how_many
  written =
      rw (kind_tick w.ticks)
      (omega (
        arith,
        move_parts (movement_run w dt).words (doors_run v).words (clear_words_to (doors_run v).opened v.calls (car_count v)),
        (moved_told w dt).written,
        (doored_told v).written,
        (doored_told v).few,
        (calls_quiet (doors_run v).opened v.calls (car_count v)).none,
      ))

  cars : (i : ℕ) → i < car_count w → move_count_of (tick_world w dt) i ≡ move_count_of w i + moves_of (turn_of_move dt) w i
  unfolding tick_world doors_world
  cars i l = doored_grown.done i (rw same_cars l) ∙ omega (arith, moved_grown.done i l, door_none i)

  counts : CountersGrow w dt
  unfolding tick_world doors_world
  counts = record {
    few = move_few;
    cars = cars;
    written = written;
    most = omega (arith, written, (moved_told w dt).few);
    sum = sums (move_count_of (tick_world w dt)) (move_count_of w) (moves_of (turn_of_move dt) w) (car_count w) cars ∙ ap (λ (n : ℕ). sum_to (move_count_of w) (car_count w) + n) (sym written);
    total = doored_grown.total ∙ omega (arith, (doored_told v).few, moved_grown.total, written);
    ticks = plus_plain (doors_run v).world.ticks 1 (omega (arith, same_ticks, low.ticks)) (omega arith) ∙ ap (λ (t : ℕ). t + 1) same_ticks;
  }

pub nothing_wraps : NothingWraps
unfolding NothingWraps
nothing_wraps = ((λ a b h k. plus_plain a b (omega arith) (omega arith)), counts)
