-- A tick keeps what is held of a car, and does not move it where its door was not closed when it began: by the moves,
-- the doors, and the hall calls' words, which say nothing of a door. Assumes nothing.
use mathlib.Core.Path.{◌≡◌, refl, ap, ◌∙◌}
use mathlib.Core.Bool.{Bool, true, false}
use mathlib.Core.List.{List, [], ◌∷◌, ◌++◌, append_assoc}
use Prim.Native.Nat.{ℕ, zero, suc, ◌+◌, ◌*◌, ◌^◌, ◌<◌, ◌≤◌, min}
use native.Mathlib.Nat.{mul-le-mul}
use native.Mathlib.Omega.{arith}
use lib.ListN.{length, length-append}
use lib.Ieee.{Float}
use Rattle.door.specs.Door.{is_closed}
use Rattle.world.specs.World.{car_at}
use Rattle.world.specs.declared.World.{World}
use Rattle.world.specs.declared.Car.{Car}
use Rattle.world.specs.declared.Motion.{Motion}
use Rattle.std.specs.declared.option.Option.{Option}
use Rattle.std.specs.declared.option.Option.TheVariants.{None, Some}
use Rattle.log_words.specs.Words.{word_of}
use Rattle.laws.specs.Numbers.{bit}
use Rattle.log_words.specs.declared.Event.TheVariants.{TickMade}
use Rattle.log_read_back.proofs.Reading.{kind_tick}
use Rattle.turn.specs.declared.JustOpened.{JustOpened}
use Rattle.move_turn.specs.Movement.{turn_of_move, movement_run}
use Rattle.doors_turn.specs.Doors.{car_count, turn_of_door, doors_run, doors_world, doors_words}
use Rattle.world.specs.declared.HallCalls.{HallCalls}
use Rattle.doors_calls.specs.Clearing.{is_matching, clear_word, clear_matching_words, opened_of, clear_to, clear_words_to}
use Rattle.tick.specs.Tick.{tick_world, tick_words}
use Rattle.tick.specs.Counters.{moves_in, sum_to, move_count_of, CountersLow, CountersGrow, NothingWraps}
use Rattle.tick.specs.Room.{room_of, WordsFit}
use Rattle.laws.proofs.Choices.{both}
use Rattle.tick.proofs.Turns.{moves_append}
use Rattle.tick.proofs.Proved.{moved_count, words_fit, nothing_wraps}
use Rattle.claim_certificate.specs.Certificate.{position_of}
use Rattle.claim_certificate.proofs.Watch.{Told, written_none, written_join, written_tick, written_dull}
use Rattle.claim_certificate.proofs.Turns.{move_good, move_rests, move_silent, door_good, door_silent, door_stands}
use Rattle.claim_certificate.proofs.Holding.{Held, Summed, held_same, run_full, run_count, Ran, run_ran}

-- ---- the two systems

-- a car whose door is not closed stays as it is
abbrev Rests : Car → Car → Type 0
Rests c d = is_closed c.door ≡ false → d ≡ c

rests_then : (a b c : Car) → Rests a b → Rests b c → Rests a c
rests_then a b c p q h = q (rw (p h) h) ∙ p h

moved_ran : (n : ℕ) (w : World) (dt : Float) (log : List ℕ) → length w.cars.items ≡ 16 → Held n w.cars.items w.cars.count log → Ran Rests n w log (movement_run w dt)
unfolding movement_run
moved_ran n w dt log =
    run_ran (turn_of_move dt) Rests (λ c e. refl) rests_then (λ v i o l f. move_good v i o l f dt) (λ v i o l f. move_rests v i o l f dt) (move_silent dt) n w log

-- a car stays where it is
abbrev Stands : Car → Car → Type 0
Stands c d = d.motion ≡ c.motion

doored_ran : (n : ℕ) (w : World) (log : List ℕ) → length w.cars.items ≡ 16 → Held n w.cars.items w.cars.count log → Ran Stands n w log (doors_run w)
unfolding doors_run
doored_ran n w log = run_ran turn_of_door Stands (λ c. refl) (λ a b c p q. q ∙ p) door_good (λ v i o l f. door_stands v i) door_silent n w log

-- ---- the hall calls' words say nothing of a door

module _ (i : ℕ) (o : Bool) where
  match_told : (j : Option JustOpened) (n : ℕ) (h : HallCalls) → Told i o o (clear_matching_words j n h)
  unfolding clear_word
  match_told None n h = written_none i o
  match_told (Some j) n h =
      written_join
      (both (Told i o o) (is_matching h.up j.stop j.lamps.going_up) (written_dull i o 9 n j.stop (bit false) refl refl refl refl) (written_none i o))
      (both (Told i o o) (is_matching h.down j.stop j.lamps.going_down) (written_dull i o 9 n j.stop (bit true) refl refl refl refl) (written_none i o))

  calls_told : (os : List (Option JustOpened)) (h : HallCalls) (n : ℕ) → Told i o o (clear_words_to os h n)
  unfolding clear_words_to
  calls_told os h zero = written_none i o
  calls_told os h (suc n) = written_join (calls_told os h n) (match_told (opened_of os h n) n (clear_to os h n))

-- ---- a tick

-- it changes neither the table's size nor how many cars there are
moved_full : (w : World) (dt : Float) → length (movement_run w dt).world.cars.items ≡ length w.cars.items
unfolding movement_run
moved_full w dt = run_full (turn_of_move dt) w

doored_count : (w : World) → (doors_run w).world.cars.count ≡ w.cars.count
unfolding doors_run
doored_count w = run_count turn_of_door w

tick_full : (w : World) (dt : Float) → length (tick_world w dt).cars.items ≡ length w.cars.items
unfolding tick_world doors_world doors_run
tick_full w dt = run_full turn_of_door (movement_run w dt).world ∙ moved_full w dt

tick_count : (w : World) (dt : Float) → (tick_world w dt).cars.count ≡ w.cars.count
unfolding tick_world doors_world
tick_count w dt = doored_count (movement_run w dt).world ∙ moved_count w dt

-- car n
pub record Ticks (n : ℕ) (w : World) (dt : Float) (log : List ℕ) : Type 0 where
  pub held : Held n (tick_world w dt).cars.items (tick_world w dt).cars.count (log ++ tick_words w dt)
  pub stands : is_closed (car_at w.cars.items n).door ≡ false → position_of (tick_world w dt) n ≡ position_of w n

regroup : (l : List ℕ) (x : ℕ) (a b c : List ℕ) → l ++ (x ∷ (a ++ (b ++ c))) ≡ l ++ (x ∷ []) ++ a ++ b ++ c
regroup l x a b c = simp append_assoc

pub tick_ticks : (n : ℕ) (w : World) (dt : Float) (log : List ℕ) → length w.cars.items ≡ 16
    → Held n w.cars.items w.cars.count log → Ticks n w dt log
unfolding tick_world tick_words doors_world doors_words
tick_ticks n w dt log full h = record {
  held = rw (doored_count v, regroup log (word_of (TickMade w.ticks)) (movement_run w dt).words (doors_run v).words (clear_words_to os v.calls (car_count v)))
      (held_same d.held refl (λ o. calls_told n o os v.calls (car_count v)));
  stands = λ q. ap (λ (m : Motion). m.position) d.keeps ∙ ap (λ (c : Car). c.motion.position) (m.keeps q);
}
  where
    v : World
    v = (movement_run w dt).world

    os : List (Option JustOpened)
    os = (doors_run v).opened

    begun : List ℕ
    begun = log ++ (word_of (TickMade w.ticks) ∷ [])

    m : Ran Rests n w begun (movement_run w dt)
    m = moved_ran n w dt begun full (held_same h refl (λ o. written_tick n o (word_of (TickMade w.ticks)) (kind_tick w.ticks)))

    d : Ran Stands n v (begun ++ (movement_run w dt).words) (doors_run v)
    d = doored_ran n v (begun ++ (movement_run w dt).words) (moved_full w dt ∙ full) (rw (moved_count w dt) m.held)

-- ---- its moves and words are counted

all_cars : (n : ℕ) → n ≤ 16 → min n 16 ≡ n
all_cars n h = omega arith

-- the room for 16 cars and 64 stops is enough
pub most_room : (cars stops : ℕ) → cars ≤ 16 → stops ≤ 64 → cars * (stops + 14) + 1 ≤ 1249
most_room cars stops c s =
    let room : cars * (stops + 14) ≤ 16 * 78 = mul-le-mul {m₂ = 78} c (omega arith) in
    omega arith

words_few : (w : World) (dt : Float) → length (tick_words w dt) ≤ 1249
unfolding WordsFit room_of
words_few w dt = omega (arith, words_fit w dt, most_room (min w.cars.count 16) (min w.stops.count 64) (omega arith) (omega arith))

pub tick_sums : (w : World) (dt : Float) (log : List ℕ) → w.cars.count ≤ 16 → CountersLow w → w.ticks < 2 ^ 28
    → Summed w.cars.items w.cars.count w.total_moves w.ticks log
    → Summed (tick_world w dt).cars.items (tick_world w dt).cars.count (tick_world w dt).total_moves
    (tick_world w dt).ticks (log ++ tick_words w dt)
unfolding NothingWraps
tick_sums w dt log few low early s = record {
  full = tick_full w dt ∙ s.full;
  cars = rw (tick_count w dt) (k.total ∙ omega (arith, s.cars, sums));
  words = k.total ∙ omega (arith, s.words, moves_append log (tick_words w dt));
  time = omega (arith, k.ticks);
  room = omega (arith, k.ticks, s.room, words_few w dt, length-append log (tick_words w dt));
}
  where
    k : CountersGrow w dt
    k = nothing_wraps.1 w dt low

    sums : sum_to (move_count_of (tick_world w dt)) w.cars.count ≡ sum_to (move_count_of w) w.cars.count + moves_in (tick_words w dt)
    sums = rw (all_cars w.cars.count few) at k.sum
