-- A car's turn in either system, by its cases: how many words it writes, and how its counters grow. Assumes nothing.
use mathlib.Core.Path.{◌≡◌, refl, ap, ◌∙◌}
use mathlib.Core.Bool.{Bool, true, false, ◌&&◌, cond, beq}
use mathlib.Core.List.{List, [], ◌∷◌, ◌++◌}
use Prim.Native.Nat.{ℕ, zero, suc, ◌+◌, ◌*◌, ◌^◌, ◌<◌, ◌≤◌, min}
use native.Mathlib.Omega.{arith}
use lib.ListN.{length, length-append}
use lib.Ieee.{Float}
use Rattle.world.specs.declared.Motion.{Motion}
use Rattle.world.specs.World.{car_at}
use Rattle.world.specs.declared.World.{World}
use Rattle.world.specs.declared.Car.{Car}
use Rattle.door.specs.declared.DoorCommand.{DoorCommand}
use Rattle.world.specs.declared.LineKind.{LineKind}
use Rattle.std.specs.declared.option.Option.{Option}
use Rattle.turn.specs.declared.JustOpened.{JustOpened}
use Rattle.std.specs.declared.option.Option.TheVariants.{None, Some}
use Rattle.log_words.specs.Words.{word, word_of, code_of, hold_ticks_of}
use Rattle.laws.specs.Numbers.{bit}
use Rattle.log_words.specs.declared.Event.TheVariants.{ElevatorIdle}
use Rattle.log_read_back.proofs.Reading.{kind_word}
use Rattle.turn.specs.Steps.{line_of, both_lit, unlit, update_indicators, Turn, not_opened}
use Rattle.laws.specs.Numbers.{plus}
use Rattle.world.specs.declared.Lamps.{Lamps}
use Rattle.move_trip.specs.Spans.{moving_up}
use Rattle.move_trip.specs.declared.Trip.{Trip}
use Rattle.move_trip.specs.declared.Trip.TheVariants.{GoesTo, Repositions}
use Rattle.move_turn.specs.Passing.{passing_words}
use Rattle.move_turn.specs.Movement.{passed_by, passing_turn, arrival_turn, turn_of_move}
use Rattle.move_turn.proofs.Cases.{move_cases}
use Rattle.doors_commands.specs.Commands.{queued, try_apply_command, applied_words, processed_to, processed_words_to, process_door_commands, command_words}
use Rattle.doors_turn.specs.Doors.{door_turn, in_world, turn_on, turn_of_door}
use Rattle.doors_tick.specs.Ticks.{DoorTurn, with_phase_and_door, just_opened_at, departed_words, door_by, after_words}
use Rattle.doors_tick.proofs.Cases.{door_cases}
use Rattle.doors_commands.proofs.Working.{only}
use Rattle.doors_commands.specs.declared.Doorway.{Doorway}
use Rattle.laws.specs.Counting.{how_many}
use Rattle.laws.proofs.Counting.{how_many_append}
use Rattle.tick.specs.Counters.{is_move, is_move_word, moves_in}
use Rattle.tick.proofs.Passed.{passed_fits}
use Rattle.laws.proofs.Choices.{both}

-- ---- words

pub moves_append : (ws vs : List ℕ) → moves_in (ws ++ vs) ≡ moves_in ws + moves_in vs
moves_append = how_many_append is_move_word

-- at most so many words, and none of a move
pub record Quiet (most : ℕ) (ws : List ℕ) : Type 0 where
  pub size : length ws ≤ most
  pub none : moves_in ws ≡ 0

pub quiet_none : Quiet 0 []
unfolding how_many
quiet_none = record { size = omega arith; none = refl }

pub quiet_one : (k n s v : ℕ) → is_move k ≡ false → Quiet 1 (word k n s v ∷ [])
unfolding how_many
quiet_one k n s v h = record { size = omega arith; none = rw (kind_word k n s v, h) refl }

pub quiet_more : {m n : ℕ} {ws : List ℕ} → m ≤ n → Quiet m ws → Quiet n ws
quiet_more h q = record { size = omega (arith, q.size); none = q.none }

pub quiet_join : {m n : ℕ} {ws vs : List ℕ} → Quiet m ws → Quiet n vs → Quiet (m + n) (ws ++ vs)
quiet_join {m} {n} {ws} {vs} p q = record {
  size = omega (arith, length-append ws vs, p.size, q.size);
  none = omega (arith, moves_append ws vs, p.none, q.none);
}

pub quiet_if : (b : Bool) (k n s v : ℕ) → is_move k ≡ false → Quiet 1 (cond b (word k n s v ∷ []) [])
quiet_if true k n s v h = quiet_one k n s v h
quiet_if false k n s v h = quiet_more (omega arith) quiet_none

lamps_quiet : (i : ℕ) (was lamps : Lamps) → Quiet 1 (update_indicators i was lamps)
lamps_quiet i was lamps =
    both (Quiet 1) (beq was.going_up lamps.going_up && beq was.going_down lamps.going_down) (quiet_more (omega arith) quiet_none)
    (quiet_one 5 i 0 (2 * bit lamps.going_up + bit lamps.going_down) refl)

-- ---- the turn

-- a door that has opened at a stop may clear two calls
abbrev pub ones : Option JustOpened → ℕ
ones None = 0
ones (Some o) = 1

pub plus_plain : (a b : ℕ) → a < 2 ^ 50 → b ≤ 2 ^ 50 → plus a b ≡ a + b
unfolding plus
plus_plain a b h k = omega arith

-- a turn of car c: its words fit with those of the calls that it may clear, and its moves are counted
pub record Fair (room most before : ℕ) (c : Car) (s : Turn) : Type 0 where
  pub size : length s.words + 2 * ones s.opened ≤ room
  pub few : moves_in s.words ≤ most
  pub car : c.move_count < 2 ^ 50 → s.car.move_count ≡ c.move_count + moves_in s.words
  pub total : before < 2 ^ 50 → s.total ≡ before + moves_in s.words

-- ---- movement

passing_size : (i : ℕ) (up : Bool) (ss : List ℕ) → length (passing_words i up ss) ≡ length ss
unfolding passing_words
passing_size i up [] = refl
passing_size i up (s ∷ ss) = ap suc (passing_size i up ss)

passing_moves : (i : ℕ) (up : Bool) (ss : List ℕ) → moves_in (passing_words i up ss) ≡ length ss
unfolding passing_words how_many
passing_moves i up [] = refl
passing_moves i up (s ∷ ss) = rw (kind_word 1 i s (bit up)) (omega (arith, passing_moves i up ss))

-- a word of a move, and others
one_move : (k n s v : ℕ) {m : ℕ} {ws : List ℕ} → is_move k ≡ true → Quiet m ws → moves_in (word k n s v ∷ ws) ≡ 1
unfolding how_many
one_move k n s v h q = rw (kind_word k n s v, h) (omega (arith, q.none))

module _ (w : World) (i : ℕ) where
  abbrev c : Car
  c = car_at w.cars.items i

  abbrev Moves : Turn → Type 0
  Moves s = Fair (min w.stops.count 64 + 3) 64 w.total_moves c s

  pass_fair : (trip : Trip) (kind : LineKind) (m : Motion) → Moves (passing_turn w i trip kind m)
  pass_fair trip kind m = record {
    size = omega (arith, fits, passing_size i up ss);
    few = omega (arith, fits, passing_moves i up ss);
    car = λ l. plus_plain c.move_count (length ss) l (omega (arith, fits)) ∙ omega (arith, passing_moves i up ss);
    total = λ l. plus_plain w.total_moves (length ss) l (omega (arith, fits)) ∙ omega (arith, passing_moves i up ss);
  }
    where
      up : Bool
      up = moving_up kind c.motion.position m.position

      ss : List ℕ
      ss = passed_by trip kind w.stops.items (min w.stops.count 64) c.motion m

      fits : length ss ≤ min w.stops.count 64
      fits = passed_fits trip kind w.stops.items (min w.stops.count 64) c.motion m

  -- a turn of one move
  one_fair : (s : Turn) → s.opened ≡ not_opened → length s.words ≤ 3 → moves_in s.words ≡ 1 → s.car.move_count ≡ plus c.move_count 1
      → s.total ≡ plus w.total_moves 1 → Moves s
  one_fair s o h m p q = record {
    size = rw o (omega arith);
    few = omega arith;
    car = λ l. p ∙ plus_plain c.move_count 1 l (omega arith) ∙ omega arith;
    total = λ l. q ∙ plus_plain w.total_moves 1 l (omega arith) ∙ omega arith;
  }

  arrived_fair : (s : ℕ) (kind : LineKind) (m : Motion) (lamps : Lamps) → Moves (arrival_turn w i (GoesTo s) kind m lamps)
  arrived_fair s kind m lamps =
      let q : Quiet 1 (update_indicators i c.lamps lamps) = lamps_quiet i c.lamps lamps in
      one_fair (arrival_turn w i (GoesTo s) kind m lamps) refl (omega (arith, q.size)) (one_move 2 i s 0 refl q) refl refl

  repositioned_fair : (s : ℕ) (kind : LineKind) (m : Motion) (lamps : Lamps) → Moves (arrival_turn w i (Repositions s) kind m lamps)
  repositioned_fair s kind m lamps =
      let q : Quiet 2 (word_of (ElevatorIdle i s) ∷ update_indicators i c.lamps both_lit) =
      quiet_join (quiet_one 4 i s 0 refl) (lamps_quiet i c.lamps both_lit) in
      one_fair (arrival_turn w i (Repositions s) kind m lamps) refl (omega (arith, q.size)) (one_move 3 i s 0 refl q) refl refl

pub move_fair : (dt : Float) (w : World) (i : ℕ)
    → Fair (min w.stops.count 64 + 3) 64 w.total_moves (car_at w.cars.items i) (turn_of_move dt w i)
unfolding how_many
move_fair dt w i =
    move_cases (Moves w i) w i (record { size = omega arith; few = omega arith; car = λ l. omega arith; total = λ l. omega arith }) (λ e. pass_fair w i)
    (λ e. arrived_fair w i) (λ e. repositioned_fair w i) dt

-- ---- doors

applied_quiet : (i : ℕ) (q : DoorCommand) (t : Option Doorway) → Quiet 1 (applied_words i q t)
applied_quiet i q None = quiet_more (omega arith) quiet_none
applied_quiet i q (Some d) = quiet_one 10 i (code_of q) (hold_ticks_of q) refl

module _ (c : Car) (at_stop traversing : Bool) (i : ℕ) where
  works_quiet : (n : ℕ) → Quiet n (processed_words_to c at_stop traversing i n)
  unfolding processed_words_to
  works_quiet zero = quiet_none
  works_quiet (suc n) =
      let q : DoorCommand = queued c at_stop traversing n in
      quiet_more (omega arith)
      (quiet_join (works_quiet n) (applied_quiet i q (try_apply_command q (processed_to c at_stop traversing n) at_stop traversing)))

  commands_quiet : Quiet 8 (command_words c at_stop traversing i)
  unfolding command_words
  commands_quiet = quiet_more (omega arith) (works_quiet (min c.door_command_queue.count 8))

-- the door's turn of car c
pub record Shuts (c : Car) (room : ℕ) (t : DoorTurn) : Type 0 where
  pub size : length t.words + 2 * ones t.opened ≤ room
  pub none : moves_in t.words ≡ 0
  pub count : t.car.move_count ≡ c.move_count

shuts : {n : ℕ} {t : DoorTurn} (c : Car) (room : ℕ) → Quiet n t.words → n + 2 * ones t.opened ≤ room → t.car.move_count ≡ c.move_count → Shuts c room t
shuts c room q h e = record { size = omega (arith, q.size); none = q.none; count = e }

opened_most : (s : Option ℕ) (c : Car) → ones (just_opened_at s c) ≤ 1
opened_most None c = omega arith
opened_most (Some s) c = omega arith

departed_quiet : (s : Option ℕ) (i : ℕ) → Quiet 1 (departed_words s i)
departed_quiet None i = quiet_more (omega arith) quiet_none
departed_quiet (Some s) i = quiet_one 8 i s 0 refl

door_shuts : (i : ℕ) (c : Car) (next : Option ℕ) → Shuts c 3 (door_by i c next)
door_shuts i c next =
    door_cases (Shuts c 3) i c next (λ d. shuts c 3 quiet_none (omega arith) refl)
    (λ d. shuts c 3 (quiet_one 6 i 0 0 refl) (omega (arith, opened_most c.target_stop (with_phase_and_door c c.phase d))) refl)
    (λ d. shuts c 3 quiet_none (omega arith) refl)
    (λ d. shuts c 3 (quiet_join (quiet_one 7 i 0 0 refl) (lamps_quiet i c.lamps both_lit)) (omega arith) refl)
    (λ s d e. shuts c 3 (quiet_join (quiet_one 7 i 0 0 refl) (quiet_join (lamps_quiet i c.lamps unlit) (departed_quiet c.target_stop i))) (omega arith) refl)

after_shuts : {c k : Car} {ws : List ℕ} (t : DoorTurn) → k.move_count ≡ c.move_count → Quiet 8 ws → Shuts k 3 t → Shuts c 11 (after_words ws t)
after_shuts {c} {k} {ws} t e q h = record {
  size = omega (arith, length-append ws t.words, q.size, h.size);
  none = omega (arith, moves_append ws t.words, q.none, h.none);
  count = h.count ∙ e;
}

turn_shuts : (i : ℕ) (c : Car) (at_stop traversing : Bool) (next : Option ℕ) → Shuts c 11 (door_turn i c at_stop traversing next)
unfolding how_many
turn_shuts i c at_stop traversing next =
    let k : Car = process_door_commands c at_stop traversing in
    both (Shuts c 11) c.enabled
    (after_shuts (door_by i k next) (ap (λ (x : Car). x.move_count) (only c at_stop traversing)) (commands_quiet c at_stop traversing i) (door_shuts i k next))
    (record { size = omega arith; none = refl; count = refl })

step_fair : (w : World) (c : Car) (t : DoorTurn) → Shuts c 11 t → Fair 11 0 w.total_moves c (in_world w t)
step_fair w c t h = record {
  size = h.size;
  few = omega (arith, h.none);
  car = λ l. omega (arith, h.count, h.none);
  total = λ l. omega (arith, h.none);
}

pub door_fair : (w : World) (i : ℕ) → Fair 11 0 w.total_moves (car_at w.cars.items i) (turn_of_door w i)
unfolding turn_of_door
door_fair w i = step_fair w (car_at w.cars.items i) (turn_on w i (car_at w.cars.items i) (line_of w.lines.items (car_at w.cars.items i).line)) (turn_shuts i (car_at w.cars.items i) _ _ _)

-- a car that is not enabled has no moves
pub move_still : (dt : Float) (w : World) (i : ℕ) → (car_at w.cars.items i).enabled ≡ false
    → moves_in (turn_of_move dt w i).words ≡ 0
unfolding turn_of_move how_many
move_still dt w i e = rw e refl
