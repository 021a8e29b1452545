-- The example lists of calls compute. Assumes nothing.
use mathlib.Core.Path.{refl, ap}
use mathlib.Core.Logic.{inl}
use mathlib.Core.List.{[], ◌∷◌, Memᴰ}
use Prim.Native.Nat.{ℕ}
use native.Mathlib.Omega.{arith}
use lib.Ieee.{Float, of_bits, add, sub, mul, div, rem, neg, lt, le, eq, is_nan}
use Rattle.float.specs.Float.{zero, abs, signum, is_finite, max, clamp, rem_euclid}
use Rattle.motion.specs.Cyclic.{wrap_position, forward_distance}
use Rattle.motion.specs.Movement.{tick_movement, tick_movement_cyclic, headway_clamp_target}
use Rattle.motion_velocity.specs.Velocity.{decelerated, accelerated, new_velocity, manual_velocity}
use Rattle.laws.proofs.Bools.{yes}
use Rattle.world_call_sets.specs.Calls.{is_called}
use Rattle.world.specs.World.{empty_world}
use Rattle.world_sound_rows.specs.Rows.{is_any_below, is_line_broken, is_car_broken, is_rider_broken}
use Rattle.world_sound.specs.Sound.{has_broken_count, is_broken}
use Rattle.stops_lookup.specs.Stops.{is_standing_at, first_standing, find_stop_at_position}
use Rattle.stops_next.specs.NextStop.{loop_next_stop_for_car}
use Rattle.move_leader.specs.Leader.{leader_to, loop_leader_pos}
use Rattle.stops_sort.specs.Sorted.{is_position_before, is_stop_before, inserted, sorted_stops}
use Rattle.log_words.specs.Words.{word, tick_word}
use Rattle.layout.specs.Layout.{kind_of, n_of, s_of, v_of}
use Rattle.turn.specs.Steps.{line_of, run_to, run_cars}
use Rattle.laws.specs.Numbers.{plus}
use Rattle.move_arrival.specs.Arrival.{riders_lamps_to, queue_lamps_to, direction_from_remaining_work, popped}
use Rattle.move_turn.specs.Passing.{count_in, start_of, end_of, between, unless_target, without_target, emit_range, passing_words}
use Rattle.move_turn.specs.Movement.{turn_of_move, movement_run}
use Rattle.doors_commands.specs.Commands.{at_stop, has_traversing_to, has_rider_traversing, processed_to, processed_words_to, process_door_commands, command_words}
use Rattle.doors_turn.specs.Doors.{turn_of_door, doors_run, doors_world, doors_words}
use Rattle.doors_calls.specs.Clearing.{clear_one, clear_word, clear_to, clear_words_to}
use Rattle.tick.specs.Tick.{tick_world, tick_words}
use Rattle.tick.specs.Room.{room_of}
use Rattle.tape_loads.specs.LoadRecords.{serves_count, has_stop_outside, serves_to, has_line_field_outside, has_line_float_outside, line_kind_of, line_record}
use Rattle.tape.specs.Tape.{decoded}
use Rattle.tape_fields.specs.Fields.{float_at, is_raw_zero_at}
use Rattle.tape.specs.Tape as Tape
use Rattle.record_loads.specs.Loads.{load_line, load_stop, load_car}
use Rattle.record_start.specs.Changes.{start}
use Rattle.record_send.specs.Orders.{send}
use Rattle.record_modes.specs.Modes.{set_mode, set_manual_speed}
use Rattle.record_queues.specs.Requests.{queue_command}
use Rattle.record.specs.Record.{tick_outcome, record_of}
use Rattle.record.specs.Calls.{outcome, next_world, world_after}
use Rattle.claim_certificate.specs.Certificate.{NoManual, DoorsHold, joined, IsWordOf, LogHolds}
use Rattle.claim_certificate.specs.Examples.{Examples}

-- no word between the door-opened word and the passing word is a door-closed word
none : (x : ℕ) → Memᴰ x (1 ∷ []) → IsWordOf 7 0 x → ⊥
unfolding kind_of
none x (Memᴰ.head e) q = absurd (omega (arith, rw e at q.0))
none x (Memᴰ.tail y) q = elim y [ ]

pub examples : Examples
unfolding NoManual DoorsHold LogHolds kind_of n_of s_of v_of joined world_after outcome next_world record_of Tape.decoded_by tick_outcome decoded float_at is_raw_zero_at serves_count has_stop_outside serves_to has_line_field_outside has_line_float_outside line_kind_of line_record load_line load_stop load_car start send set_mode set_manual_speed queue_command is_any_below is_line_broken is_car_broken is_rider_broken has_broken_count is_broken room_of empty_world tick_world tick_words movement_run turn_of_move doors_world doors_words doors_run turn_of_door clear_one clear_word clear_to clear_words_to at_stop has_traversing_to has_rider_traversing processed_to processed_words_to process_door_commands command_words count_in start_of end_of between unless_target without_target emit_range passing_words riders_lamps_to queue_lamps_to direction_from_remaining_work popped plus line_of run_to run_cars word tick_word is_position_before is_stop_before inserted sorted_stops leader_to loop_leader_pos is_standing_at first_standing loop_next_stop_for_car find_stop_at_position is_called decelerated accelerated new_velocity tick_movement tick_movement_cyclic headway_clamp_target manual_velocity wrap_position forward_distance abs signum is_finite max clamp rem_euclid of_bits add sub mul div rem neg lt le eq is_nan
examples = record {
  empty = record { stops = refl; lines = refl; cars = refl; riders = refl; up = refl; down = refl; started = refl; ticks = refl; moves = refl; places = refl };
  tame = (refl, (refl, (refl, (refl, (refl, (refl, (refl, (refl, (refl, (refl, (refl, (refl, (refl, (refl, (refl, tt)))))))))))))));
  log = refl;
  moves = refl;
  ticks = refl;
  ajar = refl;
  puts = λ h. yes h.1.1.1.1.1.1.1.0;
  drives = refl;
  doors = λ h. yes (ap (λ (x : Float). lt zero x) (h.1.1.1.1.1.1.1.1.1.0 refl 0 (omega arith) refl));
  words = λ h. h 0 (record {
    before = 0x0000_0000 ∷ 0xa000_0000 ∷ [];
    opened = 0x6000_0000;
    middle = 0x0000_0001 ∷ [];
    move = 0x1001_0001;
    rest = [];
    split = refl;
    opens = (refl, refl);
    moves = inl (refl, refl);
    unclosed = none;
  });
}
