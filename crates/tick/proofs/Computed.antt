-- The traps and the tape compute. Assumes nothing.
use mathlib.Core.Path.{refl}
use lib.Ieee.{of_bits, add, sub, mul, div, rem, neg, lt, le, eq, is_nan}
use Rattle.float.specs.Float.{abs, signum, is_finite, max, rem_euclid}
use Rattle.motion.specs.Cyclic.{wrap_position, forward_distance}
use Rattle.motion.specs.Movement.{tick_movement, tick_movement_cyclic, headway_clamp_target}
use Rattle.motion_velocity.specs.Velocity.{decelerated, accelerated, new_velocity}
use Rattle.world_call_sets.specs.Calls.{is_called}
use Rattle.world.specs.World.{empty_world}
use Rattle.stops_next.specs.NextStop.{loop_next_stop_for_car}
use Rattle.move_leader.specs.Leader.{leader_to, loop_leader_pos}
use Rattle.stops_sort.specs.Sorted.{is_position_before, is_stop_before, inserted, sorted_stops}
use Rattle.log_words.specs.Words.{word, tick_word}
use Rattle.turn.specs.Steps.{line_of, run_to, run_cars}
use Rattle.laws.specs.Numbers.{plus}
use Rattle.move_arrival.specs.Arrival.{riders_lamps_to, queue_lamps_to, direction_from_remaining_work, popped}
use Rattle.move_turn.specs.Passing.{count_in, start_of, end_of, between, unless_target, without_target, emit_range, passing_words}
use Rattle.move_turn.specs.Movement.{turn_of_move, movement_run}
use Rattle.doors_commands.specs.Commands.{processed_to, processed_words_to, process_door_commands, command_words}
use Rattle.doors_turn.specs.Doors.{turn_of_door, doors_run, doors_world, doors_words}
use Rattle.doors_calls.specs.Clearing.{clear_word, clear_to, clear_words_to}
use Rattle.tick.specs.Tick.{tick_world, tick_words}
use Rattle.tick.specs.Room.{room_of}
use Rattle.tick.specs.Traps.{Traps, world_after_ticks, words_of_ticks}

pub traps : Traps
unfolding world_after_ticks words_of_ticks room_of empty_world tick_world tick_words movement_run turn_of_move doors_world doors_words doors_run turn_of_door clear_word clear_to clear_words_to processed_to processed_words_to process_door_commands command_words count_in start_of end_of between unless_target without_target emit_range passing_words riders_lamps_to queue_lamps_to direction_from_remaining_work popped plus line_of run_to run_cars word tick_word is_position_before is_stop_before inserted sorted_stops leader_to loop_leader_pos loop_next_stop_for_car is_called decelerated accelerated new_velocity tick_movement tick_movement_cyclic headway_clamp_target wrap_position forward_distance abs signum is_finite max rem_euclid of_bits add sub mul div rem neg lt le eq is_nan
traps = record {
  plus_zero = refl;
  minus_zero = refl;
  goes_on = refl;
  is_there = refl;
  ends_on_stop = refl;
  neither_tick = refl;
  leads = refl;
  follows = refl;
  held_arrives = refl;
  door_steps = refl;
  not_early = refl;
  first = refl;
  second = refl;
  writes_none = refl;
  seam = refl;
  output = refl;
  moves = refl;
  room = refl;
}
