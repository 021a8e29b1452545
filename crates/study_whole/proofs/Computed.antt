-- Document 01's tape, by computing. Assumes nothing.
use mathlib.Core.Path.{refl}
use lib.Ieee.{of_bits, add, sub, mul, div, rem, neg, lt, le, eq, is_nan}
use Rattle.float.specs.Float.{abs, signum, is_finite, max, clamp, rem_euclid}
use Rattle.motion.specs.Cyclic.{wrap_position, forward_distance}
use Rattle.motion.specs.Movement.{tick_movement, tick_movement_cyclic, headway_clamp_target}
use Rattle.motion_velocity.specs.Velocity.{decelerated, accelerated, new_velocity, manual_velocity}
use Rattle.world_call_sets.specs.Calls.{is_called}
use Rattle.world.specs.World.{empty_world}
use Rattle.world_sound_rows.specs.Rows.{is_any_below, is_line_broken, is_car_broken, is_rider_broken}
use Rattle.world_sound.specs.Sound.{has_broken_count, is_broken}
use Rattle.stops_lookup.specs.Stops.{is_standing_at, first_standing, find_stop_at_position}
use Rattle.stops_next.specs.NextStop.{loop_next_stop_for_car}
use Rattle.move_leader.specs.Leader.{leader_to, loop_leader_pos}
use Rattle.stops_sort.specs.Sorted.{is_position_before, is_stop_before, inserted, sorted_stops}
use Rattle.log_words.specs.Words.{word, tick_word}
use Rattle.layout.specs.Layout.{kind_of, n_of, s_of, v_of}
use Rattle.turn.specs.Steps.{line_of, run_to, run_cars}
use Rattle.laws.specs.Numbers.{plus}
use Rattle.move_arrival.specs.Arrival.{riders_lamps_to, queue_lamps_to, direction_from_remaining_work, popped}
use Rattle.move_turn.specs.Passing.{count_in, start_of, end_of, between, unless_target, without_target, emit_range, passing_words}
use Rattle.move_turn.specs.Movement.{turn_of_move, movement_run}
use Rattle.doors_commands.specs.Commands.{at_stop, has_traversing_to, has_rider_traversing, processed_to, processed_words_to, process_door_commands, command_words}
use Rattle.doors_turn.specs.Doors.{turn_of_door, doors_run, doors_world, doors_words}
use Rattle.doors_calls.specs.Clearing.{clear_one, clear_word, clear_to, clear_words_to}
use Rattle.tick.specs.Tick.{tick_world, tick_words}
use Rattle.tick.specs.Room.{room_of}
use Rattle.tape_fields.specs.Fields.{float_at, is_raw_zero_at}
use Rattle.tape_loads.specs.LoadRecords.{serves_count, has_stop_outside, serves_to, has_line_field_outside, has_line_float_outside, line_kind_of, line_record}
use Rattle.tape.specs.Tape.{decoded}
use Rattle.tape.specs.Tape as Tape
use Rattle.record_loads.specs.Loads.{load_line, load_stop, load_car}
use Rattle.record_start.specs.Changes.{start}
use Rattle.record_send.specs.Orders.{send}
use Rattle.record_modes.specs.Modes.{set_mode, set_manual_speed}
use Rattle.record_queues.specs.Requests.{queue_command}
use Rattle.record.specs.Record.{tick_outcome, record_of}
use lib.Count.{ones_in, ones}
use Rattle.laws.specs.Counting.{how_many}
use Rattle.report.specs.Report as Report
use Rattle.study_text.specs.Text.{words_of, report_line, refused_line, place_line}
use Rattle.study_numbers.specs.NumberText.{word_line, word_lines, decimal_to}
use Rattle.study_play.specs.Play.{ending, ending_refusal}
use Rattle.record.specs.Calls.{outcome, next_world}
use Rattle.study_whole.specs.Study.{calls_made, printed_of, study_text}
use Rattle.study_whole.specs.Certified.{AllAccepted}
use Rattle.study_pieces.specs.Parts.{next_record, play_to, close, advanced}
use Rattle.study_step.specs.Step.{stepped}
use Rattle.study_whole.specs.Place.{refusal_of, accepted_calls, words_used, error_text}
use Rattle.study_whole.specs.WholeTape.{after_rounds, output_of, error_of, tape_of, InOrder, AsWanted}
use Rattle.study_whole.specs.Example.{PaperTape, PaperCalls, PaperRounds, SecondStart, OneByteTold}

pub paper_tape_lem : PaperTape
unfolding PaperTape study_text calls_made printed_of outcome ending words_of word_line word_lines decimal_to report_line Report.counts_of Report.count_more Report.counted_report how_many Report.has_unknown Report.waiting_in kind_of n_of s_of v_of ones_in ones record_of Tape.decoded_by tick_outcome decoded float_at is_raw_zero_at serves_count has_stop_outside serves_to has_line_field_outside has_line_float_outside line_kind_of line_record load_line load_stop load_car start send set_mode set_manual_speed queue_command is_any_below is_line_broken is_car_broken is_rider_broken has_broken_count is_broken room_of empty_world tick_world tick_words movement_run turn_of_move doors_world doors_words doors_run turn_of_door clear_one clear_word clear_to clear_words_to at_stop has_traversing_to has_rider_traversing processed_to processed_words_to process_door_commands command_words count_in start_of end_of between unless_target without_target emit_range passing_words riders_lamps_to queue_lamps_to direction_from_remaining_work popped plus line_of run_to run_cars word tick_word is_position_before is_stop_before inserted sorted_stops leader_to loop_leader_pos is_standing_at first_standing loop_next_stop_for_car find_stop_at_position is_called decelerated accelerated new_velocity tick_movement tick_movement_cyclic headway_clamp_target manual_velocity wrap_position forward_distance abs signum is_finite max clamp rem_euclid of_bits add sub mul div rem neg lt le eq is_nan
paper_tape_lem = refl

pub paper_calls : PaperCalls
unfolding calls_made AllAccepted outcome next_world ending words_of word_line word_lines decimal_to report_line Report.counts_of Report.count_more Report.counted_report how_many Report.has_unknown Report.waiting_in kind_of n_of s_of v_of ones_in ones record_of Tape.decoded_by tick_outcome decoded float_at is_raw_zero_at serves_count has_stop_outside serves_to has_line_field_outside has_line_float_outside line_kind_of line_record load_line load_stop load_car start send set_mode set_manual_speed queue_command is_any_below is_line_broken is_car_broken is_rider_broken has_broken_count is_broken room_of empty_world tick_world tick_words movement_run turn_of_move doors_world doors_words doors_run turn_of_door clear_one clear_word clear_to clear_words_to at_stop has_traversing_to has_rider_traversing processed_to processed_words_to process_door_commands command_words count_in start_of end_of between unless_target without_target emit_range passing_words riders_lamps_to queue_lamps_to direction_from_remaining_work popped plus line_of run_to run_cars word tick_word is_position_before is_stop_before inserted sorted_stops leader_to loop_leader_pos is_standing_at first_standing loop_next_stop_for_car find_stop_at_position is_called decelerated accelerated new_velocity tick_movement tick_movement_cyclic headway_clamp_target manual_velocity wrap_position forward_distance abs signum is_finite max clamp rem_euclid of_bits add sub mul div rem neg lt le eq is_nan
paper_calls = record { ten = refl; accepted = (refl, (refl, (refl, (refl, (refl, (refl, (refl, (refl, (refl, (refl, tt)))))))))); none = refl }

pub paper_rounds : PaperRounds
unfolding InOrder AsWanted after_rounds output_of error_of tape_of stepped advanced play_to next_record close ending ending_refusal words_of word_line word_lines decimal_to report_line Report.counts_of Report.count_more Report.counted_report how_many Report.has_unknown Report.waiting_in kind_of n_of s_of v_of ones_in ones record_of Tape.decoded_by tick_outcome decoded float_at is_raw_zero_at serves_count has_stop_outside serves_to has_line_field_outside has_line_float_outside line_kind_of line_record load_line load_stop load_car start send set_mode set_manual_speed queue_command is_any_below is_line_broken is_car_broken is_rider_broken has_broken_count is_broken room_of empty_world tick_world tick_words movement_run turn_of_move doors_world doors_words doors_run turn_of_door clear_one clear_word clear_to clear_words_to at_stop has_traversing_to has_rider_traversing processed_to processed_words_to process_door_commands command_words count_in start_of end_of between unless_target without_target emit_range passing_words riders_lamps_to queue_lamps_to direction_from_remaining_work popped plus line_of run_to run_cars word tick_word is_position_before is_stop_before inserted sorted_stops leader_to loop_leader_pos is_standing_at first_standing loop_next_stop_for_car find_stop_at_position is_called decelerated accelerated new_velocity tick_movement tick_movement_cyclic headway_clamp_target manual_velocity wrap_position forward_distance abs signum is_finite max clamp rem_euclid of_bits add sub mul div rem neg lt le eq is_nan
paper_rounds = record { in_order = (λ _. refl, (λ _. refl, tt)); as_wanted = (refl, (refl, tt)); over = refl; output = refl; error = refl }

pub second_start_lem : SecondStart
unfolding error_text refusal_of accepted_calls words_used calls_made outcome ending_refusal refused_line place_line error_of stepped advanced play_to next_record close ending words_of word_line word_lines decimal_to report_line Report.counts_of Report.count_more Report.counted_report how_many Report.has_unknown Report.waiting_in kind_of n_of s_of v_of ones_in ones record_of Tape.decoded_by tick_outcome decoded float_at is_raw_zero_at serves_count has_stop_outside serves_to has_line_field_outside has_line_float_outside line_kind_of line_record load_line load_stop load_car start send set_mode set_manual_speed queue_command is_any_below is_line_broken is_car_broken is_rider_broken has_broken_count is_broken room_of empty_world tick_world tick_words movement_run turn_of_move doors_world doors_words doors_run turn_of_door clear_one clear_word clear_to clear_words_to at_stop has_traversing_to has_rider_traversing processed_to processed_words_to process_door_commands command_words count_in start_of end_of between unless_target without_target emit_range passing_words riders_lamps_to queue_lamps_to direction_from_remaining_work popped plus line_of run_to run_cars word tick_word is_position_before is_stop_before inserted sorted_stops leader_to loop_leader_pos is_standing_at first_standing loop_next_stop_for_car find_stop_at_position is_called decelerated accelerated new_velocity tick_movement tick_movement_cyclic headway_clamp_target manual_velocity wrap_position forward_distance abs signum is_finite max clamp rem_euclid of_bits add sub mul div rem neg lt le eq is_nan
second_start_lem = record { error = refl; rounds = refl }

pub one_byte_told : OneByteTold
unfolding OneByteTold error_text refusal_of accepted_calls words_used calls_made ending_refusal words_of place_line decimal_to plus
one_byte_told = refl
