-- All that `bench` rests on, under one name: where `unfolding opened` is written, the definitions compute on closed input.
use Rattle.std.specs.Prelude.{ℕ}
use Rattle.rules.specs.State.{as_send, as_rec, as_spawn, as_check, history_of, history_at, entry_at, is_process, in_pool, is_named, same_message, same_queue}
use Rattle.rules.specs.Flight.{count_letter, sends, letter_or, sent, also_taken, taken, left_or, left, has_come, flies, is_flying, flies_to, awaited, flight_of, flight}
use Rattle.rules.specs.Load.{good_sizes, loaded, load}
use Rattle.rules.specs.Commands.{set_process, set_queue, set_beside, apply, need, or_later, pick, making, receiving, stepping, spawning, undone, is_new, untouched, undoing, backing, undelivering, delivering, at_process, run, after_plan, run_state}
use Rattle.rules.specs.Depends.{queue_before, queues_shown, is_among, shown_in, arrivals, level, happened, is_spawn_of, in_queue_before, older_than, lacks, made_before, is_send_of, listed, depends_at_once}
use Rattle.rules.specs.Rollback.{is_check, newest_check, same_series, cut_to, events_on, events_at, events, stays, taken_off, torn, settled, cut_before, undo_of, undo_above, undo_along, series_in, undo_all, undo_to, rollback}
use Rattle.rules.specs.Text.{bytes, digit, hex_digit, decimal_in, decimal, hex_in, hex, spaced, line}
use Rattle.rules.specs.Line.{onto_first, split, without_empty_last, lines_of, digits_say, of_byte, number, after, one_number, two_numbers, keyed, parse_line}
use Rattle.rules.specs.Listing.{kind_name, newest_name, name_text, message_text, flight_text, process_lines, listing}
use Rattle.rules.specs.Replies.{of_plan, of_rollback, perform, undone_line, answer_line, replies, without_state, after_load}
use Rattle.machine.specs.Opened.{opened as machine-opened}

unfoldable pub opened : ℕ
unfolding as_send as_rec as_spawn as_check history_of history_at entry_at is_process in_pool is_named same_message same_queue count_letter sends letter_or sent also_taken taken left_or left has_come flies is_flying flies_to awaited flight_of flight good_sizes loaded load set_process set_queue set_beside apply need or_later pick making receiving stepping spawning undone is_new untouched undoing backing undelivering delivering at_process run after_plan run_state queue_before queues_shown is_among shown_in arrivals level happened is_spawn_of in_queue_before older_than lacks made_before is_send_of listed depends_at_once is_check newest_check same_series cut_to events_on events_at events stays taken_off torn settled cut_before undo_of undo_above undo_along series_in undo_all undo_to rollback bytes digit hex_digit decimal_in decimal hex_in hex spaced line onto_first split without_empty_last lines_of digits_say of_byte number after one_number two_numbers keyed parse_line kind_name newest_name name_text message_text flight_text process_lines listing of_plan of_rollback perform undone_line answer_line replies without_state after_load machine-opened
opened = 0
