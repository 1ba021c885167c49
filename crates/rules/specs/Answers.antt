-- The numbers that come back: 01's table.
use Rattle.std.specs.Prelude.{ℕ}

abbrev pub done : ℕ
done = 0

abbrev pub bad_module : ℕ
bad_module = 1

abbrev pub bad_sizes : ℕ
bad_sizes = 2

abbrev pub no_process : ℕ
no_process = 3

abbrev pub finished : ℕ
finished = 4

abbrev pub waiting : ℕ
waiting = 5

abbrev pub stuck : ℕ
stuck = 6

abbrev pub wrong_command : ℕ
wrong_command = 7

abbrev pub place_taken : ℕ
place_taken = 8

abbrev pub too_large : ℕ
too_large = 9

abbrev pub history_full : ℕ
history_full = 10

abbrev pub no_message : ℕ
no_message = 11

abbrev pub nothing_to_undo : ℕ
nothing_to_undo = 12

abbrev pub held : ℕ
held = 13

abbrev pub no_checkpoint : ℕ
no_checkpoint = 14

abbrev pub not_a_state : ℕ
not_a_state = 15

abbrev pub no_room : ℕ
no_room = 16

abbrev pub bad_line : ℕ
bad_line = 17
