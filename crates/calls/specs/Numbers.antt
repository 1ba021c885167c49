-- 01's number and value for each of the code's answers.
use Rattle.std.specs.Prelude.{ℕ, ◌+◌, ◌*◌, List, Result, Ok, Err}
use Rattle.rules.specs.Commands.{Command}
use Rattle.rules.specs.Line.{Request, single, rollback_to}
use Rattle.rules.specs.Answers.{done, no_process, finished, waiting, stuck, wrong_command, place_taken, too_large, history_full, no_message, nothing_to_undo, held, no_checkpoint, not_a_state, no_room, bad_line}
use Rattle.calls.specs.Calls.{outcome, RequestCall, LineCall, ListingCall}
use Rattle.calls.specs.declared.answers.Refusal.{Refusal}
use Rattle.calls.specs.declared.answers.Refusal.TheVariants.{NoProcess, Finished, Waiting, Stuck, WrongCommand, PlaceTaken, TooLarge, HistoryFull, NoMessage, NothingToUndo, Held, NoCheckpoint, NotAState, NoRoom, BadLine}

-- a rollback's count of events, a listing's length or else 0; or why nothing was done
abbrev pub Answer : Type 0
Answer = Result ℕ Refusal

abbrev pub refusal_number : Refusal → ℕ
refusal_number NoProcess = no_process
refusal_number Finished = finished
refusal_number Waiting = waiting
refusal_number Stuck = stuck
refusal_number WrongCommand = wrong_command
refusal_number PlaceTaken = place_taken
refusal_number TooLarge = too_large
refusal_number HistoryFull = history_full
refusal_number NoMessage = no_message
refusal_number NothingToUndo = nothing_to_undo
refusal_number Held = held
refusal_number NoCheckpoint = no_checkpoint
refusal_number NotAState = not_a_state
refusal_number NoRoom = no_room
refusal_number BadLine = bad_line

unfoldable pub number_of : Answer → ℕ
number_of (Ok count) = done
number_of (Err refusal) = refusal_number refusal

-- "Positions and counts are 0 elsewhere."
unfoldable pub value_of : Answer → ℕ
value_of (Ok count) = count
value_of (Err refusal) = 0

-- What the code of a call promises: its answer and the words that it leaves are an outcome of the call.
unfoldable pub Performs : Request → (entry exit : List ℕ) → Answer → Type 0
Performs request entry exit r = RequestCall request entry (outcome (number_of r) (value_of r) exit)

-- step, spawn, deliver, back and undeliver
unfoldable pub CommandCall : Command → (entry exit : List ℕ) → Answer → Type 0
CommandCall c entry exit r = Performs (single c) entry exit r

-- rollback p t
unfoldable pub RollbackCall : (p t : ℕ) → (entry exit : List ℕ) → Answer → Type 0
RollbackCall p t entry exit r = Performs (rollback_to p t) entry exit r

-- a text command
unfoldable pub TextCall : (line : List ℕ) → (entry exit : List ℕ) → Answer → Type 0
TextCall line entry exit r = LineCall line entry (outcome (number_of r) (value_of r) exit)

-- the listing, written into an output
unfoldable pub Lists : (store entry exit : List ℕ) → Answer → Type 0
Lists store entry exit r = ListingCall store entry (outcome (number_of r) (value_of r) exit)

-- a call for programs in other languages: value × 2^32 + number
abbrev pub value_place : ℕ
value_place = 4294967296

unfoldable pub packed : Answer → ℕ
packed r = value_of r * value_place + number_of r
