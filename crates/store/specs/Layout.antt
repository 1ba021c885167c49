-- The layout of the store. 01: "Each sound state has exactly one store image, by a layout in docs/." (docs/LAYOUT.md).
use Rattle.std.specs.Prelude.{ℕ, suc, ◌+◌, ◌*◌, List, [], ◌∷◌, ◌++◌, map, reverse, length}
use Rattle.std.proofs.Math.Option.{Option, none, some}
use Rattle.lists.specs.Lists.{up_to, joined}
use Rattle.lists.specs.Fill.{fill_to}
use Rattle.term.specs.Module.{longest_module}
use Rattle.rules.specs.State.{Sizes, Message, Kind, seq, send, rec, spawn, self, check, as_rec, Entry, Process, State}
use Rattle.rules.specs.Depends.{queue_before}
pub use Rattle.rules.specs.State.{name_base}

-- P, H, W and the module's length; then the module's words; then a block for each place
abbrev pub head_words : ℕ
head_words = 4

abbrev pub blocks_from : ℕ
blocks_from = head_words + longest_module

-- a slot: eight words, then room for a control, then room for the names of a queue: P processes send at most H messages each
abbrev pub slot_head : ℕ
slot_head = 8

abbrev pub names_room : Sizes → ℕ
names_room sizes = sizes.places * sizes.entries

abbrev pub slot_size : Sizes → ℕ
slot_size sizes = slot_head + (sizes.words + names_room sizes)

-- a block: the slot of the present and a slot for each entry
abbrev pub slot_count : Sizes → ℕ
slot_count sizes = suc sizes.entries

abbrev pub block_size : Sizes → ℕ
block_size sizes = slot_count sizes * slot_size sizes

-- how many words a store needs: 516 + P(H + 1)(8 + W + PH)
abbrev pub needed : Sizes → ℕ
needed sizes = blocks_from + sizes.places * block_size sizes

-- the most that sizes in 01's ranges allow (`good_sizes` of rules/specs/Load): places, entries, words of a control, names of a queue, words
-- of a slot, of a block and of a store
abbrev pub most_places : ℕ
most_places = 16

abbrev pub most_entries : ℕ
most_entries = 64

abbrev pub most_words : ℕ
most_words = 255

abbrev pub most_names : ℕ
most_names = most_places * most_entries

abbrev pub longest_slot : ℕ
longest_slot = slot_head + (most_words + most_names)

abbrev pub longest_block : ℕ
longest_block = suc most_entries * longest_slot

abbrev pub longest_store : ℕ
longest_store = blocks_from + most_places * longest_block

-- the kinds of slots: free, an entry of each kind, the present of a process
abbrev pub kind_free : ℕ
kind_free = 0

abbrev pub kind_seq : ℕ
kind_seq = 1

abbrev pub kind_send : ℕ
kind_send = 2

abbrev pub kind_rec : ℕ
kind_rec = 3

abbrev pub kind_spawn : ℕ
kind_spawn = 4

abbrev pub kind_self : ℕ
kind_self = 5

abbrev pub kind_check : ℕ
kind_check = 6

abbrev pub kind_live : ℕ
kind_live = 7

-- what a slot holds: its kind, a number, a control, and names as words
pub record Slot : Type 0 where
  pub kind : ℕ
  pub number : ℕ
  pub control : List ℕ
  pub names : List ℕ

-- a free slot; its words are zeros
abbrev pub free_slot : Slot
free_slot = record { kind = kind_free; number = 0; control = []; names = [] }

unfoldable pub slot_words : Sizes → Slot → List ℕ
slot_words sizes x =
    x.kind ∷ length x.control ∷ x.number ∷ 0 ∷ length x.names ∷ 0 ∷ 0 ∷ 0
    ∷ (fill_to sizes.words 0 x.control ++ fill_to (names_room sizes) 0 x.names)

-- a message by its name, as a word
abbrev pub name_word : Message → ℕ
name_word m = m.sender * name_base + m.count

-- an entry's kind, and the number that goes with it: the place of a rec's message in the queue before, a spawn's child, a check's number
unfoldable pub kind_number : Kind → ℕ
kind_number seq = kind_seq
kind_number (send target value) = kind_send
kind_number (rec older message newer) = kind_rec
kind_number (spawn child) = kind_spawn
kind_number self = kind_self
kind_number (check number) = kind_check

unfoldable pub number_in : Kind → ℕ
number_in seq = 0
number_in (send target value) = 0
number_in (rec older message newer) = length older
number_in (spawn child) = child
number_in self = 0
number_in (check number) = number

-- the slot of an entry, with a rec's queue before. A send's target and value are those that its control before is about to send.
abbrev pub entry_slot : Entry → Slot
entry_slot e = record {
  kind = kind_number e.kind;
  number = number_in e.kind;
  control = e.before;
  names = map name_word (queue_before (as_rec e.kind));
}

-- the slot of a process as it stands, with its queue
abbrev pub present_slot : Process → List Message → Slot
present_slot process queue = record { kind = kind_live; number = 0; control = process.control; names = map name_word queue }

-- the slots of a place that are not free: the present, then the entries, oldest first; none where no process is
unfoldable pub place_slots : Option Process → List Message → List Slot
place_slots none queue = []
place_slots (some process) queue = present_slot process queue ∷ map entry_slot (reverse process.history)

-- the block of a place, all of its slots
unfoldable pub block : Sizes → List Slot → List ℕ
block sizes slots = joined (map (slot_words sizes) (fill_to (slot_count sizes) free_slot slots))

-- the first words
unfoldable pub head : List ℕ → Sizes → List ℕ
head module' sizes = sizes.places ∷ sizes.entries ∷ sizes.words ∷ length module' ∷ fill_to longest_module 0 module'

-- the words of a module, sizes, and the slots of each place
unfoldable pub laid : List ℕ → Sizes → (ℕ → List Slot) → List ℕ
laid module' sizes places = head module' sizes ++ joined (map (λ p. block sizes (places p)) (up_to sizes.places))

-- the words of a state
unfoldable pub slots_at : State → ℕ → List Slot
slots_at s p = place_slots (s.processes p) (s.queues p)

unfoldable pub image : State → List ℕ
image s = laid s.module' s.sizes (slots_at s)
