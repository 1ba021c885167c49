-- 01's paragraph 'Sound states' by examples: for each clause a small state that breaks it and no other, so that each is needed and says
-- what 01 says. Shown by `sound_sentences` of proofs/SoundSentences.
use Rattle.std.specs.Prelude.{ℕ, zero, suc, ◌≤◌, ◌≡◌, ◌≢◌, ◌↔◌, true, false, List, [], ◌∷◌, ◌++◌, length}
use Rattle.std.proofs.Math.Option.{Option, none, some}
use Rattle.lists.specs.Lists.{All}
use Rattle.term.specs.Module.{check_module}
use Rattle.rules.specs.State.{Sizes, Message, letter, seq, send, rec, spawn, check, as_send, as_check, Entry, Process, State, history_at, entry_at, in_pool}
use Rattle.rules.specs.Flight.{sent, taken}
use Rattle.rules.specs.Load.{good_sizes}
use Rattle.rules.specs.Commands.{entry_with}
use Rattle.rules.specs.Sound.{SoundControl, AboutToSend, SpawnedBy, distinct, SentTo, Flows, Sound}

-- the clauses, by the names of the fields of `Sound`
pub data Clause : Type 0 where
  sizes_pass module_passes place_0 pool_ends no_queue_elsewhere history_fits controls controls_before check_numbers sends_said : Clause
  born born_once place_0_unborn children_in_pool targets_in_pool once nothing_else prefixes : Clause

-- what each says; together they are `Sound` (`together` below)
unfoldable pub Holds : State → Clause → Type 0
Holds s sizes_pass = good_sizes s.sizes ≡ true
Holds s module_passes = check_module s.module' ≡ none
Holds s place_0 = in_pool s 0 ≡ true
Holds s pool_ends = (p : ℕ) → s.sizes.places ≤ p → in_pool s p ≡ false
Holds s no_queue_elsewhere = (p : ℕ) → in_pool s p ≡ false → s.queues p ≡ []
Holds s history_fits = (p : ℕ) → length (history_at s p) ≤ s.sizes.entries
Holds s controls = (p : ℕ) (process : Process) → s.processes p ≡ some process → SoundControl s process.control
Holds s controls_before = (p i : ℕ) (e : Entry) → entry_at (history_at s p) i ≡ some e → SoundControl s e.before
Holds s check_numbers = (p i number : ℕ) (e : Entry) → entry_at (history_at s p) i ≡ some e → as_check e.kind ≡ some number → number ≤ 255
Holds s sends_said = (p i target : ℕ) (value : List ℕ) (e : Entry) → entry_at (history_at s p) i ≡ some e → as_send e.kind ≡ some (letter target value) → AboutToSend s e.before target value
Holds s born = (q : ℕ) → in_pool s q ≡ true → ¬ (q ≡ 0) → (p : ℕ) × (i : ℕ) × SpawnedBy s q p i
Holds s born_once = (q p i p' i' : ℕ) → SpawnedBy s q p i → SpawnedBy s q p' i' → (p ≡ p') × (i ≡ i')
Holds s place_0_unborn = (p i : ℕ) → ¬ SpawnedBy s 0 p i
Holds s children_in_pool = (q p i : ℕ) → SpawnedBy s q p i → in_pool s q ≡ true
Holds s targets_in_pool = (p k target : ℕ) (value : List ℕ) → sent (history_at s p) k ≡ some (letter target value) → in_pool s target ≡ true
Holds s once = (t : ℕ) → distinct (s.queues t ++ taken (history_at s t)) ≡ true
Holds s nothing_else = (t : ℕ) → All (SentTo s t) (s.queues t ++ taken (history_at s t))
Holds s prefixes = (p : ℕ) → Flows (history_at s p) (s.queues p)

-- ---- states by their places

-- a place of an example: its process, if it has one, and its queue
pub record Place : Type 0 where
  pub process : Option Process
  pub queue : List Message

unfoldable pub place_at : List Place → ℕ → Place
place_at [] p = record { process = none; queue = [] }
place_at (x ∷ places) zero = x
place_at (x ∷ places) (suc p) = place_at places p

-- a module, sizes, and the places from 0 on
pub record Example : Type 0 where
  pub code : List ℕ
  pub limits : Sizes
  pub places : List Place

unfoldable pub state : Example → State
state x = record { module' = x.code; sizes = x.limits; processes = λ p. (place_at x.places p).process; queues = λ p. (place_at x.places p).queue }

-- it breaks this clause and no other
pub record Breaks (c : Clause) (bad : Example) : Type 0 where
  pub broken : ¬ Holds (state bad) c
  pub others : (d : Clause) → d ≢ c → Holds (state bad) d
  pub not_sound : ¬ Sound (state bad)

-- a control, a history, newest first, and a queue
abbrev pub runs : List ℕ → List Entry → List Message → Place
runs control history queue = record { process = some (record { control = control; history = history }); queue = queue }

abbrev pub sized : ℕ → ℕ → ℕ → Sizes
sized p h w = record { places = p; entries = h; words = w }

-- function 0 is atom 5; P 2, H 4, W 16
abbrev pub five : List ℕ
five = 0x02000005 ∷ []

abbrev pub with : List Place → Example
with places = record { code = 0x12000000 ∷ five; limits = sized 2 4 16; places = places }

-- other sizes, and nothing done
abbrev pub of_sizes : ℕ → ℕ → ℕ → Example
of_sizes p h w = record { code = 0x12000000 ∷ five; limits = sized p h w; places = runs five [] [] ∷ [] }

-- place 0 alone, with a control or a history; places 0 and 1, with the histories of both and the queue of 1
abbrev pub standing : List ℕ → Example
standing control = with (runs control [] [] ∷ [])

abbrev pub alone : List Entry → Example
alone history = with (runs five history [] ∷ [])

abbrev pub two : List Entry → List Entry → List Message → Example
two history history-1 queue-1 = with (runs five history [] ∷ runs five history-1 queue-1 ∷ [])

-- `<1> ! 5`, and its entry; the spawn of 1; plain entries with a control before; the k-th message of 0
abbrev pub to_one : List ℕ
to_one = 0x0E020000 ∷ 0x04000001 ∷ 0x02000005 ∷ []

abbrev pub sends : Entry
sends = entry_with (send 1 five) to_one

abbrev pub spawns : Entry
spawns = entry_with (spawn 1) five

abbrev pub plain : List ℕ → Entry
plain before = entry_with seq before

abbrev pub message : ℕ → Message
message k = record { sender = 0; count = k; value = five }

-- `{0, 0, 0, 0, 0, 0, 0, 0}`, 17 words
abbrev pub long : List ℕ
long = 0x07080000 ∷ 0x03000000 ∷ 0 ∷ 0x03000000 ∷ 0 ∷ 0x03000000 ∷ 0 ∷ 0x03000000 ∷ 0 ∷ 0x03000000 ∷ 0 ∷ 0x03000000 ∷ 0 ∷ 0x03000000 ∷ 0 ∷ 0x03000000 ∷ 0 ∷ []

-- 0 spawned 1, sent it two messages and passed checkpoint 255; 1 took the first, and the second stands in its queue
abbrev pub good : Example
good = two (entry_with (check 255) five ∷ sends ∷ sends ∷ spawns ∷ []) (entry_with (rec [] (message 0) (message 1 ∷ [])) five ∷ []) (message 1 ∷ [])

-- `case <1> of X when {} -> 5 end`
abbrev pub guarded : Example
guarded = standing (0x0A010000 ∷ 0x04000001 ∷ 0x11030000 ∷ 0x01000000 ∷ 0x07000000 ∷ five)

-- ---- the table

pub record SoundSentences : Type 0 where
  pub together : (s : State) → Sound s ↔ ((c : Clause) → Holds s c)
  -- a sound state; most of the others differ from it or from a part of it in one thing
  pub sound : Sound (state good)
  -- "module and sizes pass load's tests"
  pub least : Sound (state (of_sizes 1 1 16))
  pub largest : Sound (state (of_sizes 16 64 255))
  pub places_17 : Breaks sizes_pass (of_sizes 17 4 16)
  pub entries_0 : Breaks sizes_pass (of_sizes 2 0 16)
  pub entries_65 : Breaks sizes_pass (of_sizes 2 65 16)
  pub words_256 : Breaks sizes_pass (of_sizes 2 4 256)
  pub words_15 : Breaks sizes_pass (of_sizes 2 4 15)
  pub bad_module : Breaks module_passes (record { code = 0x12000000 ∷ []; limits = sized 2 4 16; places = runs five [] [] ∷ [] })
  -- "the pool (place 0 always)", of P places
  pub nobody : Breaks place_0 (with [])
  pub place_P : Breaks pool_ends (record { code = 0x12000000 ∷ five; limits = sized 1 4 16; places = runs five (spawns ∷ []) [] ∷ runs five [] [] ∷ [] })
  -- only a process has a queue: that follows from the other clauses
  pub queue_follows : (s : State) → Holds s nothing_else → Holds s targets_in_pool → Holds s no_queue_elsewhere
  -- "a history of at most H entries"
  pub five_entries : Breaks history_fits (alone (plain five ∷ plain five ∷ plain five ∷ plain five ∷ plain five ∷ []))
  -- "a control of at most W words"
  pub too_long : Breaks controls (standing long)
  pub too_long_before : Breaks controls_before (alone (plain long ∷ []))
  -- "controls, those in entries too, are closed": `X`
  pub open_control : Breaks controls (standing (0x01000000 ∷ []))
  pub open_before : Breaks controls_before (alone (plain (0x01000000 ∷ []) ∷ []))
  -- "well shaped": no words, two terms, a clause, a pid of no place
  pub no_words : Breaks controls (standing [])
  pub two_terms : Breaks controls (standing (0x02000005 ∷ five))
  pub a_clause : Breaks controls (standing (0x11030000 ∷ 0x01000000 ∷ 0x02000000 ∷ five))
  pub far_pid : Breaks controls (standing (0x04000002 ∷ []))
  -- "keep the module's binding rules": `let X = 5 in let X = 5 in X`
  pub bound_again : Breaks controls (standing (0x0B020000 ∷ 0x02000005 ∷ 0x0B020000 ∷ 0x02000005 ∷ 0x01000000 ∷ []))
  -- "may hold pids outside patterns (and any values in guards)": not `case 5 of <1> -> 5 end`
  pub pid_in_pattern : Breaks controls (standing (0x0A010000 ∷ 0x02000005 ∷ 0x11030000 ∷ 0x04000001 ∷ 0x02000000 ∷ five))
  pub pid_and_guard : Sound (state guarded)
  -- "and name functions rightly": `apply 1()`, `apply 0(5)`
  pub no_function : Breaks controls (standing (0x09000001 ∷ []))
  pub wrong_count : Breaks controls (standing (0x09010000 ∷ five))
  -- "check numbers are 0..255": 255 stands in `good`
  pub check_256 : Breaks check_numbers (alone (entry_with (check 256) five ∷ []))
  -- "a send entry's target and value are those its control before is about to send"
  pub other_target : Breaks sends_said (two (entry_with (send 0 five) to_one ∷ spawns ∷ []) [] [])
  pub other_value : Breaks sends_said (two (entry_with (send 1 (0x02000006 ∷ [])) to_one ∷ spawns ∷ []) [] [])
  pub no_send : Breaks sends_said (two (entry_with (send 1 five) five ∷ spawns ∷ []) [] [])
  -- "a rec's message stands in its queue before, and what it left is that queue without it": no entry can break this
  -- "each pool place but 0 is the child of exactly one spawn entry, place 0 of none, children are in the pool"
  pub unborn : Breaks born (two [] [] [])
  pub born_twice : Breaks born_once (two (spawns ∷ spawns ∷ []) [] [])
  pub place_0_born : Breaks place_0_unborn (alone (entry_with (spawn 0) five ∷ []))
  pub child_gone : Breaks children_in_pool (alone (spawns ∷ []))
  -- "each send entry's target is in the pool"
  pub target_gone : Breaks targets_in_pool (alone (sends ∷ []))
  -- "and its message stands exactly once in flight, the target's queue and the messages the target's recs took, taken together":
  -- none is missing, since what has not come is in flight
  pub twice_queued : Breaks once (two (sends ∷ spawns ∷ []) [] (message 0 ∷ message 0 ∷ []))
  pub queued_and_taken : Breaks once (two (sends ∷ spawns ∷ []) (entry_with (rec [] (message 0) []) five ∷ []) (message 0 ∷ []))
  pub taken_twice : Breaks once (two (sends ∷ spawns ∷ []) (entry_with (rec [] (message 0) []) five ∷ entry_with (rec [] (message 0) []) five ∷ []) [])
  -- "nothing else is a message": never sent, another value, at another place
  pub never_sent : Breaks nothing_else (two (spawns ∷ []) [] (message 0 ∷ []))
  pub not_that_value : Breaks nothing_else (two (sends ∷ spawns ∷ []) [] (record { sender = 0; count = 0; value = 0x02000006 ∷ [] } ∷ []))
  pub never_sent_taken : Breaks nothing_else (two (spawns ∷ []) (entry_with (rec [] (message 0) []) five ∷ []) [])
  pub not_its_target : Breaks nothing_else (with (runs five (sends ∷ spawns ∷ []) (message 0 ∷ []) ∷ runs five [] [] ∷ []))
  -- "the queue left by each rec is a prefix of the queue before the next rec, or of the current one"
  pub not_in_current : Breaks prefixes (two (sends ∷ sends ∷ spawns ∷ []) (entry_with (rec [] (message 0) (message 1 ∷ [])) five ∷ []) [])
  pub not_in_next : Breaks prefixes (two (sends ∷ sends ∷ sends ∷ spawns ∷ []) (entry_with (rec (message 2 ∷ []) (message 1) []) five ∷ entry_with (rec [] (message 0) (message 1 ∷ [])) five ∷ []) (message 2 ∷ []))
