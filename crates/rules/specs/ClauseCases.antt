-- 01's lists clause by clause: for each clause a pair that it is about, and one beside it that it leaves alone.
use Rattle.std.specs.Prelude.{ℕ, ◌≡◌, true, false, List, [], ◌∷◌}
use Prim.Native.String.{String}
use Rattle.std.proofs.Math.Option.{none, some}
use Rattle.rules.specs.State.{Message, seq, send, rec, spawn, State, is_named}
use Rattle.rules.specs.Load.{loaded}
use Rattle.rules.specs.Text.{bytes}
use Rattle.rules.specs.Line.{lines_of, parse_line}
use Rattle.rules.specs.Replies.{perform}
use Rattle.rules.specs.Commands.{step, spawn_into, deliver, back, undeliver, makes, undoes, delivers, undelivers}
use Rattle.rules.specs.Independent.{IndependentDeeds}
use Rattle.rules.specs.Reverse.{reverse, amount_done}
use Rattle.rules.specs.Depends.{entries_of, deliveries_to, depends_at_once, event}
use Rattle.rules.specs.Opened.{opened}
use Rattle.rules.specs.Cases.{numbers, pair}
use Rattle.rules.specs.RollbackCases.{mail}
use Rattle.rules.specs.Bench.{bench_sizes}

-- the state after text commands, one a line
unfoldable pub state_after : State → List (List ℕ) → State
state_after s [] = s
state_after s (text ∷ texts) = elim (parse_line text) [ none ↦ s | some request ↦ state_after (perform request s).after texts ]

unfoldable pub ran : (module' : List ℕ) → String → State
unfolding opened state_after
ran module' text = state_after (loaded module' bench_sizes) (lines_of (bytes text))

-- A process 1 with two deliveries and a receive between them. Entries of 0: apply, spawn of 1, let, send 0.0, check 7, send 0.1. Of 1: apply,
-- check 8, let, and the receive of 0.0, before 0.1 came.
unfoldable pub mailed : State
unfolding ran
mailed = ran mail "step=0\nspawn=0,1\nstep=0\nstep=0\nstep=0\nstep=0\nstep=1\ndeliver=0,0\nstep=1\nstep=1\nstep=1\ndeliver=0,1\n"

-- "An event depends at once on: .."
pub record DependenceClauses : Type 0 where
  -- "older entries of its own process if it is an entry", and no newer one
  pub older_entry : depends_at_once mailed (event (entries_of 0) 3) (event (entries_of 0) 2) ≡ true
  pub newer_entry : depends_at_once mailed (event (entries_of 0) 2) (event (entries_of 0) 3) ≡ false
  -- "earlier deliveries to the process if it is a delivery", and no later one
  pub earlier_delivery : depends_at_once mailed (event (deliveries_to 1) 1) (event (deliveries_to 1) 0) ≡ true
  pub later_delivery : depends_at_once mailed (event (deliveries_to 1) 0) (event (deliveries_to 1) 1) ≡ false
  -- "deliveries in its queue before, if a rec", no other delivery, and none for another entry
  pub in_queue_before : depends_at_once mailed (event (entries_of 1) 3) (event (deliveries_to 1) 0) ≡ true
  pub not_in_queue_before : depends_at_once mailed (event (entries_of 1) 3) (event (deliveries_to 1) 1) ≡ false
  pub not_a_rec : depends_at_once mailed (event (entries_of 1) 2) (event (deliveries_to 1) 0) ≡ false
  -- "a rec of that process made before the message arrived, if a delivery", and no rec made after
  pub rec_before : depends_at_once mailed (event (deliveries_to 1) 1) (event (entries_of 1) 3) ≡ true
  pub rec_after : depends_at_once mailed (event (deliveries_to 1) 0) (event (entries_of 1) 3) ≡ false
  -- "the send of the message it delivers", and no other send
  pub its_send : depends_at_once mailed (event (deliveries_to 1) 0) (event (entries_of 0) 3) ≡ true
  pub other_send : depends_at_once mailed (event (deliveries_to 1) 0) (event (entries_of 0) 5) ≡ false
  -- "the spawn of the process it happens at", of an entry and of a delivery, and no other entry of the parent
  pub entry_spawned : depends_at_once mailed (event (entries_of 1) 0) (event (entries_of 0) 1) ≡ true
  pub delivery_spawned : depends_at_once mailed (event (deliveries_to 1) 0) (event (entries_of 0) 1) ≡ true
  pub other_of_parent : depends_at_once mailed (event (entries_of 1) 0) (event (entries_of 0) 2) ≡ false

abbrev pub some_message : Message
some_message = record { sender = 0; count = 0; value = 0x02000005 ∷ [] }

-- "Two different single steps accepted at one state are independent unless: .."
pub record IndependenceClauses : Type 0 where
  -- "both act on one process and neither is deliver or undeliver"
  pub one_process : ¬ IndependentDeeds (makes 0 seq) (undoes 0 0 seq)
  pub two_processes : IndependentDeeds (makes 0 seq) (undoes 1 0 seq)
  pub step_and_mail : IndependentDeeds (makes 1 seq) (delivers 0 0 1)
  -- "both are deliver or undeliver at one process"
  pub one_mailbox : ¬ IndependentDeeds (delivers 0 0 1) (undelivers 1)
  pub two_mailboxes : IndependentDeeds (delivers 0 0 1) (undelivers 2)
  -- "one is that at p and the other makes or undoes a receive at p"
  pub mail_and_receive : ¬ IndependentDeeds (delivers 0 1 1) (makes 1 (rec [] some_message []))
  pub mail_and_undone_receive : ¬ IndependentDeeds (undelivers 1) (undoes 1 0 (rec [] some_message []))
  pub receive_elsewhere : IndependentDeeds (delivers 0 1 1) (makes 2 (rec [] some_message []))
  -- "one undoes the spawn of q and the other acts at q or delivers to it"
  pub undone_spawn_and_act : ¬ IndependentDeeds (undoes 0 0 (spawn 1)) (makes 1 seq)
  pub undone_spawn_and_delivery : ¬ IndependentDeeds (undoes 0 0 (spawn 1)) (delivers 2 0 1)
  pub undone_spawn_elsewhere : IndependentDeeds (undoes 0 0 (spawn 1)) (delivers 2 0 3)
  -- "one delivers a message and the other undoes its send"
  pub delivery_and_undone_send : ¬ IndependentDeeds (delivers 0 0 1) (undoes 0 0 (send 1 []))
  pub delivery_of_another : IndependentDeeds (delivers 0 0 1) (undoes 0 1 (send 1 []))
  -- "both spawn into one place"
  pub one_place : ¬ IndependentDeeds (makes 0 (spawn 2)) (makes 1 (spawn 2))
  pub two_places : IndependentDeeds (makes 0 (spawn 2)) (makes 1 (spawn 3))

-- "A message is named by its sender and the count of sends already in that sender's history."
pub record NameClauses : Type 0 where
  pub its_name : is_named 0 0 some_message ≡ true
  pub another_sender : is_named 1 0 some_message ≡ false
  pub another_count : is_named 0 1 some_message ≡ false

-- The command that undoes the step just taken, or retakes the step just undone: each by its own command.
pub record ReverseClauses : Type 0 where
  pub of_step : reverse mailed (step 0) ≡ back 0
  pub of_spawn : reverse mailed (spawn_into 0 2) ≡ back 0
  pub of_delivery : reverse mailed (deliver 0 1) ≡ undeliver 1
  pub of_undone_send : reverse mailed (back 0) ≡ step 0
  pub of_undone_spawn : reverse (ran pair "step=0\nspawn=0,1\n") (back 0) ≡ spawn_into 0 1
  pub of_undelivery : reverse mailed (undeliver 1) ≡ deliver 0 1
  -- entries and delivered messages: 6 and 4 entries, one message taken and one in the queue
  pub amount : amount_done mailed ≡ 12

-- `apply 0()` becomes the body of function 0, a tuple of two tuples: of eight atoms, and of n; 11 words and those n
abbrev pub wide : ℕ → List ℕ → List ℕ
wide head atoms = 0x07020000 ∷ 0x07080000 ∷ 0x02000000 ∷ 0x02000000 ∷ 0x02000000 ∷ 0x02000000 ∷ 0x02000000 ∷ 0x02000000 ∷ 0x02000000 ∷ 0x02000000 ∷ head ∷ atoms

abbrev pub words16 : List ℕ
words16 = wide 0x07050000 (0x02000000 ∷ 0x02000000 ∷ 0x02000000 ∷ 0x02000000 ∷ 0x02000000 ∷ [])

abbrev pub words17 : List ℕ
words17 = wide 0x07060000 (0x02000000 ∷ 0x02000000 ∷ 0x02000000 ∷ 0x02000000 ∷ 0x02000000 ∷ 0x02000000 ∷ [])

-- the numbers that come back with P 1, H 1, W 16
unfoldable pub small : (module' : List ℕ) → String → List ℕ
unfolding opened numbers
small module' text = numbers (loaded module' (record { places = 1; entries = 1; words = 16 })) (lines_of (bytes text))

-- 9 "next control exceeds W", 10 "H entries stand", in this order
pub record RoomClauses : Type 0 where
  pub exact_fit : small (0x12000000 ∷ words16) "step=0" ≡ 0 ∷ []
  pub too_large_lem : small (0x12000000 ∷ words17) "step=0" ≡ 9 ∷ []
  pub history_full_lem : small (0x12000000 ∷ 0x09000001 ∷ 0x12000000 ∷ words16) "step=0\nstep=0" ≡ 0 ∷ 10 ∷ []
  pub too_large_first : small (0x12000000 ∷ 0x09000001 ∷ 0x12000000 ∷ words17) "step=0\nstep=0" ≡ 0 ∷ 9 ∷ []

pub record ClauseCases : Type 0 where
  pub dependence : DependenceClauses
  pub independence : IndependenceClauses
  pub names : NameClauses
  pub reverses : ReverseClauses
  pub room : RoomClauses
