-- What a process is about to do, its next control and its next entry, said of the state that a store holds.
use Rattle.std.specs.Prelude.{ℕ, ◌≤◌, ◌≡◌, List, ◌∷◌, ◌++◌, length, take, Ok, Err}
use Rattle.std.proofs.Math.Option.{Option, none, some}
use Rattle.term.specs.Words.{word, tag_atom, tag_pid}
use Rattle.machine.specs.Work.{Work, to_seq, to_send, to_receive, to_spawn, to_self, to_check, work}
use Rattle.step.specs.Steps.{Next, fitted_of, WroteNext}
use Rattle.step.specs.Becomes.{RowIs}
use Rattle.step.specs.declared.step.NoNext.TheVariants.{Nothing}
use Rattle.rules.specs.State.{Message, Kind, rec, spawn, as_rec, Process, State, history_at}
use Rattle.rules.specs.Sound.{SentTo}
use Rattle.rules.specs.Load.{new_process}
use Rattle.rules.specs.Commands.{Beside, nothing, own_queue, other, picked, pick, making}
use Rattle.rules.specs.Commands
use Rattle.store.specs.Layout.{kind_number, number_in, name_word}
use Rattle.calls.specs.Numbers.{Answer}
use Rattle.calls.specs.Answering.{Obeys}
use Rattle.reading.specs.Reads.{Holds, control_at}
use Rattle.making.specs.declared.picking.Picked.{Picked}

-- ---- what a process is about to do

unfoldable pub about : State → ℕ → Work
about s p = work s.module' (control_at s p)

-- ---- its next control

-- a buffer with room for a control
abbrev pub Sized : List ℕ → State → Type 0
Sized out s = length out ≡ s.sizes.words

unfoldable pub SeqRow : (p : ℕ) (old new : List ℕ) → Next → State → Type 0
SeqRow p old new r s = (row : List ℕ) → about s p ≡ to_seq row → WroteNext row old new r

unfoldable pub SendRow : (p : ℕ) (old new : List ℕ) → Next → State → Type 0
SendRow p old new r s = (target : ℕ) (value row : List ℕ) → about s p ≡ to_send target value row → WroteNext row old new r

-- the word w in the working place: the process's own pid, the child's, or a check's atom
pub record WordRow (p w : ℕ) (old new : List ℕ) (r : Next) (s : State) : Type 0 where
  pub of_self : (rows : ℕ → List ℕ) (q : ℕ) → about s p ≡ to_self rows → w ≡ word tag_pid 0 q → WroteNext (rows q) old new r
  pub of_spawn : (first : List ℕ) (rows : ℕ → List ℕ) (q : ℕ) → about s p ≡ to_spawn first rows → w ≡ word tag_pid 0 q → WroteNext (rows q) old new r
  pub of_check : (number : ℕ) (row : List ℕ) → about s p ≡ to_check number row → w ≡ word tag_atom 0 number → WroteNext row old new r

unfoldable pub ChildRow : (p : ℕ) (old new : List ℕ) → Next → State → Type 0
ChildRow p old new r s = (first : List ℕ) (rows : ℕ → List ℕ) → about s p ≡ to_spawn first rows → WroteNext first old new r

-- ---- the message that a receive takes

-- a message of that name was sent to p
pub record IsSent (p name : ℕ) (s : State) : Type 0 where
  pub message : Message
  pub said : SentTo s p message
  pub named : name_word message ≡ name

unfoldable pub ValueSent : (p name : ℕ) → List ℕ → State → Type 0
ValueSent p name value s = (m : Message) → SentTo s p m → name_word m ≡ name → value ≡ m.value

unfoldable pub TakenRow : (p name : ℕ) (old new : List ℕ) → Next → State → Type 0
TakenRow p name old new r s =
    (takes : List ℕ → Option (List ℕ)) (m : Message) → about s p ≡ to_receive takes → SentTo s p m → name_word m ≡ name → RowIs (takes m.value) old new r

-- nothing was written where no message is taken; else the place of the oldest that is taken is told, and the next control
unfoldable pub PickIs : Option Commands.Picked → (old new : List ℕ) → Picked → Type 0
PickIs none old new r = r.next ≡ Err Nothing
PickIs (some (picked older m newer row)) old new r = (length older ≡ r.place) × WroteNext row old new r.next

unfoldable pub PickedRow : (p : ℕ) (old new : List ℕ) → Picked → State → Type 0
PickedRow p old new r s = (takes : List ℕ → Option (List ℕ)) → about s p ≡ to_receive takes → PickIs (pick takes (s.queues p)) old new r

-- ---- one entry more

-- a told length lies within a buffer
unfoldable pub Within : Next → ℕ → Type 0
Within (Err e) size = Unit {0}
Within (Ok n) size = n ≤ size

-- the next control stands at the start of a buffer where it has at most W words, and it is told whether it has
pub record Drawn (most : ℕ) (whole row : List ℕ) (next : Next) : Type 0 where
  pub told : next ≡ fitted_of (length whole) most
  pub stands : length whole ≤ most → take (length whole) row ≡ whole

abbrev pub process_at : State → ℕ → Process
process_at s p = record { control = control_at s p; history = history_at s p }

-- what p makes is obeyed: 9, 10, or an entry more
unfoldable pub Made : (p : ℕ) → Kind → Beside → Next → (row : List ℕ) → State → (rest exit : List ℕ) → Answer → Type 0
Made p what beside next row s rest exit r = (whole : List ℕ) → Drawn s.sizes.words whole row next → Obeys (making s p (process_at s p) what whole beside) s rest exit r

-- an entry that is neither a rec nor a spawn
unfoldable pub MakesEntry : (p kind number : ℕ) → Next → (row entry exit : List ℕ) → Answer → Type 0
MakesEntry p kind number next row entry exit r =
    (s : State) (rest : List ℕ) (what : Kind) → Holds entry s rest → kind_number what ≡ kind → number_in what ≡ number → as_rec what ≡ none
    → Made p what nothing next row s rest exit r

-- a rec of the message at a place of the queue; the next control has n words
unfoldable pub MakesRec : (p place n : ℕ) (row entry exit : List ℕ) → Answer → Type 0
MakesRec p place n row entry exit r =
    (s : State) (rest : List ℕ) (older : List Message) (m : Message) (newer : List Message) → Holds entry s rest → s.queues p ≡ older ++ (m ∷ newer) → length older ≡ place
    → Made p (rec older m newer) (own_queue (older ++ newer)) (Ok n) row s rest exit r

-- a spawn into place f
unfoldable pub MakesSpawn : (p f : ℕ) → Next → (row first entry exit : List ℕ) → Answer → Type 0
MakesSpawn p f next row first entry exit r =
    (s : State) (rest : List ℕ) → Holds entry s rest → Made p (spawn f) (other f (some (new_process first))) next row s rest exit r
