-- States. 01: "A state is the module and sizes, the pool .., for each process a control .., a history .. and a queue, and the messages
-- in flight." The messages in flight are computed from the rest (Flight).
use Rattle.std.specs.Prelude.{ℕ, Bool, true, false, cond, ◌&&◌, List, [], ◌∷◌, eqb, length}
use Rattle.std.proofs.Math.Option.{Option, none, some}
use Rattle.lists.specs.Lists.{same_list}

-- P process places, H history entries for each process, W words for an expression
pub record Sizes : Type 0 where
  pub places : ℕ
  pub entries : ℕ
  pub words : ℕ

-- "A message is named by its sender and the count of sends already in that sender's history." Its value is a row of words.
pub record Message : Type 0 where
  pub sender : ℕ
  pub count : ℕ
  pub value : List ℕ

-- a name in one word, as stores have it: sender × name_base + count
abbrev pub name_base : ℕ
name_base = 65536

-- what an entry holds besides the control before. A rec's queue before is what stood ahead of its message, the message, and what stood
-- behind it; so its message stands in it, and what it left is that queue without it.
pub data Kind : Type 0 where
  seq : Kind
  send : (target : ℕ) (value : List ℕ) → Kind
  rec : (ahead : List Message) (message : Message) (behind : List Message) → Kind
  spawn : (child : ℕ) → Kind
  self : Kind
  check : (number : ℕ) → Kind

-- what a send sent; what a rec took, with what stood ahead of it and behind it in the queue; a spawn's child; a check's number
pub data Letter : Type 0 where
  letter : (target : ℕ) (value : List ℕ) → Letter

pub data Taking : Type 0 where
  taking : (ahead : List Message) (message : Message) (behind : List Message) → Taking

unfoldable pub as_send : Kind → Option Letter
as_send seq = none
as_send (send target value) = some (letter target value)
as_send (rec ahead message behind) = none
as_send (spawn child) = none
as_send self = none
as_send (check number) = none

unfoldable pub as_rec : Kind → Option Taking
as_rec seq = none
as_rec (send target value) = none
as_rec (rec ahead message behind) = some (taking ahead message behind)
as_rec (spawn child) = none
as_rec self = none
as_rec (check number) = none

unfoldable pub as_spawn : Kind → Option ℕ
as_spawn seq = none
as_spawn (send target value) = none
as_spawn (rec ahead message behind) = none
as_spawn (spawn child) = some child
as_spawn self = none
as_spawn (check number) = none

unfoldable pub as_check : Kind → Option ℕ
as_check seq = none
as_check (send target value) = none
as_check (rec ahead message behind) = none
as_check (spawn child) = none
as_check self = none
as_check (check number) = some number

pub record Entry : Type 0 where
  pub kind : Kind
  pub before : List ℕ

-- the history stands newest first
pub record Process : Type 0 where
  pub control : List ℕ
  pub history : List Entry

-- A place holds a process if it is in the pool. Queues stand oldest first.
pub record State : Type 0 where
  pub module' : List ℕ
  pub sizes : Sizes
  pub processes : ℕ → Option Process
  pub queues : ℕ → List Message

-- the history at a place, which is empty where no process is
unfoldable pub history_of : Option Process → List Entry
history_of none = []
history_of (some process) = process.history

unfoldable pub history_at : State → ℕ → List Entry
history_at s p = history_of (s.processes p)

-- entry number i of a history, counted from 0 and the oldest
unfoldable pub entry_at : List Entry → ℕ → Option Entry
entry_at [] i = none
entry_at (e ∷ older) i = cond (eqb (length older) i) (some e) (entry_at older i)

unfoldable pub is_process : Option Process → Bool
is_process none = false
is_process (some process) = true

-- p is in the pool
unfoldable pub in_pool : State → ℕ → Bool
in_pool s p = is_process (s.processes p)

-- the message has this name
unfoldable pub is_named : ℕ → ℕ → Message → Bool
is_named s k m = eqb m.sender s && eqb m.count k

-- the same message, value and all
unfoldable pub same_message : Message → Message → Bool
same_message m n = is_named n.sender n.count m && same_list m.value n.value

unfoldable pub same_queue : List Message → List Message → Bool
same_queue [] [] = true
same_queue [] (n ∷ ns) = false
same_queue (m ∷ ms) [] = false
same_queue (m ∷ ms) (n ∷ ns) = same_message m n && same_queue ms ns
