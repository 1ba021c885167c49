-- Reading a state off its slots: a message's value is what its sender's entry is about to send, a rec's parts stand in its queue before.
use Prim.Native.Nat.{ℕ, ◌/◌, ◌%◌, ◌≤◌, ◌<◌}
use mathlib.Core.Path.{◌≡◌, refl, sym, ◌∙◌, ap}
use mathlib.Core.Bool.{cond}
use mathlib.Core.Option.{Option, none, some}
use mathlib.Core.List.{List, [], ◌∷◌, ◌++◌, map, reverse, reverse-reverse, tail}
use native.Mathlib.Omega.{arith}
use lib.Dec.{eqb}
use lib.ListN.{length, take, drop}
use lib.Seq.{take-append_seam, drop-append_seam}
use Rattle.lists.specs.Lists.{All}
use Rattle.lists.proofs.All.{all_so, all_any, map_same, map_reverse, maps_after}
use Rattle.machine.specs.Work.{Work, finished, stuck, to_seq, to_send, to_receive, to_spawn, to_self, to_check, work}
use Rattle.rules.specs.State.{Message, Kind, seq, send, rec, spawn, self, check, Letter, letter, as_send, as_rec, Entry, Process, State, history_of, history_at}
use Rattle.rules.specs.Flight.{count_letter, sends, letter_or, sent}
use Rattle.rules.specs.Sound.{AboutToSend}
use Rattle.rules.specs.Depends.{queue_before}
use Rattle.store.specs.Layout.{names_room, name_base, name_word, kind_send, kind_rec, kind_spawn, kind_self, kind_check, Slot, kind_number, number_in, entry_slot, place_slots, slots_at}

-- ---- reading

-- what a control is about to send, as a kind
unfoldable pub send_kind : Work → Kind
send_kind finished = seq
send_kind stuck = seq
send_kind (to_seq next) = seq
send_kind (to_send target value next) = send target value
send_kind (to_receive takes) = seq
send_kind (to_spawn child next) = seq
send_kind (to_self next) = seq
send_kind (to_check number next) = seq

unfoldable pub value_of : Option Letter → List ℕ
value_of none = []
value_of (some (letter target value)) = value

-- a queue taken apart at the message that a rec took
unfoldable pub rec_of : List Message → List Message → Kind
rec_of older [] = seq
rec_of older (m ∷ newer) = rec older m newer

module _ (module' : List ℕ) where
  -- an entry with its kind only if it is a send
  unfoldable pub read_send : Slot → Entry
  read_send x = record { kind = cond (eqb x.kind kind_send) (send_kind (work module' x.control)) seq; before = x.control }

  -- the entries of a place so read, newest first
  unfoldable pub read_sends : List Slot → List Entry
  read_sends xs = map read_send (reverse (tail xs))

-- from the slots of all places
module _ (module' : List ℕ) (places : ℕ → List Slot) where
  unfoldable pub read_message : ℕ → Message
  read_message w = record { sender = w / name_base; count = w % name_base; value = value_of (sent (read_sends module' (places (w / name_base))) (w % name_base)) }

  unfoldable pub read_kind : (kind number : ℕ) (control names : List ℕ) → Kind
  read_kind kind number control names =
      cond (eqb kind kind_send) (send_kind (work module' control))
      (cond (eqb kind kind_rec) (rec_of (take number (map read_message names)) (drop number (map read_message names)))
      (cond (eqb kind kind_spawn) (spawn number)
      (cond (eqb kind kind_self) self
      (cond (eqb kind kind_check) (check number) seq))))

  unfoldable pub read_entry : Slot → Entry
  read_entry x = record { kind = read_kind x.kind x.number x.control x.names; before = x.control }

  unfoldable pub read_process : List Slot → Option Process
  read_process [] = none
  read_process (x ∷ xs) = some (record { control = x.control; history = map read_entry (reverse xs) })

  unfoldable pub read_queue : List Slot → List Message
  read_queue [] = []
  read_queue (x ∷ xs) = map read_message x.names

-- ---- what a state must be so that its slots say all of it

-- a message is one that was sent
pub record Kept (s : State) (m : Message) : Type 0 where
  pub target : ℕ
  pub said : sent (history_at s m.sender) m.count ≡ some (letter target m.value)
  pub small : m.count < name_base

pub record KeptQueue (s : State) (queue : List Message) : Type 0 where
  pub each : All (Kept s) queue
  pub fits : length queue ≤ names_room s.sizes

pub record KeptEntry (s : State) (e : Entry) : Type 0 where
  pub before_fits : length e.before ≤ s.sizes.words
  pub sends_said : (target : ℕ) (value : List ℕ) → as_send e.kind ≡ some (letter target value) → AboutToSend s e.before target value
  pub queue : KeptQueue s (queue_before (as_rec e.kind))

module _ (s : State) where
  -- a send is read as it was
  kind_read : (kind : Kind) (before : List ℕ) → ((target : ℕ) (value : List ℕ) → as_send kind ≡ some (letter target value) → AboutToSend s before target value)
      → as_send (cond (eqb (kind_number kind) kind_send) (send_kind (work s.module' before)) seq) ≡ as_send kind
  unfolding kind_number as_send send_kind
  kind_read seq before said = refl
  kind_read (send target value) before said = ap (λ (w : Work). as_send (send_kind w)) (said target value refl).sends
  kind_read (rec older m newer) before said = refl
  kind_read (spawn child) before said = refl
  kind_read self before said = refl
  kind_read (check number) before said = refl

-- what was sent is said by the entries' sends alone
module _ {A : Type 0} (f g : A → Entry) where
  alike_sends : (xs : List A) → All (λ x. as_send (f x).kind ≡ as_send (g x).kind) xs → sends (map f xs) ≡ sends (map g xs)
  unfolding sends All
  alike_sends [] a = refl
  alike_sends (x ∷ xs) a = λ i. count_letter (a.0 i) (alike_sends xs a.1 i)

  pub alike_sent : (xs : List A) (k : ℕ) → All (λ x. as_send (f x).kind ≡ as_send (g x).kind) xs → sent (map f xs) k ≡ sent (map g xs) k
  unfolding sent All
  alike_sent [] k a = refl
  alike_sent (x ∷ xs) k a = λ i. letter_or (a.0 i) (alike_sends xs a.1 i) k (alike_sent xs k a.1 i)

-- the slots of a history, turned round and read, are the history read
pub turned : {A : Type 0} (f : Slot → A) (h : List Entry) → map f (reverse (map entry_slot (reverse h))) ≡ map (λ e. f (entry_slot e)) h
turned f h =
    ap (λ (xs : List Slot). map f (reverse xs)) (map_reverse entry_slot h)
    ∙ ap (map f) (reverse-reverse (map entry_slot h))
    ∙ maps_after entry_slot f h

module _ (s : State) (kept : (p : ℕ) → All (KeptEntry s) (history_at s p)) where
  sent_read : (p k : ℕ) → sent (read_sends s.module' (slots_at s p)) k ≡ sent (history_at s p) k
  unfolding read_send read_sends slots_at history_at place_slots history_of sent
  sent_read p k = go (s.processes p) (s.queues p) (kept p)
    where
      go : (o : Option Process) (queue : List Message) → All (KeptEntry s) (history_of o) → sent (map (read_send s.module') (reverse (tail (place_slots o queue)))) k ≡ sent (history_of o) k
      go none queue a = refl
      go (some process) queue a =
          ap (λ (h : List Entry). sent h k) (turned (read_send s.module') process.history)
          ∙ alike_sent (λ e. read_send s.module' (entry_slot e)) (λ e. e) process.history k (all_so (λ e x. kind_read s e.kind e.before x.sends_said) process.history a)
          ∙ ap (λ (h : List Entry). sent h k) (map_same (λ e. e) process.history (all_any (λ e. refl) process.history))

  -- a message is read as it was
  message_read : (m : Message) → Kept s m → read_message s.module' (slots_at s) (name_word m) ≡ m
  unfolding read_message value_of
  message_read m x =
      let small = x.small in
      let sender_read : name_word m / name_base ≡ m.sender = omega arith in
      let count_read : name_word m % name_base ≡ m.count = omega arith in
      let value_read : value_of (sent (read_sends s.module' (slots_at s (name_word m / name_base))) (name_word m % name_base)) ≡ m.value =
      (λ i. value_of (sent (read_sends s.module' (slots_at s (sender_read i))) (count_read i)))
      ∙ ap value_of (sent_read m.sender m.count ∙ x.said) in
      λ i. record { sender = sender_read i; count = count_read i; value = value_read i }

  queue_read : (queue : List Message) → All (Kept s) queue → map (read_message s.module' (slots_at s)) (map name_word queue) ≡ queue
  queue_read queue a = maps_after name_word (read_message s.module' (slots_at s)) queue ∙ map_same (λ m. read_message s.module' (slots_at s) (name_word m)) queue (all_so message_read queue a)

  -- an entry is read as it was
  rec_read : (older : List Message) (m : Message) (newer queue : List Message) → queue ≡ older ++ (m ∷ newer) → rec_of (take (length older) queue) (drop (length older) queue) ≡ rec older m newer
  unfolding rec_of
  rec_read older m newer queue e =
      ap (λ (q : List Message). rec_of (take (length older) q) (drop (length older) q)) e
      ∙ (λ i. rec_of (take-append_seam older (m ∷ newer) i) (drop-append_seam older (m ∷ newer) i))

  kind_read_whole : (kind : Kind) (before : List ℕ) → ((target : ℕ) (value : List ℕ) → as_send kind ≡ some (letter target value) → AboutToSend s before target value)
      → All (Kept s) (queue_before (as_rec kind)) → read_kind s.module' (slots_at s) (kind_number kind) (number_in kind) before (map name_word (queue_before (as_rec kind))) ≡ kind
  unfolding read_kind kind_number number_in as_rec as_send queue_before send_kind
  kind_read_whole seq before said a = refl
  kind_read_whole (send target value) before said a = ap send_kind (said target value refl).sends
  kind_read_whole (rec older m newer) before said a = rec_read older m newer _ (queue_read (older ++ (m ∷ newer)) a)
  kind_read_whole (spawn child) before said a = refl
  kind_read_whole self before said a = refl
  kind_read_whole (check number) before said a = refl

  entry_read : (e : Entry) → KeptEntry s e → read_entry s.module' (slots_at s) (entry_slot e) ≡ e
  unfolding read_entry
  entry_read e x = λ i. record { kind = kind_read_whole e.kind e.before x.sends_said x.queue.each i; before = e.before }

  -- a place is read as it was
  pub process_read : (p : ℕ) → read_process s.module' (slots_at s) (slots_at s p) ≡ s.processes p
  unfolding slots_at history_at read_process place_slots history_of
  process_read p = go (s.processes p) (s.queues p) (kept p)
    where
      go : (o : Option Process) (queue : List Message) → All (KeptEntry s) (history_of o) → read_process s.module' (slots_at s) (place_slots o queue) ≡ o
      go none queue a = refl
      go (some process) queue a =
          let whole = turned (read_entry s.module' (slots_at s)) process.history ∙ map_same (λ e. read_entry s.module' (slots_at s) (entry_slot e)) process.history (all_so entry_read process.history a) in
          λ i. some (record { control = process.control; history = whole i })

  pub queue_at_read : (p : ℕ) → All (Kept s) (s.queues p) → (s.processes p ≡ none → s.queues p ≡ []) → read_queue s.module' (slots_at s) (slots_at s p) ≡ s.queues p
  unfolding slots_at read_queue place_slots
  queue_at_read p a none_there = go (s.processes p) none_there
    where
      go : (o : Option Process) → (o ≡ none → s.queues p ≡ []) → read_queue s.module' (slots_at s) (place_slots o (s.queues p)) ≡ s.queues p
      go none n = sym (n refl)
      go (some process) n = queue_read (s.queues p) a
