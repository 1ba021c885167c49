-- Soundness said of slots is soundness of the state that is read of them, and the other way round.
use Prim.Native.Nat.{ℕ, ◌≤◌}
use mathlib.Core.Path.{◌≡◌, refl, sym, ◌∙◌, ap, subst, subst₂}
use mathlib.Core.Bool.{false}
use mathlib.Core.Option.{Option, none, some}
use mathlib.Core.List.{List, [], ◌∷◌, ◌++◌, map, map-append, reverse, tail}
use native.Mathlib.Omega.{arith}
use lib.ListN.{length, get_elem?, length-map, length-reverse}
use Rattle.lists.specs.Lists.{All}
use Rattle.lists.proofs.Tests.{none_not_some, some_injective, true_not_false}
use Rattle.lists.proofs.All.{all_so, all_map, all_reverse, all_element, all_elements}
use Rattle.machine.specs.Work.{to_send}
use Rattle.rules.specs.State.{Sizes, Message, letter, as_send, as_spawn, as_check, Entry, Process, State, history_at, entry_at, in_pool}
use Rattle.rules.specs.Flight.{taken}
use Rattle.rules.specs.Sound.{SoundControl, AboutToSend, SpawnedBy, SentTo, Flows, distinct, Sound}
use Rattle.store.specs.Layout.{kind_spawn, Slot}
use Rattle.store.proofs.Restoring.{read_message, read_entry, read_process}
use Rattle.store.proofs.Decoding.{restored}
use Rattle.store.proofs.Histories.{all_entry}
use Rattle.store.proofs.SlotViews.{EntryShape, seq_slot, send_slot, rec_slot, spawn_slot, self_slot, check_slot, messages_of, read_seq, read_send_lem, read_rec, read_spawn, read_self, read_check}
use Rattle.store.proofs.SoundSlots.{is_live, names_in, taken_names, Passes, newest_first, arrived, SpawnSlot, Shaped, SoundSlots}
use Rattle.store.proofs.SlotHistories.{mapped, entry_slot, taken_read, flows_read, flows_back, read_state, history_read, pool_read, queue_read, sent_read}
use Rattle.store.proofs.SlotNames.{distinct_read, once_back, all_said_read, all_said_back}

module _ (module' : List ℕ) (sizes : Sizes) (places : ℕ → List Slot) (shaped : Shaped module' places) where
  abbrev read : Slot → Entry
  read x = read_entry module' places x

  abbrev state : State
  state = read_state module' sizes places

  newest_shaped : (p : ℕ) → All (EntryShape module') (newest_first places p)
  newest_shaped p = all_reverse (EntryShape module') (tail (places p)) (shaped.entries p)

  -- what is said of each slot holds of each entry
  each_entry : (Q : Slot → Type 0) (P : Entry → Type 0) (p i : ℕ) (e : Entry) → ((x : Slot) → Q x → P (read x)) → All Q (tail (places p)) → entry_at (history_at state p) i ≡ some e → P e
  each_entry Q P p i e f a stands =
      all_entry P (map read (newest_first places p)) i (all_map P read (newest_first places p) (all_so f (newest_first places p) (all_reverse Q (tail (places p)) a)))
      (ap (λ (h : List Entry). entry_at h i) (sym (history_read module' sizes places p)) ∙ stands)

  -- all that came to t
  arrived_read : (t : ℕ) → state.queues t ++ taken (history_at state t) ≡ messages_of module' places (arrived places t)
  arrived_read t =
      (λ i. queue_read module' sizes places t i ++ taken (history_read module' sizes places t i))
      ∙ ap (λ (ms : List Message). messages_of module' places (names_in (places t)) ++ ms) (taken_read module' places (newest_first places t) (newest_shaped t))
      ∙ sym (map-append (read_message module' places) (names_in (places t)) (taken_names (newest_first places t)))

  entry_read : (p i : ℕ) → entry_at (history_at state p) i ≡ mapped read (get_elem? (tail (places p)) i)
  entry_read p i = ap (λ (h : List Entry). entry_at h i) (history_read module' sizes places p) ∙ entry_slot read (tail (places p)) i

  -- spawns
  spawn_read : (q p i : ℕ) → SpawnSlot places q p i → SpawnedBy state q p i
  unfolding as_spawn
  spawn_read q p i x = record {
    entry = read x.slot;
    stands = entry_read p i ∙ ap (mapped read) x.stands;
    spawns = ap as_spawn (read_spawn module' places x.slot x.is_spawn) ∙ ap some x.child;
  }

  -- a slot whose entry is a spawn is a spawn's
  spawn_shape : (q : ℕ) (x : Slot) → EntryShape module' x → as_spawn (read x).kind ≡ some q → (x.kind ≡ kind_spawn) × (x.number ≡ q)
  unfolding as_spawn
  spawn_shape q x (seq_slot k n names) e = none_not_some (sym (ap as_spawn (read_seq module' places x k)) ∙ e)
  spawn_shape q x (send_slot k n names target value next w) e = none_not_some (sym (ap as_spawn (read_send_lem module' places x k target value next w)) ∙ e)
  spawn_shape q x (rec_slot k h) e = none_not_some (sym (ap as_spawn (read_rec module' places x k h)) ∙ e)
  spawn_shape q x (spawn_slot k names) e = (k, some_injective (sym (ap as_spawn (read_spawn module' places x k)) ∙ e))
  spawn_shape q x (self_slot k n names) e = none_not_some (sym (ap as_spawn (read_self module' places x k)) ∙ e)
  spawn_shape q x (check_slot k h names) e = none_not_some (sym (ap as_spawn (read_check module' places x k)) ∙ e)

  spawn_back : (q p i : ℕ) → SpawnedBy state q p i → SpawnSlot places q p i
  spawn_back q p i x = go (get_elem? (tail (places p)) i) refl (sym (entry_read p i) ∙ x.stands)
    where
      go : (o : Option Slot) → get_elem? (tail (places p)) i ≡ o → mapped read o ≡ some x.entry → SpawnSlot places q p i
      go none e f = none_not_some f
      go (some y) e f =
          let r = spawn_shape q y (all_element (EntryShape module') (tail (places p)) i (shaped.entries p) e) (ap (λ (z : Entry). as_spawn z.kind) (some_injective f) ∙ x.spawns) in
          record { slot = y; stands = e; is_spawn = r.0; child = r.1 }

  history_length : (p : ℕ) → length (history_at state p) ≡ length (tail (places p))
  history_length p = ap length (history_read module' sizes places p) ∙ length-map (newest_first places p) read ∙ length-reverse (tail (places p))

  -- ---- from slots to the state

  module _ (x : SoundSlots module' sizes places) where
    passes_sound : (control : List ℕ) → Passes module' sizes control → SoundControl state control
    unfolding restored
    passes_sound control c = record { good = c.good; fits = c.fits }

    -- check numbers and sends are in the shapes
    check_said : (y : Slot) → EntryShape module' y → (number : ℕ) → as_check (read y).kind ≡ some number → number ≤ 255
    unfolding as_check
    check_said y (seq_slot k n names) number e = none_not_some (sym (ap as_check (read_seq module' places y k)) ∙ e)
    check_said y (send_slot k n names target value next w) number e = none_not_some (sym (ap as_check (read_send_lem module' places y k target value next w)) ∙ e)
    check_said y (rec_slot k h) number e = none_not_some (sym (ap as_check (read_rec module' places y k h)) ∙ e)
    check_said y (spawn_slot k names) number e = none_not_some (sym (ap as_check (read_spawn module' places y k)) ∙ e)
    check_said y (self_slot k n names) number e = none_not_some (sym (ap as_check (read_self module' places y k)) ∙ e)
    check_said y (check_slot k h names) number e = let same = some_injective (sym (ap as_check (read_check module' places y k)) ∙ e) in omega arith

    send_said : (y : Slot) → EntryShape module' y → (target : ℕ) (value : List ℕ) → as_send (read y).kind ≡ some (letter target value) → AboutToSend state (read y).before target value
    unfolding as_send restored read_entry
    send_said y (seq_slot k n names) target value e = none_not_some (sym (ap as_send (read_seq module' places y k)) ∙ e)
    send_said y (send_slot k n names t v next w) target value e =
        let same = some_injective (sym (ap as_send (read_send_lem module' places y k t v next w)) ∙ e) in
        let a : t ≡ target = cc in
        let b : v ≡ value = cc in
        record { next = next; sends = w ∙ (λ i. to_send (a i) (b i) next) }
    send_said y (rec_slot k h) target value e = none_not_some (sym (ap as_send (read_rec module' places y k h)) ∙ e)
    send_said y (spawn_slot k names) target value e = none_not_some (sym (ap as_send (read_spawn module' places y k)) ∙ e)
    send_said y (self_slot k n names) target value e = none_not_some (sym (ap as_send (read_self module' places y k)) ∙ e)
    send_said y (check_slot k h names) target value e = none_not_some (sym (ap as_send (read_check module' places y k)) ∙ e)

    live_process : (p : ℕ) (process : Process) → state.processes p ≡ some process → SoundControl state process.control
    unfolding restored read_process
    live_process p process e = go (places p) refl e
      where
        go : (xs : List Slot) → places p ≡ xs → read_process module' places xs ≡ some process → SoundControl state process.control
        go [] s e = none_not_some e
        go (y ∷ ys) s e = subst (λ (z : Process). SoundControl state z.control) (some_injective e) (passes_sound y.control (x.controls p y ys s))

    -- no process, no queue
    no_queue : (p : ℕ) → in_pool state p ≡ false → state.queues p ≡ []
    unfolding is_live names_in
    no_queue p e = queue_read module' sizes places p ∙ go (places p) (sym (pool_read module' sizes places p) ∙ e)
      where
        go : (xs : List Slot) → is_live xs ≡ false → messages_of module' places (names_in xs) ≡ []
        go [] e = refl
        go (y ∷ ys) e = true_not_false refl e

    pub slots_sound : Sound state
    unfolding restored read_entry
    slots_sound = record {
      sizes_pass = x.sizes_pass;
      module_passes = x.module_passes;
      place_0 = pool_read module' sizes places 0 ∙ x.place_0;
      pool_ends = λ p h. pool_read module' sizes places p ∙ x.places_end p h;
      no_queue_elsewhere = no_queue;
      history_fits = λ p. omega (arith, history_length p, x.entries_fit p);
      controls = live_process;
      controls_before = λ p i e stands. each_entry (λ y. Passes module' sizes y.control) (λ z. SoundControl state z.before) p i e (λ y c. passes_sound y.control c) (x.controls_before p) stands;
      check_numbers = λ p i number e stands says. each_entry (EntryShape module') (λ y. (n : ℕ) → as_check y.kind ≡ some n → n ≤ 255) p i e check_said (shaped.entries p) stands number says;
      sends_said = λ p i target value e stands says. each_entry (EntryShape module') (λ y. (t : ℕ) (v : List ℕ) → as_send y.kind ≡ some (letter t v) → AboutToSend state y.before t v) p i e send_said (shaped.entries p) stands target value says;
      born = λ q e n. let b = x.births.born q (sym (pool_read module' sizes places q) ∙ e) n in (b.0, b.1, spawn_read q b.0 b.1 b.2);
      born_once = λ q p i p' i' a b. x.births.born_once q p i p' i' (spawn_back q p i a) (spawn_back q p' i' b);
      place_0_unborn = λ p i a. x.births.place_0_unborn p i (spawn_back 0 p i a);
      children_in_pool = λ q p i a. pool_read module' sizes places q ∙ x.births.children_live q p i (spawn_back q p i a);
      targets_in_pool = λ p k target value e. pool_read module' sizes places target ∙ x.targets_live p k target value (sym (sent_read module' sizes places p k) ∙ e);
      once = λ t. ap distinct (arrived_read t) ∙ distinct_read module' places (arrived places t) (x.once t);
      nothing_else = λ t. subst (All (SentTo state t)) (sym (arrived_read t)) (all_said_read module' sizes places t (arrived places t) (x.nothing_else t));
      prefixes = λ p. subst₂ Flows (sym (history_read module' sizes places p)) (sym (queue_read module' sizes places p)) (flows_read module' places (newest_first places p) (names_in (places p)) (newest_shaped p) (x.prefixes p));
    }

  -- ---- from the state to the slots

  module _ (sound : Sound state) where
    control_passes_lem : (control : List ℕ) → SoundControl state control → Passes module' sizes control
    unfolding restored
    control_passes_lem control c = record { good = c.good; fits = c.fits }

    present_passes : (p : ℕ) (y : Slot) (ys : List Slot) → places p ≡ y ∷ ys → Passes module' sizes y.control
    unfolding restored read_process
    present_passes p y ys e = control_passes_lem y.control (sound.controls p (record { control = y.control; history = map read (reverse ys) }) (ap (read_process module' places) e))

    before_passes : (p : ℕ) → All (λ y. Passes module' sizes y.control) (tail (places p))
    unfolding read_entry
    before_passes p = all_elements (λ y. Passes module' sizes y.control) (tail (places p)) (λ i y e. control_passes_lem y.control (sound.controls_before p i (read y) (entry_read p i ∙ ap (mapped read) e)))

    pub sound_slots : SoundSlots module' sizes places
    unfolding restored
    sound_slots = record {
      shaped = shaped;
      sizes_pass = sound.sizes_pass;
      module_passes = sound.module_passes;
      place_0 = sym (pool_read module' sizes places 0) ∙ sound.place_0;
      places_end = λ p h. sym (pool_read module' sizes places p) ∙ sound.pool_ends p h;
      entries_fit = λ p. omega (arith, history_length p, sound.history_fits p);
      controls = present_passes;
      controls_before = before_passes;
      births = record {
        born = λ q e n. let b = sound.born q (pool_read module' sizes places q ∙ e) n in (b.0, b.1, spawn_back q b.0 b.1 b.2);
        born_once = λ q p i p' i' a b. sound.born_once q p i p' i' (spawn_read q p i a) (spawn_read q p' i' b);
        place_0_unborn = λ p i a. sound.place_0_unborn p i (spawn_read 0 p i a);
        children_live = λ q p i a. sym (pool_read module' sizes places q) ∙ sound.children_in_pool q p i (spawn_read q p i a);
      };
      targets_live = λ p k target value e. sym (pool_read module' sizes places target) ∙ sound.targets_in_pool p k target value (sent_read module' sizes places p k ∙ e);
      once = λ t. once_back module' places (arrived places t) (ap distinct (sym (arrived_read t)) ∙ sound.once t);
      nothing_else = λ t. all_said_back module' sizes places t (arrived places t) (subst (All (SentTo state t)) (arrived_read t) (sound.nothing_else t));
      prefixes = λ p. flows_back module' places (newest_first places p) (names_in (places p)) (newest_shaped p) (subst₂ Flows (history_read module' sizes places p) (queue_read module' sizes places p) (sound.prefixes p));
    }
