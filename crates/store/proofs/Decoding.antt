-- Reading a state off words: off an image it is the image's state.
use Prim.Native.Nat.{ℕ, ◌≤◌}
use mathlib.Core.Path.{◌≡◌, refl, sym, ◌∙◌, ap, fun_ext}
use mathlib.Core.Logic.{◌⊎◌, inl, inr}
use mathlib.Core.Bool.{true, false}
use mathlib.Core.Option.{Option, none, some}
use mathlib.Core.List.{List, [], ◌++◌, reverse}
use native.Mathlib.Omega.{arith}
use lib.Dec.{ltb}
use lib.ListN.{length, length-map, length-reverse, drop}
use lib.Seq.{drop_at}
use Rattle.lists.specs.Lists.{All}
use Rattle.lists.proofs.Tests.{true_or_false, ltb-true, ltb_false}
use Rattle.lists.proofs.All.{all_so, all_any, all_map, all_reverse}
use Rattle.term.specs.Module.{longest_module}
use Rattle.rules.specs.State.{Sizes, Message, Kind, seq, send, rec, spawn, self, check, as_rec, Entry, Process, State, history_of, history_at}
use Rattle.rules.specs.Depends.{queue_before}
use Rattle.store.specs.Layout.{slot_count, needed, kind_free, name_word, Slot, kind_number, entry_slot, place_slots, slots_at, image}
use Rattle.store.proofs.Lengths.{length_image}
use Rattle.store.proofs.Reading.{FitsSlot, Used, read_sizes, read_module, read_place, read_sizes_lem, read_module_lem, read_place_lem, read_past}
use Rattle.store.proofs.Restoring.{KeptQueue, KeptEntry, read_process, read_queue, process_read, queue_at_read}

-- the state of slots, and of words
unfoldable pub restored : (module' : List ℕ) → Sizes → (ℕ → List Slot) → State
restored module' sizes places = record {
  module' = module';
  sizes = sizes;
  processes = λ p. read_process module' places (places p);
  queues = λ p. read_queue module' places (places p);
}

unfoldable pub decode : List ℕ → State
decode l = restored (read_module l) (read_sizes l) (read_place (read_sizes l) l)

-- a state that fits its sizes, and whose messages were sent
pub record Storable (s : State) : Type 0 where
  pub module_fits : length s.module' ≤ longest_module
  pub pool_ends : (p : ℕ) → s.sizes.places ≤ p → s.processes p ≡ none
  pub no_queue : (p : ℕ) → s.processes p ≡ none → s.queues p ≡ []
  pub history_fits : (p : ℕ) → length (history_at s p) ≤ s.sizes.entries
  pub control_fits : (p : ℕ) (process : Process) → s.processes p ≡ some process → length process.control ≤ s.sizes.words
  pub entries : (p : ℕ) → All (KeptEntry s) (history_at s p)
  pub queue : (p : ℕ) → KeptQueue s (s.queues p)

-- an entry's slot is in use
entry_used : (kind : Kind) → ¬ (kind_number kind ≡ kind_free)
unfolding kind_number
entry_used seq e = omega arith
entry_used (send target value) e = omega arith
entry_used (rec older m newer) e = omega arith
entry_used (spawn child) e = omega arith
entry_used self e = omega arith
entry_used (check number) e = omega arith

module _ (s : State) (x : Storable s) where
  entry_fits : (e : Entry) → KeptEntry s e → FitsSlot s.sizes (entry_slot e)
  entry_fits e k = record { control_fits = k.before_fits; names_fit = omega (arith, length-map (queue_before (as_rec e.kind)) name_word, k.queue.fits) }

  -- the slots of a place fit into its block
  pub slots_few : (p : ℕ) → length (slots_at s p) ≤ slot_count s.sizes
  unfolding slots_at place_slots history_at history_of
  slots_few p = go (s.processes p) (s.queues p) (x.history_fits p)
    where
      go : (o : Option Process) (queue : List Message) → length (history_of o) ≤ s.sizes.entries → length (place_slots o queue) ≤ slot_count s.sizes
      go none queue h = omega arith
      go (some process) queue h = omega (arith, length-map (reverse process.history) entry_slot, length-reverse process.history)

  pub slots_used : (p : ℕ) → All Used (slots_at s p)
  unfolding slots_at place_slots All
  slots_used p = go (s.processes p) (s.queues p)
    where
      go : (o : Option Process) (queue : List Message) → All Used (place_slots o queue)
      go none queue = tt
      go (some process) queue = ((λ e. omega arith), all_map Used entry_slot (reverse process.history) (all_any (λ e. entry_used e.kind) (reverse process.history)))

  pub slots_fit : (p : ℕ) → All (FitsSlot s.sizes) (slots_at s p)
  unfolding slots_at place_slots history_at history_of All
  slots_fit p = go (s.processes p) (s.queues p) (x.control_fits p) (x.queue p) (x.entries p)
    where
      go : (o : Option Process) (queue : List Message) → ((process : Process) → o ≡ some process → length process.control ≤ s.sizes.words)
          → KeptQueue s queue → All (KeptEntry s) (history_of o) → All (FitsSlot s.sizes) (place_slots o queue)
      go none queue c q a = tt
      go (some process) queue c q a = (
        record { control_fits = c process refl; names_fit = omega (arith, length-map queue name_word, q.fits) },
        all_map (FitsSlot s.sizes) entry_slot (reverse process.history) (all_reverse (λ e. FitsSlot s.sizes (entry_slot e)) process.history (all_so entry_fits process.history a)),
      )

  pub places_read : (rest : List ℕ) → read_place s.sizes (image s ++ rest) ≡ slots_at s
  unfolding image slots_at place_slots
  places_read rest = fun_ext λ p. go p (true_or_false (ltb p s.sizes.places))
    where
      go : (p : ℕ) → (ltb p s.sizes.places ≡ true) ⊎ (ltb p s.sizes.places ≡ false) → read_place s.sizes (image s ++ rest) p ≡ slots_at s p
      go p (inl e) = read_place_lem s.module' s.sizes (slots_at s) rest p (ltb-true p s.sizes.places e) (slots_few p) (slots_used p) (slots_fit p)
      go p (inr e) = let h = ltb_false p s.sizes.places e in read_past s.sizes (image s ++ rest) p h ∙ sym (ap (λ (o : Option Process). place_slots o (s.queues p)) (x.pool_ends p h))

  pub restored_same : restored s.module' s.sizes (slots_at s) ≡ s
  unfolding restored
  restored_same =
      let processes : (λ p. read_process s.module' (slots_at s) (slots_at s p)) ≡ s.processes = fun_ext λ p. process_read s x.entries p in
      let queues : (λ p. read_queue s.module' (slots_at s) (slots_at s p)) ≡ s.queues = fun_ext λ p. queue_at_read s x.entries p (x.queue p).each (x.no_queue p) in
      λ i. record { module' = s.module'; sizes = s.sizes; processes = processes i; queues = queues i }

  pub decode_image : (rest : List ℕ) → decode (image s ++ rest) ≡ s
  unfolding decode image
  decode_image rest =
      (λ i. restored (read_module_lem s.module' s.sizes (slots_at s) rest x.module_fits i) (read_sizes_lem s.module' s.sizes (slots_at s) rest i) (read_place (read_sizes_lem s.module' s.sizes (slots_at s) rest i) (image s ++ rest)))
      ∙ ap (restored s.module' s.sizes) (places_read rest)
      ∙ restored_same

-- an image stands for one such state, and what follows it is its own
pub one_storable : (s s' : State) (rest rest' : List ℕ) → Storable s → Storable s' → image s ++ rest ≡ image s' ++ rest' → (s ≡ s') × (rest ≡ rest')
one_storable s s' rest rest' x x' e =
    let same : s ≡ s' = sym (decode_image s x rest) ∙ ap decode e ∙ decode_image s' x' rest' in (
      same,
      sym (drop_at (image s) rest (needed s.sizes) (length_image s))
          ∙ (λ i. drop (needed (same i).sizes) (e i))
          ∙ drop_at (image s') rest' (needed s'.sizes) (length_image s'),
    )
