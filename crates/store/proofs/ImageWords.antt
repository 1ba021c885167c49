-- Images are made of 32-bit words, where the module and the controls are.
use Prim.Native.Nat.{ℕ, ◌≤◌}
use mathlib.Core.Path.{◌≡◌, refl, ap}
use mathlib.Core.Option.{Option, none, some}
use mathlib.Core.List.{List, ◌∷◌, map, reverse}
use native.Mathlib.Omega.{arith}
use lib.ListN.{length, length-append, length-map}
use Rattle.lists.specs.Lists.{All, up_to, joined}
use Rattle.lists.specs.Fill.{fill_to}
use Rattle.lists.proofs.All.{all_so, all_both, all_any, all_map, all_append, all_joined, all_reverse, all_none}
use Rattle.lists.proofs.Fill.{all_fill}
use Rattle.term.specs.Module.{longest_module}
use Rattle.rules.specs.State.{Sizes, Message, Kind, seq, send, rec, spawn, self, check, as_rec, as_spawn, as_check, Entry, Process, State, history_of, history_at, entry_at}
use Rattle.rules.specs.Sound.{SentTo, Sound}
use Rattle.rules.specs.Depends.{queue_before}
use Rattle.store.specs.Layout.{names_room, slot_count, name_word, Slot, free_slot, slot_words, kind_number, number_in, entry_slot, place_slots, slots_at, block, head, laid, image}
use Rattle.store.specs.ImageLaws.{IsWord, Worded}
use Rattle.store.proofs.Lengths.{block_at}
use Rattle.store.proofs.Restoring.{Kept, KeptQueue, KeptEntry}
use Rattle.store.proofs.Histories.{all_entries}
use Rattle.store.proofs.LayoutLaws.{names_most}
use Rattle.store.proofs.SoundStates.{SizesIn, sizes_in_lem, in_places, numbered, storable}

-- ---- a slot, a block

pub record WordSlot (x : Slot) : Type 0 where
  pub kind_word : IsWord x.kind
  pub number_word : IsWord x.number
  pub control_length : IsWord (length x.control)
  pub names_length : IsWord (length x.names)
  pub control_words : All IsWord x.control
  pub names_words : All IsWord x.names

zero_word : IsWord 0
zero_word = omega arith

pub slot_words_lem : (sizes : Sizes) (x : Slot) → WordSlot x → All IsWord (slot_words sizes x)
unfolding slot_words All
slot_words_lem sizes x w = (
  w.kind_word,
  (
    w.control_length,
    (
      w.number_word,
      (
        zero_word,
        (
          w.names_length,
          (
            zero_word,
            (
              zero_word,
              (
                zero_word,
                all_append IsWord (fill_to sizes.words 0 x.control) (fill_to (names_room sizes) 0 x.names)
                    (all_fill IsWord sizes.words 0 x.control zero_word w.control_words)
                    (all_fill IsWord (names_room sizes) 0 x.names zero_word w.names_words),
              ),
            ),
          ),
        ),
      ),
    ),
  ),
)

free_words : WordSlot free_slot
free_words = record { kind_word = omega arith; number_word = omega arith; control_length = omega arith; names_length = omega arith; control_words = all_none IsWord; names_words = all_none IsWord }

pub block_words : (sizes : Sizes) (xs : List Slot) → All WordSlot xs → All IsWord (block sizes xs)
unfolding block
block_words sizes xs a =
    let slots = fill_to (slot_count sizes) free_slot xs in
    all_joined IsWord (map (slot_words sizes) slots) (all_map (All IsWord) (slot_words sizes) slots (all_so (slot_words_lem sizes) slots (all_fill WordSlot (slot_count sizes) free_slot xs free_words a)))

-- ---- the slots of a sound state

small_kind : (kind : Kind) → IsWord (kind_number kind)
unfolding kind_number
small_kind seq = omega arith
small_kind (send target value) = omega arith
small_kind (rec older m newer) = omega arith
small_kind (spawn child) = omega arith
small_kind self = omega arith
small_kind (check number) = omega arith

module _ (s : State) (sound : Sound s) (words : Worded s) where
  sizes : SizesIn s.sizes
  sizes = sizes_in_lem s.sizes sound.sizes_pass

  -- names: a sender below 16 and a count below 64
  names_word : (queue : List Message) → KeptQueue s queue → All IsWord (map name_word queue)
  unfolding SentTo
  names_word queue k = all_map IsWord name_word queue (all_so name_word_lem queue k.each)
    where
      name_word_lem : (m : Message) → Kept s m → IsWord (name_word m)
      name_word_lem m x =
          let small = x.small in
          let n = numbered s sound x.target m x.said in
          let high = sizes.places_high in
          omega (arith, n.sender_below)

  -- an entry's number: the place of a rec's message in the queue before, a child, a check's number
  small_number : (p i : ℕ) (e : Entry) → entry_at (history_at s p) i ≡ some e → KeptEntry s e → IsWord (number_in e.kind)
  unfolding number_in as_rec queue_before as_spawn as_check
  small_number p i e stands x = go e.kind refl x.queue.fits
    where
      go : (kind : Kind) → e.kind ≡ kind → length (queue_before (as_rec kind)) ≤ names_room s.sizes → IsWord (number_in kind)
      go seq same fits = omega arith
      go (send target value) same fits = omega arith
      go (rec older m newer) same fits = omega (arith, length-append older (m ∷ newer), names_most s.sizes sound.sizes_pass)
      go (spawn child) same fits =
          omega (arith, in_places s sound child (sound.children_in_pool child p i (record { entry = e; stands = stands; spawns = ap as_spawn same })), sizes.places_high)
      go self same fits = omega arith
      go (check number) same fits = omega (arith, sound.check_numbers p i number e stands (ap as_check same))

  -- what is said of an entry by its number
  abbrev ByNumber : Entry → Type 0
  ByNumber e = (KeptEntry s e → IsWord (number_in e.kind)) × All IsWord e.before

  entry_words : (e : Entry) → ByNumber e → KeptEntry s e → WordSlot (entry_slot e)
  entry_words e b x = record {
    kind_word = small_kind e.kind;
    number_word = b.0 x;
    control_length = omega (arith, x.before_fits, sizes.words_high);
    names_length = omega (arith, length-map (queue_before (as_rec e.kind)) name_word, x.queue.fits, names_most s.sizes sound.sizes_pass);
    control_words = b.1;
    names_words = names_word (queue_before (as_rec e.kind)) x.queue;
  }

  slots_words : (p : ℕ) → All WordSlot (slots_at s p)
  unfolding slots_at place_slots history_at history_of All
  slots_words p = go (s.processes p) (s.queues p) ((storable s sound).control_fits p) (words.control_words p) ((storable s sound).queue p)
      (all_both {P = ByNumber} {Q = KeptEntry s} entry_words (history_at s p) (all_entries (history_at s p) (λ i e stands. (small_number p i e stands, words.before_words p i e stands))) ((storable s sound).entries p))
    where
      go : (o : Option Process) (queue : List Message) → ((process : Process) → o ≡ some process → length process.control ≤ s.sizes.words) → ((process : Process) → o ≡ some process → All IsWord process.control)
          → KeptQueue s queue → All (λ e. WordSlot (entry_slot e)) (history_of o) → All WordSlot (place_slots o queue)
      go none queue f w k a = tt
      go (some process) queue f w k a = (
        record {
          kind_word = omega arith;
          number_word = omega arith;
          control_length = omega (arith, f process refl, sizes.words_high);
          names_length = omega (arith, length-map queue name_word, k.fits, names_most s.sizes sound.sizes_pass);
          control_words = w process refl;
          names_words = names_word queue k;
        },
        all_map WordSlot entry_slot (reverse process.history) (all_reverse (λ e. WordSlot (entry_slot e)) process.history a),
      )

  head_words : All IsWord (head s.module' s.sizes)
  unfolding head All
  head_words = (
    omega (arith, sizes.places_high),
    (
      omega (arith, sizes.entries_high),
      (
        omega (arith, sizes.words_high),
        (
          omega (arith, (storable s sound).module_fits),
          all_fill IsWord longest_module 0 s.module' zero_word words.module_words,
        ),
      ),
    ),
  )

  pub image_words : All IsWord (image s)
  unfolding image laid
  image_words =
      let places = up_to s.sizes.places in
      all_append IsWord (head s.module' s.sizes) (joined (map (block_at s.sizes (slots_at s)) places)) head_words
      (all_joined IsWord (map (block_at s.sizes (slots_at s)) places) (all_map (All IsWord) (block_at s.sizes (slots_at s)) places (all_any (λ p. block_words s.sizes (slots_at s p) (slots_words p)) places)))
