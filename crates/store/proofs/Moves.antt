-- What a move writes: the slots of the state after it, and the block of a place in which its slots were replaced.
use Prim.Native.Nat.{ℕ, suc, ◌+◌, ◌*◌, ◌<◌}
use mathlib.Core.Path.{◌≡◌, refl, sym, ◌∙◌, ap}
use mathlib.Core.Option.{Option, some}
use mathlib.Core.List.{List, [], ◌∷◌, ◌++◌, map, map-append, reverse, reverse-cons}
use native.Mathlib.Nat.{zero-mul}
use native.Mathlib.Omega.{arith}
use lib.ListN.{length, replicate, length-map, length-reverse}
use borrow.Rule.Slice.PartMut.{put_mid}
use Rattle.lists.specs.Lists.{joined}
use Rattle.lists.proofs.Tables.{put_same, put_other}
use Rattle.lists.proofs.Blocks.{joined_replicate}
use Rattle.lists.proofs.Fill.{map_fill, fill_none}
use Rattle.rules.specs.State.{Sizes, Message, Entry, Process, State}
use Rattle.rules.specs.Commands.{nothing, own_queue, turn, post, set_process, set_queue, set_beside, apply}
use Rattle.store.specs.Layout.{blocks_from, slot_size, slot_count, block_size, Slot, free_slot, slot_words, entry_slot, present_slot, place_slots, slots_at, block, image}
use Rattle.store.proofs.Slots.{free_zeros, slot_next}
use Rattle.store.proofs.View.{ElsewhereSame, place_back}

-- ---- states

pub elsewhere_then : {p : ℕ} {s t u : State} → ElsewhereSame p s t → ElsewhereSame p t u → ElsewhereSame p s u
elsewhere_then a b = record {
  same_module = a.same_module ∙ b.same_module;
  same_sizes = a.same_sizes ∙ b.same_sizes;
  same_slots = λ q n. a.same_slots q n ∙ b.same_slots q n;
}

module _ (p : ℕ) (s : State) where
  pub process_elsewhere : (o : Option Process) → ElsewhereSame p s (set_process p o s)
  unfolding set_process slots_at
  process_elsewhere o = record { same_module = refl; same_sizes = refl; same_slots = λ q n. ap (λ (x : Option Process). place_slots x (s.queues q)) (sym (put_other p o s.processes q n)) }

  pub process_slots : (o : Option Process) → slots_at (set_process p o s) p ≡ place_slots o (s.queues p)
  unfolding set_process slots_at
  process_slots o = ap (λ (x : Option Process). place_slots x (s.queues p)) (put_same p o s.processes p refl)

  pub queue_elsewhere : (queue : List Message) → ElsewhereSame p s (set_queue p queue s)
  unfolding set_queue slots_at
  queue_elsewhere queue = record { same_module = refl; same_sizes = refl; same_slots = λ q n. ap (place_slots (s.processes q)) (sym (put_other p queue s.queues q n)) }

  pub queue_slots : (queue : List Message) → slots_at (set_queue p queue s) p ≡ place_slots (s.processes p) queue
  unfolding set_queue slots_at
  queue_slots queue = ap (place_slots (s.processes p)) (put_same p queue s.queues p refl)

  -- the state after a move that writes at p alone
  module _ (process : Process) where
    pub turn_elsewhere : ElsewhereSame p s (apply (turn p process nothing) s)
    unfolding apply set_beside
    turn_elsewhere = process_elsewhere (some process)

    pub turn_slots : slots_at (apply (turn p process nothing) s) p ≡ place_slots (some process) (s.queues p)
    unfolding apply set_beside
    turn_slots = process_slots (some process)

  pub post_elsewhere : (queue : List Message) → ElsewhereSame p s (apply (post p queue) s)
  unfolding apply
  post_elsewhere queue = queue_elsewhere queue

  pub post_slots : (queue : List Message) → slots_at (apply (post p queue) s) p ≡ place_slots (s.processes p) queue
  unfolding apply
  post_slots queue = queue_slots queue

module _ (p : ℕ) (s : State) (process : Process) where
  pub rec_elsewhere : (queue : List Message) → ElsewhereSame p s (apply (turn p process (own_queue queue)) s)
  unfolding apply set_beside
  rec_elsewhere queue = elsewhere_then (process_elsewhere p s (some process)) (queue_elsewhere p (set_process p (some process) s) queue)

  pub rec_slots : (queue : List Message) → slots_at (apply (turn p process (own_queue queue)) s) p ≡ place_slots (some process) queue
  unfolding apply set_beside set_process
  rec_slots queue = queue_slots p (set_process p (some process) s) queue ∙ ap (λ (x : Option Process). place_slots x queue) (put_same p (some process) s.processes p refl)

-- ---- blocks

-- a free place is zeros
pub free_block : (sizes : Sizes) → block sizes [] ≡ replicate (block_size sizes) 0
unfolding block
free_block sizes =
    ap joined (map_fill (slot_words sizes) (slot_count sizes) free_slot [] ∙ fill_none (slot_count sizes) (slot_words sizes free_slot) ∙ ap (replicate (slot_count sizes)) (free_zeros sizes))
    ∙ joined_replicate (slot_count sizes) (slot_size sizes) 0

-- the slots of a process with one entry more
pub grown : (control : List ℕ) (e : Entry) (h : List Entry) (queue : List Message)
    → place_slots (some (record { control = control; history = e ∷ h })) queue ≡ place_slots (some (record { control = control; history = h })) queue ++ (entry_slot e ∷ [])
unfolding place_slots
grown control e h queue =
    ap (λ (xs : List Slot). present_slot (record { control = control; history = h }) queue ∷ xs) (ap (map entry_slot) (reverse-cons e h) ∙ map-append entry_slot (reverse h) (e ∷ []))

pub length_slots : (process : Process) (queue : List Message) → length (place_slots (some process) queue) ≡ suc (length process.history)
unfolding place_slots
length_slots process queue = omega (arith, length-map (reverse process.history) entry_slot, length-reverse process.history)

-- a process with this control and history
abbrev pub standing : List ℕ → List Entry → Process
standing control h = record { control = control; history = h }

-- a process born into a free place
pub born_block : (sizes : Sizes) (control : List ℕ) (queue : List Message) (count : ℕ) → count ≡ slot_size sizes
    → put_mid 0 count (block sizes []) (slot_words sizes (present_slot (standing control []) queue)) ≡ block sizes (place_slots (some (standing control [])) queue)
unfolding place_slots
born_block sizes control queue count c = slot_next sizes [] 0 0 count (omega arith) (sym (zero-mul (slot_size sizes))) c (present_slot (standing control []) queue) refl

-- ---- the store after a move, where the block of its place came back as the slots after it

module _ (s : State) (rest l : List ℕ) (e : l ≡ image s ++ rest) (p at count : ℕ) (in_places : p < s.sizes.places)
    (a : at ≡ blocks_from + p * block_size s.sizes) (c : count ≡ block_size s.sizes) (b : List ℕ) where
  -- the second block of a move that writes at two places: s is the state after the first
  pub process_image : (o : Option Process) → b ≡ block s.sizes (place_slots o (s.queues p)) → put_mid at count l b ≡ image (set_process p o s) ++ rest
  process_image o eb = place_back s rest l e p at count in_places a c (set_process p o s) b (process_elsewhere p s o) (eb ∙ ap (block s.sizes) (sym (process_slots p s o)))
