-- The image that a load leaves: its head, zeros, and the first slot of place 0.
use Prim.Native.Nat.{ℕ, zero, suc, ◌+◌, ◌*◌, ◌<◌}
use mathlib.Core.Path.{◌≡◌, refl, sym, ◌∙◌, ap}
use mathlib.Core.Option.{none, some}
use mathlib.Core.List.{List, [], ◌∷◌, ◌++◌, map, map-append}
use native.Mathlib.Nat.{zero-mul}
use native.Mathlib.Omega.{arith}
use lib.ListN.{replicate, replicate-append-replicate}
use borrow.Rule.Slice.PartMut.{put_mid}
use Rattle.lists.specs.Lists.{up_to, joined}
use Rattle.lists.proofs.Blocks.{block_in, joined_replicate, put_put}
use Rattle.rules.specs.State.{Sizes, State}
use Rattle.rules.specs.Load.{new_process, first_control, loaded}
use Rattle.rules.specs.Commands.{set_process}
use Rattle.store.specs.Layout.{blocks_from, slot_size, slot_count, block_size, slot_words, present_slot, place_slots, slots_at, block, head, laid, image}
use Rattle.store.proofs.View.{block_within, place_lent}
use Rattle.store.proofs.Moves.{free_block, born_block, process_image}

-- a block that does not depend on its place
blocks_alike : (b : List ℕ) (n : ℕ) → map (λ p. b) (up_to n) ≡ replicate n b
unfolding up_to
blocks_alike b zero = refl
blocks_alike b (suc n) =
    let more : n + 1 ≡ suc n = omega arith in
    map-append (λ p. b) (up_to n) (n ∷ [])
    ∙ ap (λ (r : List (List ℕ)). r ++ (b ∷ [])) (blocks_alike b n)
    ∙ replicate-append-replicate n 1 b
    ∙ ap (λ (k : ℕ). replicate k b) more

module _ (module' : List ℕ) (sizes : Sizes) where
  -- the state with no process
  abbrev empty : State
  empty = record { module' = module'; sizes = sizes; processes = λ p. none; queues = λ p. [] }

  empty_image : image empty ≡ head module' sizes ++ replicate (sizes.places * block_size sizes) 0
  unfolding image laid slots_at place_slots
  empty_image = ap (λ (r : List ℕ). head module' sizes ++ r) (ap joined (blocks_alike (block sizes []) sizes.places ∙ ap (replicate sizes.places) (free_block sizes)) ∙ joined_replicate sizes.places (block_size sizes) 0)

  -- the first slot put into zeros behind the head
  pub loaded_image : (rest l : List ℕ) → 0 < sizes.places → l ≡ (head module' sizes ++ replicate (sizes.places * block_size sizes) 0) ++ rest
      → put_mid blocks_from (slot_size sizes) l (slot_words sizes (present_slot (new_process first_control) [])) ≡ image (loaded module' sizes) ++ rest
  unfolding loaded set_process slots_at place_slots
  loaded_image rest l h e =
      let first = slot_words sizes (present_slot (new_process first_control) []) in
      let size = slot_size sizes in
      let whole = block_size sizes in
      let holds : l ≡ image empty ++ rest = e ∙ ap (λ (r : List ℕ). r ++ rest) (sym empty_image) in
      let start : blocks_from ≡ blocks_from + 0 * whole = omega (arith, zero-mul whole) in
      let lent = place_lent empty rest l holds 0 blocks_from whole h start refl in
      sym (put_put blocks_from whole 0 size l first (omega (arith, block_in 0 (slot_count sizes) size (omega arith), zero-mul size)) (block_within empty rest l holds 0 blocks_from whole h start refl))
      ∙ ap (λ (b : List ℕ). put_mid blocks_from whole l (put_mid 0 size b first)) lent
      ∙ process_image empty rest l holds 0 blocks_from whole h start refl (put_mid 0 size (block sizes []) first) (some (new_process first_control)) (born_block sizes first_control [] size refl)
