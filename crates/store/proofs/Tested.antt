-- What a test of a store has to decide: words are an image exactly where they keep the layout and what is read of them is sound.
use Prim.Native.Nat.{ℕ, ◌+◌, ◌*◌, ◌≤◌, ◌<◌}
use mathlib.Core.Path.{◌≡◌, refl, sym, ◌∙◌, ap, subst, subst₂}
use mathlib.Core.List.{List, ◌++◌}
use native.Mathlib.Omega.{arith}
use lib.ListN.{length, take, drop, get_or}
use lib.Seq.{drop-drop}
use borrow.Rule.Slice.PartMut.{mid_of}
use Rattle.lists.specs.Lists.{All}
use Rattle.lists.proofs.Fill.{behind_fill}
use Rattle.term.specs.Module.{longest_module}
use Rattle.rules.specs.State.{Sizes, State}
use Rattle.rules.specs.Sound.{Sound}
use Rattle.store.specs.Layout.{head_words, blocks_from, block_size, needed, slots_at, image}
use Rattle.store.specs.Image.{IsImage}
use Rattle.store.proofs.Reading.{read_sizes, read_module, read_place, read_sizes_lem, read_module_lem}
use Rattle.store.proofs.Decoding.{Storable, slots_few, slots_used, slots_fit, places_read}
use Rattle.store.proofs.SoundStates.{storable}
use Rattle.store.proofs.View.{module_length_word, module_room, long_enough, place_lent}
use Rattle.store.proofs.SoundSlots.{SoundSlots}
use Rattle.store.proofs.LaidOut.{LaidOut, image_slots, is_image}
use Rattle.store.proofs.WellFormed.{IsZero, WellBlock, well_block, head_again, laid_again}

pub record Tested (l : List ℕ) : Type 0 where
  -- the store is long enough for its own sizes
  pub long : needed (read_sizes l) ≤ length l
  -- the module and the zeros behind it
  pub module_fits : get_or l 3 0 ≤ longest_module
  pub module_zeros : All IsZero (drop (get_or l 3 0) (mid_of head_words longest_module l))
  -- the blocks
  pub blocks : (p : ℕ) → p < (read_sizes l).places → WellBlock (read_sizes l) (mid_of (blocks_from + p * block_size (read_sizes l)) (block_size (read_sizes l)) l)
  -- what is read of them
  pub sound : SoundSlots (read_module l) (read_sizes l) (read_place (read_sizes l) l)

pub tested_laid : (l : List ℕ) → Tested l → LaidOut l
tested_laid l x =
    let sizes = read_sizes l in
    record {
      module' = read_module l;
      sizes = sizes;
      places = read_place sizes l;
      rest = drop (needed sizes) l;
      sound = x.sound;
      words = laid_again l (read_module l) sizes x.long (head_again l (omega (arith, x.long)) x.module_fits x.module_zeros)
          (λ p h. subst (λ (r : List ℕ). WellBlock sizes (take (block_size sizes) r)) (sym (drop-drop (p * block_size sizes) blocks_from l)) (x.blocks p h));
    }

pub tested_image : (l : List ℕ) → Tested l → IsImage l
tested_image l x = is_image l (tested_laid l x)

-- ---- an image passes

module _ (s : State) (sound : Sound s) (rest l : List ℕ) (e : l ≡ image s ++ rest) where
  stored : Storable s
  stored = storable s sound

  sizes_same : read_sizes l ≡ s.sizes
  unfolding image
  sizes_same = ap read_sizes e ∙ read_sizes_lem s.module' s.sizes (slots_at s) rest

  module_same : read_module l ≡ s.module'
  unfolding image
  module_same = ap read_module e ∙ read_module_lem s.module' s.sizes (slots_at s) rest stored.module_fits

  places_same : read_place s.sizes l ≡ slots_at s
  places_same = ap (read_place s.sizes) e ∙ places_read s stored rest

  zeros : All IsZero (drop (get_or l 3 0) (mid_of head_words longest_module l))
  zeros = subst₂ (λ (n : ℕ) (r : List ℕ). All IsZero (drop n r)) (sym (module_length_word s rest l e)) (sym (module_room s rest l e)) (behind_fill longest_module 0 s.module')

  blocks_well : (p : ℕ) → p < s.sizes.places → WellBlock s.sizes (mid_of (blocks_from + p * block_size s.sizes) (block_size s.sizes) l)
  blocks_well p h =
      subst (WellBlock s.sizes) (sym (place_lent s rest l e p (blocks_from + p * block_size s.sizes) (block_size s.sizes) h refl refl))
      (well_block s.sizes (slots_at s p) (slots_few s stored p) (slots_used s stored p) (slots_fit s stored p))

  slots_sound : SoundSlots s.module' s.sizes (read_place s.sizes l)
  slots_sound = subst (SoundSlots s.module' s.sizes) (sym places_same) (image_slots s sound)

  pub image_tested : Tested l
  image_tested = record {
    long = rw sizes_same (long_enough s rest l e);
    module_fits = omega (arith, module_length_word s rest l e, stored.module_fits);
    module_zeros = zeros;
    blocks = subst (λ (z : Sizes). (p : ℕ) → p < z.places → WellBlock z (mid_of (blocks_from + p * block_size z) (block_size z) l)) (sym sizes_same) blocks_well;
    sound = subst₂ (λ (m : List ℕ) (z : Sizes). SoundSlots m z (read_place z l)) (sym module_same) (sym sizes_same) slots_sound;
  }

pub image_passes : (l : List ℕ) → IsImage l → Tested l
image_passes l x = image_tested x.state x.sound x.rest l x.words
