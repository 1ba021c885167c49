-- Where the slots of a store stand that holds a state.
use Prim.Native.Nat.{ℕ, ◌+◌, ◌-◌, ◌*◌, ◌≤◌}
use mathlib.Core.Path.{◌≡◌, ◌∙◌, ap}
use mathlib.Core.List.{List}
use native.Mathlib.Omega.{arith}
use lib.ListN.{get_or}
use Rattle.rules.specs.State.{Sizes}
use Rattle.store.specs.Image.{IsImage}
use Rattle.store.specs.Layout.{blocks_from, slot_size, block_size}
use Rattle.store.proofs.SoundStates.{sizes_in_lem}
use Rattle.store.proofs.LayoutLaws.{slot_most}
use Rattle.store.proofs.View.{words_word}
use Rattle.reading.specs.Reads.{OfState, IsPlace}
use Rattle.writing.specs.declared.spans.Span.{Span}
use Rattle.writing.specs.Slots.{Spanned, TwoSlots}
use Rattle.reading.proofs.Holding.{at_image, of_state, sizes_read, sizes_read_lem, good_read, slot_in, slot_low}

pub located : (l : List ℕ) (image : IsImage l) (p i from size words : ℕ) → OfState l (IsPlace p) → OfState l (λ s. i ≤ s.sizes.entries)
    → from ≡ blocks_from + p * block_size (sizes_read l) + i * slot_size (sizes_read l) → size ≡ slot_size (sizes_read l) → words ≡ get_or l 2 0
    → Spanned p i l (record { from = from; «end» = from + size; words = words })
located l image p i from size words hp hi a z w = record {
  adds = omega arith;
  inside = slot_in l image p i from size hp hi a z;
  low = slot_low l image p i from size hp hi a z;
  head_in = omega arith;
  few_words = omega (arith, (sizes_in_lem (sizes_read l) (good_read l image)).words_high);
  small = omega (arith, slot_most (sizes_read l) (good_read l image));
  there = of_state _ λ s rest h.
      let same = sizes_read_lem l s rest h in
      record {
        from_is = a ∙ ap (λ (y : Sizes). blocks_from + p * block_size y + i * slot_size y) same;
        size_is = (let whole : from + size - from ≡ size = omega arith in whole) ∙ z ∙ ap (λ (y : Sizes). slot_size y) same;
        words_are = w ∙ words_word s rest l h.words;
      };
}

-- every place has a slot 0
pub no_entry : (l : List ℕ) → OfState l (λ s. 0 ≤ s.sizes.entries)
no_entry l = of_state _ λ s rest h. omega arith

-- two of them
pub two_slots : (l : List ℕ) → IsImage l → (p a q b : ℕ) (r r' : Span) → Spanned p a l r → Spanned q b l r' → TwoSlots r.from r.«end» r'.from r.words l
two_slots l i p a q b r r' at at' =
    let x = at_image _ i at.there in
    let x' = at_image _ i at'.there in
    record {
      head_in = omega (arith, at.adds, at.head_in);
      inside = at.inside;
      other = omega (arith, at.adds, at'.adds, at'.inside, x.size_is, x'.size_is);
      few = at.few_words;
      small = omega (arith, at.adds, at.small);
    }
