-- The test of a whole store: block after block, and the words before them.
use Prim.Native.Nat.{ℕ, ◌+◌, ◌-◌, ◌*◌, ◌≤◌, ◌<◌}
use mathlib.Core.Path.{◌≡◌, sym, ◌∙◌, ap, subst}
use mathlib.Core.Bool.{Bool, true, false, not}
use mathlib.Core.List.{List}
use native.Mathlib.Omega.{arith}
use borrow.Author.Count.{below_more}
use borrow.Rule.Slice.PartMut.{mid_of}
use lib.ListN.{length, take, drop, get_or, length-drop}
use lib.Seq.{length-take-le}
use Rattle.lists.specs.Lists.{All}
use Rattle.lists.specs.Decides.{Decides}
use Rattle.lists.proofs.Tests.{not_true, not_false}
use Rattle.lists.proofs.Blocks.{block_in}
use Rattle.lists.proofs.Decides.{no_to, refuted, by}
use Rattle.term.specs.Module.{longest_module}
use Rattle.rules.specs.State.{Sizes}
use Rattle.rules.specs.Load.{good_sizes}
use Rattle.store.specs.Layout.{head_words, blocks_from, slot_count, block_size, needed}
use Rattle.store.specs.Sizing.{sizes_of}
use Rattle.store.specs.Formed.{IsZero, WellSlots, WellFormedStore, sizes_in}
use Rattle.store.proofs.LayoutLaws.{blocks_most}
use Rattle.store.proofs.WellTestSlot.{behind_part}

-- ---- blocks

-- the block of place p keeps the layout
abbrev pub WellAt : Sizes → List ℕ → ℕ → Type 0
WellAt sizes l p = WellSlots sizes (slot_count sizes) (mid_of (blocks_from + p * block_size sizes) (block_size sizes) l)

module _ (places entries words : ℕ) (l : List ℕ) (good : good_sizes (sizes_of places entries words) ≡ true) (long : needed (sizes_of places entries words) ≤ length l) (size : ℕ) (e : size ≡ block_size (sizes_of places entries words)) (p : ℕ) (h : p < places) where
  abbrev sizes : Sizes
  sizes = sizes_of places entries words

  pub block_inside : 516 + p * size + size ≤ length l
  block_inside = omega (arith, block_in p places (block_size sizes) h, ap (λ (n : ℕ). p * n) e)

  pub block_near : 516 + p * size + size ≤ 1338996
  block_near = omega (arith, block_in p places (block_size sizes) h, ap (λ (n : ℕ). p * n) e, blocks_most sizes good)

  -- the block, as it is lent
  lent : take (516 + p * size + size - (516 + p * size)) (drop (516 + p * size) l) ≡ mid_of (blocks_from + p * block_size sizes) (block_size sizes) l
  lent =
      let count : 516 + p * size + size - (516 + p * size) ≡ size = omega arith in
      ap (λ (n : ℕ). take n (drop (516 + p * size) l)) count ∙ ap (λ (n : ℕ). take n (drop (516 + p * n) l)) e

  pub lent_long : length (take (516 + p * size + size - (516 + p * size)) (drop (516 + p * size) l)) ≡ block_size (sizes_of places entries words)
  lent_long = ap length lent ∙ length-take-le (block_size sizes) (drop (516 + p * block_size sizes) l) (omega (arith, block_in p places (block_size sizes) h, length-drop (516 + p * block_size sizes) l))

  module _ (r : Bool) (d : Decides (WellSlots (sizes_of places entries words) (slot_count (sizes_of places entries words)) (take (516 + p * size + size - (516 + p * size)) (drop (516 + p * size) l))) r) where
    pub blocks_bad : not r ≡ true → Decides ((q : ℕ) → q < places → WellAt (sizes_of places entries words) l q) false
    blocks_bad f = no_to (λ all. refuted d (not_true r f) (subst (WellSlots sizes (slot_count sizes)) (sym lent) (all p h)))

    pub blocks_next : ((q : ℕ) → q < p → WellAt (sizes_of places entries words) l q) → not r ≡ false → (q : ℕ) → q < p + 1 → WellAt (sizes_of places entries words) l q
    blocks_next all t = below_more (WellAt sizes l) p all (subst (WellSlots sizes (slot_count sizes)) lent (d.sound (not_false r t)))

-- ---- the words before them

module _ (l : List ℕ) where
  pub store_zeros : (r : Bool) → get_or l 3 0 ≤ 512 → Decides (All IsZero (take (516 - (4 + get_or l 3 0)) (drop (4 + get_or l 3 0) l))) r → not r ≡ true → Decides (WellFormedStore l) false
  store_zeros r h d f = no_to (λ x. refuted d (not_true r f) (subst (All IsZero) (behind_part head_words longest_module (get_or l 3 0) l h) x.module_zeros))

  pub store_left : (q r : Bool) (sizes : Sizes) (n : ℕ)
      → sizes ≡ sizes_in l → good_sizes sizes ≡ true
      → n ≡ needed sizes → n ≤ length l
      → get_or l 3 0 ≤ 512
      → Decides (All IsZero (take (516 - (4 + get_or l 3 0)) (drop (4 + get_or l 3 0) l))) r → not r ≡ false
      → Decides ((p : ℕ) → p < sizes.places → WellAt sizes l p) q
      → Decides (WellFormedStore l) q
  store_left q r sizes n e good en hn hm dz tz d = by (λ b. record {
    sizes_pass = subst (λ s. good_sizes s ≡ true) e good;
    long = subst (λ s. needed s ≤ length l) e (omega arith);
    module_fits = hm;
    module_zeros = subst (All IsZero) (sym (behind_part head_words longest_module (get_or l 3 0) l hm)) (dz.sound (not_false r tz));
    blocks = subst (λ s. (p : ℕ) → p < s.places → WellAt s l p) e b;
  }) (λ x. subst (λ s. (p : ℕ) → p < s.places → WellAt s l p) (sym e) x.blocks) d
