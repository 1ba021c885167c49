-- The entries of a block that are in use, and the free slots behind them.
use Prim.Native.Nat.{ℕ, ◌≤◌}
use mathlib.Core.Path.{◌≡◌, refl, sym, ◌∙◌, ap, subst}
use mathlib.Core.Logic.{inl, inr}
use mathlib.Core.Bool.{Bool, true, false, cond}
use mathlib.Core.List.{List, [], ◌∷◌, ◌++◌, map, tail, reverse_aux}
use native.Mathlib.Omega.{arith}
use lib.Dec.{eqb}
use lib.ListN.{length, take, drop, get_or, length-map, length-append}
use Rattle.lists.specs.Lists.{All}
use Rattle.lists.proofs.Tests.{true_or_false, eqb-true, eqb-false}
use Rattle.lists.proofs.All.{all_so, all_append, all_left, all_map}
use Rattle.lists.proofs.Blocks.{chop, length_chop}
use Rattle.rules.specs.State.{Sizes}
use Rattle.store.specs.Layout.{slot_size, slot_count, block_size, kind_free, Slot, free_slot}
use Rattle.store.specs.Formed.{WellSlots}
use Rattle.store.proofs.Reading.{Used, read_slot, leading, read_block}
use Rattle.store.proofs.WellTestRead.{slots_block}
use Rattle.slots.specs.SendTests.{entry_slots}
use Rattle.slots.proofs.BlockViews.{read_free, read_used}
use Rattle.soundness.proofs.WholeLaws.{well_whole}

-- slots one behind the other, those before the first free one and the others
leading_again : (xs : List Slot) → xs ≡ leading xs ++ drop (length (leading xs)) xs
unfolding leading
leading_again [] = refl
leading_again (x ∷ xs) = go (eqb x.kind kind_free) (leading_again xs)
  where
    go : (b : Bool) → xs ≡ leading xs ++ drop (length (leading xs)) xs → x ∷ xs ≡ cond b [] (x ∷ leading xs) ++ drop (length (cond b [] (x ∷ leading xs))) (x ∷ xs)
    go true e = refl
    go false e = ap (λ (r : List Slot). x ∷ r) e

leading_used : (xs : List Slot) → All Used (leading xs)
unfolding leading All
leading_used [] = tt
leading_used (x ∷ xs) = go (eqb x.kind kind_free) refl (leading_used xs)
  where
    go : (b : Bool) → eqb x.kind kind_free ≡ b → All Used (leading xs) → All Used (cond b [] (x ∷ leading xs))
    go true e a = tt
    go false e a = (eqb-false x.kind kind_free e, a)

abbrev pub IsFree : Slot → Type 0
IsFree x = x.kind ≡ kind_free

module _ (sizes : Sizes) where
  -- all slots of entries are those in use and free ones
  pub record InUse (b : List ℕ) : Type 0 where
    pub free : List Slot
    pub all : map (read_slot sizes) (entry_slots (slot_size sizes) sizes.entries b) ≡ tail (read_block sizes b) ++ free
    pub are_free : All IsFree free
    pub are_used : All Used (tail (read_block sizes b))

  module _ (b : List ℕ) (long : length b ≡ block_size sizes) (well : WellSlots sizes (slot_count sizes) b) where
    abbrev slots : List Slot
    slots = map (read_slot sizes) (entry_slots (slot_size sizes) sizes.entries b)

    of_free : get_or b 0 0 ≡ kind_free → InUse b
    unfolding All read_slot
    of_free k =
        let none_read = read_free sizes b long well k in
        record {
          free = slots;
          all = ap (λ (xs : List Slot). tail xs ++ slots) (sym none_read);
          are_free = all_map IsFree (read_slot sizes) (entry_slots (slot_size sizes) sizes.entries b) ((well_whole sizes b long well).free k);
          are_used = subst (λ (xs : List Slot). All Used (tail xs)) (sym none_read) tt;
        }

    of_used : ¬ (get_or b 0 0 ≡ kind_free) → InUse b
    unfolding All leading chop read_block
    of_used k =
        let read = read_used sizes b long well k in
        record {
          free = drop (length (leading slots)) slots;
          all = leading_again slots ∙ ap (λ (xs : List Slot). tail xs ++ drop (length (leading slots)) slots) (sym read);
          are_free = all_so (λ x e. ap (λ (y : Slot). y.kind) e) (drop (length (leading slots)) slots)
              (subst (λ (xs : List Slot). All (λ x. x ≡ free_slot) (drop (length xs) (read_slot sizes (take (slot_size sizes) b) ∷ slots))) read (slots_block sizes b long well).free_behind);
          are_used = subst (λ (xs : List Slot). All Used (tail xs)) (sym read) (leading_used slots);
        }

    pub in_use : InUse b
    in_use = elim (true_or_false (eqb (get_or b 0 0) kind_free)) [
      | inl t ↦ of_free (eqb-true (get_or b 0 0) kind_free t)
      | inr f ↦ of_used (eqb-false (get_or b 0 0) kind_free f)
    ]

    pub entries_few : length (tail (read_block sizes b)) ≤ sizes.entries
    entries_few =
        let u = in_use in
        omega (arith, sym (ap length u.all) ∙ length-map (entry_slots (slot_size sizes) sizes.entries b) (read_slot sizes) ∙ length_chop sizes.entries (slot_size sizes) (drop (slot_size sizes) b), length-append (tail (read_block sizes b)) u.free)

    -- what holds of all slots in use, and back
    pub used_all : (P : Slot → Type 0) → All P (map (read_slot sizes) (entry_slots (slot_size sizes) sizes.entries b)) → All P (tail (read_block sizes b))
    used_all P a = all_left P (tail (read_block sizes b)) in_use.free (subst (All P) in_use.all a)

    pub all_used : (P : Slot → Type 0) → ((x : Slot) → IsFree x → P x) → All P (tail (read_block sizes b)) → All P (map (read_slot sizes) (entry_slots (slot_size sizes) sizes.entries b))
    all_used P f a = subst (All P) (sym in_use.all) (all_append P (tail (read_block sizes b)) in_use.free a (all_so f in_use.free in_use.are_free))

-- newest first: the free ones first
pub turned_on : {A : Type 0} (xs ys acc : List A) → reverse_aux (xs ++ ys) acc ≡ reverse_aux ys (reverse_aux xs acc)
turned_on [] ys acc = refl
turned_on (x ∷ xs) ys acc = turned_on xs ys (x ∷ acc)
