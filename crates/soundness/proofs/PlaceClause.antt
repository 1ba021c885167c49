-- The clauses about one place: the tests of its slots decide their shapes and controls, and the walk over its entries what its recs left.
use Prim.Native.Nat.{ℕ, ◌≤◌}
use mathlib.Core.Path.{◌≡◌, refl, sym, ◌∙◌, ap, subst}
use mathlib.Core.Logic.{inl, inr}
use mathlib.Core.Bool.{true}
use mathlib.Core.List.{List, [], ◌∷◌, map, tail, reverse, reverse_aux}
use native.Mathlib.Omega.{arith}
use lib.Dec.{eqb}
use lib.ListN.{length, take, drop, get_or, length-drop}
use lib.Seq.{length-take-le}
use Rattle.lists.specs.Lists.{All}
use Rattle.lists.proofs.Tests.{true_or_false, eqb-true, eqb-false, and_of, cond_true, cond_false}
use Rattle.lists.proofs.All.{all_so, all_both, all_map, all_unmap}
use Rattle.term.specs.Control.{good_control}
use Rattle.rules.specs.State.{Sizes}
use Rattle.store.specs.Layout.{slot_head, slot_size, slot_count, block_size, kind_free, kind_rec, Slot}
use Rattle.store.specs.Formed.{WellSlot, WellSlots}
use Rattle.store.proofs.Reading.{Used, read_slot, leading, read_block}
use Rattle.store.proofs.SlotViews.{PresentShape}
use Rattle.store.proofs.SoundSlots.{SlotFlows}
use Rattle.store.proofs.SoundSlots
use Rattle.slots.specs.SoundTests.{names_in, control_passes, entry_passes, entries_pass, place_passes}
use Rattle.soundness.specs.MessageTests.{place_flows}
use Rattle.slots.specs.SendTests.{entry_slots}
use Rattle.slots.proofs.SoundTestClause.{EntryForm, form_decided, present_decided}
use Rattle.soundness.proofs.FlowClause.{flows_at_other, flows_decide}
use Rattle.slots.proofs.BlockViews.{read_free, read_used, names_read}
use Rattle.soundness.proofs.StoreTest.{all_every, free_passes, used_shape, used_control, present_passed, control_passed, entries_passed}
use Rattle.soundness.proofs.WholeLaws.{well_slots}
use Rattle.soundness.proofs.SlotsInUse.{IsFree, in_use, used_all, all_used, turned_on}

-- ---- shapes

module _ (sizes : Sizes) (places : ℕ) (arities : List ℕ) where
  -- the slot of an entry whose control passes the control check
  pub record EntryGood (x : Slot) : Type 0 where
    pub form : EntryForm x
    pub control : good_control places arities x.control ≡ true
    pub fits : length x.control ≤ sizes.words

  pub record PresentGood (x : Slot) : Type 0 where
    pub shape : PresentShape x
    pub control : good_control places arities x.control ≡ true
    pub fits : length x.control ≤ sizes.words

  names_count : (w : List ℕ) → WellSlot sizes w → length (read_slot sizes w).names ≡ get_or w 4 0
  unfolding read_slot
  names_count w x = length-take-le (get_or w 4 0) (drop sizes.words (drop slot_head w)) (omega (arith, x.long, x.names_fit, length-drop slot_head w, length-drop sizes.words (drop slot_head w)))

  control_fits : (w : List ℕ) → WellSlot sizes w → length (read_slot sizes w).control ≤ sizes.words
  unfolding read_slot
  control_fits w x = omega (arith, x.control_fits, length-take-le (get_or w 1 0) (drop slot_head w) (omega (arith, x.long, x.control_fits, length-drop slot_head w)))

  -- one entry
  entry_good : (w : List ℕ) → WellSlot sizes w → entry_passes places arities w ≡ true → Used (read_slot sizes w) → EntryGood (read_slot sizes w)
  unfolding read_slot
  entry_good w x e n = record {
    form = (form_decided sizes w (names_count w x)).sound (used_shape places arities w e n);
    control = used_control places arities w e n;
    fits = control_fits w x;
  }

  good_entry : (w : List ℕ) → WellSlot sizes w → (Used (read_slot sizes w) → EntryGood (read_slot sizes w)) → entry_passes places arities w ≡ true
  unfolding read_slot entry_passes control_passes
  good_entry w x f = elim (true_or_false (eqb (get_or w 0 0) kind_free)) [
    | inl t ↦ free_passes places arities w (eqb-true (get_or w 0 0) kind_free t)
    | inr u ↦ (let g = f (eqb-false (get_or w 0 0) kind_free u) in cond_false _ _ u ∙ and_of ((form_decided sizes w (names_count w x)).complete g.form) g.control)
  ]

  module _ (b : List ℕ) (long : length b ≡ block_size sizes) (well : WellSlots sizes (slot_count sizes) b) where
    abbrev words : List (List ℕ)
    words = entry_slots (slot_size sizes) sizes.entries b

    abbrev GoodIf : Slot → Type 0
    GoodIf x = Used x → EntryGood x

    -- the slots of a place
    pub record PlaceGood : Type 0 where
      pub present : (x : Slot) (xs : List Slot) → read_block sizes b ≡ x ∷ xs → PresentGood x
      pub entries : All EntryGood (tail (read_block sizes b))

    of_entries : All (λ w. entry_passes places arities w ≡ true) words → All EntryGood (tail (read_block sizes b))
    of_entries a =
        all_both (λ x u f. f u) (tail (read_block sizes b)) (in_use sizes b long well).are_used
        (used_all sizes b long well GoodIf (all_map GoodIf (read_slot sizes) words (all_both (λ w x e. entry_good w x e) words (well_slots sizes b long well).1 a)))

    to_entries : All EntryGood (tail (read_block sizes b)) → All (λ w. entry_passes places arities w ≡ true) words
    to_entries a =
        all_both (λ w x f. good_entry w x f) words (well_slots sizes b long well).1
        (all_unmap GoodIf (read_slot sizes) words (all_used sizes b long well GoodIf (λ x k u. absurd (u k)) (all_so (λ x g. λ u. g) (tail (read_block sizes b)) a)))

    abbrev first : Slot
    first = read_slot sizes (take (slot_size sizes) b)

    is_first : (x : Slot) (xs : List Slot) → ¬ (get_or b 0 0 ≡ kind_free) → read_block sizes b ≡ x ∷ xs → x ≡ first
    is_first x xs k e = ap head_or (sym e ∙ read_used sizes b long well k)
      where
        head_or : List Slot → Slot
        head_or [] = first
        head_or (y ∷ ys) = y

    present_good : place_passes (slot_size sizes) sizes.entries places arities b ≡ true → ¬ (get_or b 0 0 ≡ kind_free) → PresentGood first
    unfolding read_slot
    present_good e k = record {
      shape = (present_decided sizes (take (slot_size sizes) b)).sound (present_passed (slot_size sizes) sizes.entries places arities b e k);
      control = control_passed (slot_size sizes) sizes.entries places arities b e k;
      fits = control_fits (take (slot_size sizes) b) (well_slots sizes b long well).0;
    }

    pub place_good : place_passes (slot_size sizes) sizes.entries places arities b ≡ true → PlaceGood
    unfolding All
    place_good e = elim (true_or_false (eqb (get_or b 0 0) kind_free)) [
      | inl t ↦ (let none_read = read_free sizes b long well (eqb-true (get_or b 0 0) kind_free t) in
          record { present = λ x xs q. absurd (no_slot x xs (sym none_read ∙ q)); entries = subst (λ (xs : List Slot). All EntryGood (tail xs)) (sym none_read) tt })
      | inr f ↦ (let k = eqb-false (get_or b 0 0) kind_free f in
          record { present = λ x xs q. subst PresentGood (sym (is_first x xs k q)) (present_good e k); entries = of_entries (entries_passed (slot_size sizes) sizes.entries places arities b e k) })
    ]
      where
        no_slot : (x : Slot) (xs : List Slot) → ◌≡◌ {A = List Slot} [] (x ∷ xs) → ⊥
        no_slot x xs q = let z : ◌≡◌ {A = ℕ} 0 1 = cc in omega arith

    pub good_place : PlaceGood → place_passes (slot_size sizes) sizes.entries places arities b ≡ true
    unfolding place_passes control_passes entries_pass read_slot
    good_place g = elim (true_or_false (eqb (get_or b 0 0) kind_free)) [
      | inl t ↦ cond_true _ _ t
      | inr f ↦ (
          let k = eqb-false (get_or b 0 0) kind_free f in
          let p = g.present first (leading (map (read_slot sizes) words)) (read_used sizes b long well k) in
          cond_false _ _ f ∙ and_of ((present_decided sizes (take (slot_size sizes) b)).complete p.shape) (and_of p.control (all_every (entry_passes places arities) words (to_entries g.entries))))
    ]

-- ---- flows

free_flows : (free acc : List Slot) (names : List ℕ) → All IsFree free → SlotFlows (reverse_aux free acc) names ≡ SlotFlows acc names
unfolding All
free_flows [] acc names a = refl
free_flows (x ∷ free) acc names a = free_flows free (x ∷ acc) names a.1 ∙ flows_at_other x acc names (ap (λ (k : ℕ). eqb k kind_rec) a.0)

module _ (sizes : Sizes) (b : List ℕ) (long : length b ≡ block_size sizes) (well : WellSlots sizes (slot_count sizes) b) where
  flows_same : SlotFlows (reverse (map (read_slot sizes) (entry_slots (slot_size sizes) sizes.entries b))) (names_in sizes.words b) ≡ SlotFlows (reverse (tail (read_block sizes b))) (SoundSlots.names_in (read_block sizes b))
  flows_same =
      let u = in_use sizes b long well in
      ap (λ (xs : List Slot). SlotFlows (reverse xs) (names_in sizes.words b)) u.all
      ∙ ap (λ (xs : List Slot). SlotFlows xs (names_in sizes.words b)) (turned_on (tail (read_block sizes b)) u.free [])
      ∙ free_flows u.free (reverse (tail (read_block sizes b))) (names_in sizes.words b) u.are_free
      ∙ ap (SlotFlows (reverse (tail (read_block sizes b)))) (names_read sizes b long well)

  pub place_flow : place_flows sizes.words (slot_size sizes) sizes.entries b ≡ true → SlotFlows (reverse (tail (read_block sizes b))) (SoundSlots.names_in (read_block sizes b))
  unfolding place_flows
  place_flow e = subst (λ (T : Type 0). T) flows_same ((flows_decide sizes (entry_slots (slot_size sizes) sizes.entries b) (names_in sizes.words b)).sound e)

  pub flow_place : SlotFlows (reverse (tail (read_block sizes b))) (SoundSlots.names_in (read_block sizes b)) → place_flows sizes.words (slot_size sizes) sizes.entries b ≡ true
  unfolding place_flows
  flow_place f = (flows_decide sizes (entry_slots (slot_size sizes) sizes.entries b) (names_in sizes.words b)).complete (subst (λ (T : Type 0). T) (sym flows_same) f)
