-- The test of a block: slot after slot, what is left decides the whole.
use Prim.Native.Nat.{ℕ, zero, suc, ◌-◌, ◌*◌, ◌≤◌, ◌<◌}
use mathlib.Core.Path.{◌≡◌, sym, ◌∙◌, ap, subst}
use mathlib.Core.Bool.{Bool, true, false, not}
use mathlib.Core.List.{List}
use native.Mathlib.Nat.{suc-mul, zero-mul}
use native.Mathlib.Omega.{arith}
use lib.ListN.{length, take, drop, get_or, length-drop}
use Rattle.lists.specs.Lists.{All}
use Rattle.lists.specs.Decides.{Decides}
use Rattle.lists.proofs.Tests.{eqb_of, eqb_apart, not_true, not_false}
use Rattle.lists.proofs.Decides.{yes_to, no_to, refuted, by}
use Rattle.rules.specs.State.{Sizes}
use Rattle.store.specs.Layout.{slot_size, slot_count, block_size, kind_free}
use Rattle.store.specs.Sizing.{sizes_of}
use Rattle.store.specs.Formed.{IsZero, WellSlot, WellSlots}

-- ---- one slot more

module _ (sizes : Sizes) (n : ℕ) (l : List ℕ) where
  abbrev Chosen : Bool → Type 0
  Chosen b = elim b [ true ↦ All IsZero l | false ↦ WellSlot sizes (take (slot_size sizes) l) × WellSlots sizes n (drop (slot_size sizes) l) ]

  pub slots_free : get_or l 0 0 ≡ kind_free → All IsZero l → WellSlots sizes (suc n) l
  unfolding WellSlots
  slots_free k z = subst Chosen (sym (eqb_of (get_or l 0 0) kind_free k)) z

  pub free_slots : get_or l 0 0 ≡ kind_free → WellSlots sizes (suc n) l → All IsZero l
  unfolding WellSlots
  free_slots k x = subst Chosen (eqb_of (get_or l 0 0) kind_free k) x

  pub slots_used : ¬ (get_or l 0 0 ≡ kind_free) → WellSlot sizes (take (slot_size sizes) l) → WellSlots sizes n (drop (slot_size sizes) l) → WellSlots sizes (suc n) l
  unfolding WellSlots
  slots_used k x y = subst Chosen (sym (eqb_apart (get_or l 0 0) kind_free k)) (x, y)

  pub used_slots : ¬ (get_or l 0 0 ≡ kind_free) → WellSlots sizes (suc n) l → WellSlot sizes (take (slot_size sizes) l) × WellSlots sizes n (drop (slot_size sizes) l)
  unfolding WellSlots
  used_slots k x = subst Chosen (eqb_apart (get_or l 0 0) kind_free k) x

-- ---- so many slots left

pub record SlotsLeft (sizes : Sizes) (block rest : List ℕ) (left : ℕ) : Type 0 where
  pub long : length rest ≡ left * slot_size sizes
  pub onward : WellSlots sizes left rest → WellSlots sizes (slot_count sizes) block
  pub back : WellSlots sizes (slot_count sizes) block → WellSlots sizes left rest

-- as many as there are words for
abbrev pub SomeLeft : Sizes → List ℕ → List ℕ → Type 0
SomeLeft sizes block rest = (left : ℕ) × SlotsLeft sizes block rest left

module _ (places entries words : ℕ) (block : List ℕ) where
  abbrev sizes : Sizes
  sizes = sizes_of places entries words

  pub left_start : length block ≡ block_size (sizes_of places entries words) → SomeLeft (sizes_of places entries words) block block
  left_start e = (slot_count sizes, record { long = e; onward = λ x. x; back = λ x. x })

  module _ (rest : List ℕ) (x : SomeLeft (sizes_of places entries words) block rest) where
    pub left_done : length rest ≡ 0 → Decides (WellSlots (sizes_of places entries words) (slot_count (sizes_of places entries words)) block) true
    unfolding WellSlots
    left_done h = go x.0 x.1.long x.1.onward
      where
        go : (n : ℕ) → length rest ≡ n * slot_size sizes → (WellSlots sizes n rest → WellSlots sizes (slot_count sizes) block) → Decides (WellSlots sizes (slot_count sizes) block) true
        go zero e f = yes_to (f tt)
        go (suc n) e f = absurd (omega (arith, e, suc-mul n (slot_size sizes)))

    module _ (some : 0 < length rest) where
      some_left : 0 < x.0
      some_left = go x.0 x.1.long
        where
          go : (n : ℕ) → length rest ≡ n * slot_size sizes → 0 < n
          go zero e = absurd (omega (arith, e, zero-mul (slot_size sizes)))
          go (suc n) e = omega arith

      left : ℕ
      left = x.0 - 1

      again : x.0 ≡ suc left
      unfolding left
      again = omega (arith, some_left)

      pub first_within : slot_size (sizes_of places entries words) ≤ length rest
      first_within = omega (arith, x.1.long, ap (λ (n : ℕ). n * slot_size sizes) again, suc-mul left (slot_size sizes))

      whole : WellSlots sizes (suc left) rest → WellSlots sizes (slot_count sizes) block
      whole y = x.1.onward (subst (λ (n : ℕ). WellSlots sizes n rest) (sym again) y)

      part : WellSlots sizes (slot_count sizes) block → WellSlots sizes (suc left) rest
      part y = subst (λ (n : ℕ). WellSlots sizes n rest) again (x.1.back y)

      pub left_free : (r : Bool) → get_or rest 0 0 ≡ kind_free → Decides (All IsZero rest) r → Decides (WellSlots (sizes_of places entries words) (slot_count (sizes_of places entries words)) block) r
      left_free r k d = by (λ z. whole (slots_free sizes left rest k z)) (λ y. free_slots sizes left rest k (part y)) d

      -- the first of them, and the others
      module _ (used : ¬ (get_or rest 0 0 ≡ kind_free)) (size : ℕ) (e : size ≡ slot_size (sizes_of places entries words)) (slot others : List ℕ) (es : slot ≡ take size rest) (eo : others ≡ drop size rest) (r : Bool) (d : Decides (WellSlot (sizes_of places entries words) slot) r) where
        first : slot ≡ take (slot_size sizes) rest
        first = es ∙ ap (λ (n : ℕ). take n rest) e

        behind : others ≡ drop (slot_size sizes) rest
        behind = eo ∙ ap (λ (n : ℕ). drop n rest) e

        pub left_bad : not r ≡ true → Decides (WellSlots (sizes_of places entries words) (slot_count (sizes_of places entries words)) block) false
        left_bad f = no_to (λ y. refuted d (not_true r f) (subst (WellSlot sizes) (sym first) (used_slots sizes left rest used (part y)).0))

        pub left_next : not r ≡ false → SomeLeft (sizes_of places entries words) block others
        left_next t =
            let long : length (drop (slot_size sizes) rest) ≡ left * slot_size sizes =
            length-drop (slot_size sizes) rest ∙ omega (arith, x.1.long, ap (λ (n : ℕ). n * slot_size sizes) again, suc-mul left (slot_size sizes)) in (
              left,
              subst (λ (l : List ℕ). SlotsLeft sizes block l left) (sym behind) (record {
                long = long;
                onward = λ y. whole (slots_used sizes left rest used (subst (WellSlot sizes) first (d.sound (not_false r t))) y);
                back = λ y. (used_slots sizes left rest used (part y)).1;
              }),
            )
