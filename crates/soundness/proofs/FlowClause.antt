-- The clause about flows: the walk over a place's entries, oldest first, decides what is said of its slots, newest first.
use Prim.Native.Nat.{ℕ, suc}
use mathlib.Core.Path.{◌≡◌, refl, sym, ◌∙◌, ap, subst}
use mathlib.Core.Logic.{inl, inr}
use mathlib.Core.Bool.{Bool, true, false, ◌&&◌}
use mathlib.Core.List.{List, [], ◌∷◌, ◌++◌, map, reverse, reverse_aux}
use lib.Dec.{eqb}
use lib.ListN.{take, drop, get_or}
use lib.Seq.{drop-drop}
use Rattle.lists.specs.Decides.{Decides}
use Rattle.lists.proofs.Tests.{eqb-true, eqb_of, true_or_false, true_not_false, and_left, and_right, and_of, cond_true, cond_false}
use Rattle.rules.specs.State.{Sizes}
use Rattle.store.specs.Layout.{slot_head, kind_rec, Slot}
use Rattle.slots.specs.SoundTests.{kind_word, number_word, names_in}
use Rattle.prefixes.specs.Prefixes.{begins, left_begins}
use Rattle.soundness.specs.MessageTests.{flows_on}
use Rattle.store.proofs.Reading.{read_slot}
use Rattle.store.proofs.SoundSlots.{Begins, left_names, SlotFlows}

begins_so : (xs ys : List ℕ) → begins xs ys ≡ true → Begins xs ys
unfolding begins
begins_so [] ys e = record { others = ys; whole = refl }
begins_so (x ∷ xs) [] e = true_not_false e refl
begins_so (x ∷ xs) (y ∷ ys) e =
    let r = begins_so xs ys (and_right (eqb x y) (begins xs ys) e) in
    let same = eqb-true x y (and_left (eqb x y) (begins xs ys) e) in
    record { others = r.others; whole = λ i. sym same i ∷ r.whole i }

begins_front : (xs zs : List ℕ) → begins xs (xs ++ zs) ≡ true
unfolding begins
begins_front [] zs = refl
begins_front (x ∷ xs) zs = and_of (eqb_of x x refl) (begins_front xs zs)

begins_of : (xs ys : List ℕ) → Begins xs ys → begins xs ys ≡ true
begins_of xs ys b = ap (begins xs) b.whole ∙ begins_front xs b.others

-- a rec, and another entry
pub flows_at_rec : (x : Slot) (acc : List Slot) (names : List ℕ) → eqb x.kind kind_rec ≡ true → (SlotFlows (x ∷ acc) names ≡ (Begins (left_names x) names × SlotFlows acc x.names))
unfolding SlotFlows
flows_at_rec x acc names e = ap (λ (b : Bool). elim b [ false ↦ SlotFlows acc names | true ↦ Begins (left_names x) names × SlotFlows acc x.names ]) e

pub flows_at_other : (x : Slot) (acc : List Slot) (names : List ℕ) → eqb x.kind kind_rec ≡ false → SlotFlows (x ∷ acc) names ≡ SlotFlows acc names
unfolding SlotFlows
flows_at_other x acc names e = ap (λ (b : Bool). elim b [ false ↦ SlotFlows acc names | true ↦ Begins (left_names x) names × SlotFlows acc x.names ]) e

-- a queue that comes after entries, and one that comes after the older ones
one_older : (x : Slot) (acc : List Slot) (names : List ℕ) → SlotFlows (x ∷ acc) names → (queue : List ℕ) × SlotFlows acc queue
one_older x acc names f = elim (true_or_false (eqb x.kind kind_rec)) [
  | inl t ↦ (x.names, (subst (λ (T : Type 0). T) (flows_at_rec x acc names t) f).1)
  | inr n ↦ (names, subst (λ (T : Type 0). T) (flows_at_other x acc names n) f)
]

older : (ys acc : List Slot) (names : List ℕ) → SlotFlows (reverse_aux ys acc) names → (queue : List ℕ) × SlotFlows acc queue
older [] acc names f = (names, f)
older (y ∷ ys) acc names f = let r = older ys (y ∷ acc) names f in one_older y acc r.0 r.1

module _ (sizes : Sizes) where
  names_read : (w : List ℕ) → (read_slot sizes w).names ≡ names_in sizes.words w
  unfolding read_slot
  names_read w = ap (take (get_or w 4 0)) (drop-drop sizes.words slot_head w)

  -- what the walk keeps says of older entries just what their clause says
  pub record Keeps (acc : List Slot) (taken : ℕ) (before : List ℕ) : Type 0 where
    pub to : (names : List ℕ) → left_begins taken before names ≡ true → SlotFlows acc names
    pub from : (names : List ℕ) → SlotFlows acc names → left_begins taken before names ≡ true

  kept_nothing : Keeps [] 0 []
  unfolding SlotFlows left_begins begins
  kept_nothing = record { to = λ names e. tt; from = λ names f. refl }

  left_same : (w names : List ℕ) → left_begins (number_word w) (names_in sizes.words w) names ≡ begins (left_names (read_slot sizes w)) names
  unfolding left_begins read_slot
  left_same w names = ap (λ (q : List ℕ). begins (take (number_word w) q ++ drop (suc (number_word w)) q) names) (sym (names_read w))

  module _ (w : List ℕ) (acc : List Slot) (taken : ℕ) (before : List ℕ) (k : Keeps acc taken before) where
    kept_rec : eqb (kind_word w) kind_rec ≡ true → SlotFlows acc (read_slot sizes w).names → Keeps (read_slot sizes w ∷ acc) (number_word w) (names_in sizes.words w)
    unfolding read_slot
    kept_rec t flows = record {
      to = λ names e. subst (λ (T : Type 0). T) (sym (flows_at_rec (read_slot sizes w) acc names t)) (begins_so (left_names (read_slot sizes w)) names (sym (left_same w names) ∙ e), flows);
      from = λ names f. left_same w names ∙ begins_of (left_names (read_slot sizes w)) names (subst (λ (T : Type 0). T) (flows_at_rec (read_slot sizes w) acc names t) f).0;
    }

    kept_other : eqb (kind_word w) kind_rec ≡ false → Keeps (read_slot sizes w ∷ acc) taken before
    unfolding read_slot
    kept_other n = record {
      to = λ names e. subst (λ (T : Type 0). T) (sym (flows_at_other (read_slot sizes w) acc names n)) (k.to names e);
      from = λ names f. k.from names (subst (λ (T : Type 0). T) (flows_at_other (read_slot sizes w) acc names n) f);
    }

  flows_true : (ws : List (List ℕ)) (acc : List Slot) (taken : ℕ) (before present : List ℕ) → Keeps acc taken before → flows_on sizes.words taken before ws present ≡ true → SlotFlows (reverse_aux (map (read_slot sizes) ws) acc) present
  unfolding flows_on
  flows_true [] acc taken before present k e = k.to present e
  flows_true (w ∷ ws) acc taken before present k e = elim (true_or_false (eqb (kind_word w) kind_rec)) [
    | inl t ↦ (
        let both = sym (cond_true (left_begins taken before (names_in sizes.words w) && flows_on sizes.words (number_word w) (names_in sizes.words w) ws present) (flows_on sizes.words taken before ws present) t) ∙ e in
        let flows = k.to (names_in sizes.words w) (and_left (left_begins taken before (names_in sizes.words w)) (flows_on sizes.words (number_word w) (names_in sizes.words w) ws present) both) in
        flows_true ws (read_slot sizes w ∷ acc) (number_word w) (names_in sizes.words w) present (kept_rec w acc taken before k t (subst (SlotFlows acc) (sym (names_read w)) flows))
        (and_right (left_begins taken before (names_in sizes.words w)) (flows_on sizes.words (number_word w) (names_in sizes.words w) ws present) both))
    | inr n ↦ flows_true ws (read_slot sizes w ∷ acc) taken before present (kept_other w acc taken before k n)
        (sym (cond_false (left_begins taken before (names_in sizes.words w) && flows_on sizes.words (number_word w) (names_in sizes.words w) ws present) (flows_on sizes.words taken before ws present) n) ∙ e)
  ]

  at_rec : (w : List ℕ) (acc : List Slot) (queue : List ℕ) → eqb (kind_word w) kind_rec ≡ true → SlotFlows (read_slot sizes w ∷ acc) queue → SlotFlows acc (read_slot sizes w).names
  unfolding read_slot
  at_rec w acc queue t g = (subst (λ (T : Type 0). T) (flows_at_rec (read_slot sizes w) acc queue t) g).1

  flows_of : (ws : List (List ℕ)) (acc : List Slot) (taken : ℕ) (before present : List ℕ) → Keeps acc taken before → SlotFlows (reverse_aux (map (read_slot sizes) ws) acc) present → flows_on sizes.words taken before ws present ≡ true
  unfolding flows_on
  flows_of [] acc taken before present k f = k.from present f
  flows_of (w ∷ ws) acc taken before present k f = elim (true_or_false (eqb (kind_word w) kind_rec)) [
    | inl t ↦ (
        let r = older (map (read_slot sizes) ws) (read_slot sizes w ∷ acc) present f in
        let flows = at_rec w acc r.0 t r.1 in
        cond_true (left_begins taken before (names_in sizes.words w) && flows_on sizes.words (number_word w) (names_in sizes.words w) ws present) (flows_on sizes.words taken before ws present) t
        ∙ and_of (k.from (names_in sizes.words w) (subst (SlotFlows acc) (names_read w) flows)) (flows_of ws (read_slot sizes w ∷ acc) (number_word w) (names_in sizes.words w) present (kept_rec w acc taken before k t flows) f))
    | inr n ↦ cond_false (left_begins taken before (names_in sizes.words w) && flows_on sizes.words (number_word w) (names_in sizes.words w) ws present) (flows_on sizes.words taken before ws present) n
        ∙ flows_of ws (read_slot sizes w ∷ acc) taken before present (kept_other w acc taken before k n) f
  ]

  -- the walk over the words of a place's entries decides the clause of the slots read of them
  pub flows_decide : (ws : List (List ℕ)) (present : List ℕ) → Decides (SlotFlows (reverse (map (read_slot sizes) ws)) present) (flows_on sizes.words 0 [] ws present)
  flows_decide ws present = record { sound = flows_true ws [] 0 [] present kept_nothing; complete = flows_of ws [] 0 [] present kept_nothing }
