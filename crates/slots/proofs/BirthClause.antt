-- The clause about births: the marks of children decide that each live place but 0 is the child of one spawn, and no other place of any.
use Prim.Native.Nat.{ℕ, zero, suc, ◌+◌, ◌*◌, ◌≤◌, ◌<◌}
use mathlib.Core.Path.{◌≡◌, refl, sym, ◌∙◌, ap, subst}
use mathlib.Core.Logic.{◌↔◌, ◌⊎◌, inl, inr}
use mathlib.Core.Bool.{Bool, true, false, cond, not, ◌&&◌}
use mathlib.Core.Option.{Option, none, some}
use mathlib.Core.List.{List, [], ◌∷◌, map, tail}
use native.Mathlib.Decide.{ℕ_discrete, dec_lt}
use native.Mathlib.Nat.{zero-add}
use native.Mathlib.Omega.{arith}
use borrow.Rule.Slice.PartMut.{mid_of}
use lib.Dec.{eqb, ltb}
use lib.ListN.{length, take, drop, get_or, set, replicate, length-set, length-replicate, get_or-replicate, get_or-eq_default}
use lib.Seq.{take-suc, take-length, get_or-set_same, get_or-set_other}
use Rattle.lists.specs.Lists.{joined}
use Rattle.lists.proofs.Tests.{none_not_some, some_injective, true_or_false, true_not_false, eqb-false, eqb_of, eqb_apart, ltb-true, ltb_of, and_of, cond_true, cond_false}
use Rattle.lists.proofs.All.{all_any, map_same}
use Rattle.lists.proofs.Blocks.{chop, length_chop}
use Rattle.lists.proofs.Counts.{one_if, occurs, occurs_append, occurs_head, occurs_other}
use Rattle.rules.specs.State.{Sizes}
use Rattle.rules.specs.Load.{good_sizes}
use Rattle.store.specs.Layout.{blocks_from, slot_size, block_size, kind_free, kind_spawn, Slot}
use Rattle.store.specs.Formed.{WellSlot, sizes_in, WellFormedStore}
use Rattle.store.proofs.Reading.{read_slot, read_block, read_place, read_past}
use Rattle.store.proofs.SoundStates.{sizes_in_lem}
use Rattle.store.proofs.SoundSlots.{is_live}
use Rattle.store.proofs.Births.{spawns_there, births, all_births, BornCounted}
use Rattle.slots.specs.SoundTests.{kind_word, number_word, and_then, run_all, live_from, bear_one, bear_slot, bear_place, Births}
use Rattle.slots.proofs.Marks.{run_joined, Marking, Marked, open_before, open_after, marked, marks}
use Rattle.slots.proofs.Occurring.{occurs_so, all_occurring, collect_snoc}
use Rattle.slots.proofs.BlockViews.{live_read, entries_collected, blocks_in, block_long, block_well, place_read}

-- ---- one child

module _ (live : List Bool) where
  abbrev bear : ℕ → List Bool → Option (List Bool)
  bear child born = bear_one child live born

  pub record Bearable (child : ℕ) : Type 0 where
    pub not_0 : ¬ (child ≡ 0)
    pub inside : child < length live
    pub lives : get_or live child false ≡ true

  abbrev Kept : List Bool → Type 0
  Kept born = length born ≡ length live

  abbrev Unborn : List Bool → ℕ → Type 0
  Unborn born k = get_or born k false ≡ false

  pub record Bore (child : ℕ) (born after : List Bool) : Type 0 where
    pub bearable : Bearable child
    pub unborn : Unborn born child
    pub after_is : after ≡ set born child true

  bore : (child : ℕ) (born after : List Bool) → bear child born ≡ some after → Bore child born after
  unfolding bear_one
  bore child born after e = elim (true_or_false (eqb child 0)) [
    | inl z ↦ none_not_some (sym (cond_true _ _ z) ∙ e)
    | inr n ↦ (let e₁ = sym (cond_false _ _ n) ∙ e in elim (true_or_false (ltb child (length live))) [
      | inr o ↦ none_not_some (sym (cond_false _ _ o) ∙ e₁)
      | inl h ↦ (let e₂ = sym (cond_true _ _ h) ∙ e₁ in elim (true_or_false (get_or live child false)) [
        | inr d ↦ none_not_some (sym (cond_false _ _ d) ∙ e₂)
        | inl l ↦ (let e₃ = sym (cond_true _ _ l) ∙ e₂ in elim (true_or_false (get_or born child false)) [
          | inl t ↦ none_not_some (sym (cond_true _ _ t) ∙ e₃)
          | inr u ↦ record {
            bearable = record { not_0 = eqb-false child 0 n; inside = ltb-true child (length live) h; lives = l };
            unborn = u;
            after_is = sym (some_injective (sym (cond_false _ _ u) ∙ e₃));
          }
        ])
      ])
    ])
  ]

  bears : (child : ℕ) (born : List Bool) → Bearable child → Unborn born child → bear child born ≡ some (set born child true)
  unfolding bear_one
  bears child born b u =
      cond_false _ _ (eqb_apart child 0 b.not_0) ∙ cond_true _ _ (ltb_of child (length live) b.inside) ∙ cond_true _ _ b.lives ∙ cond_false _ _ u

  birth_marks : Marking bear (λ c. c) Bearable Kept Unborn
  birth_marks = record {
    takes = λ c x y g e. let r = bore c x y e in (r.bearable, r.unborn);
    good = λ c x y g e. ap length (bore c x y e).after_is ∙ length-set x c true ∙ g;
    opens = λ c x y g e k o.
        let r = bore c x y e in
        let o' : get_or (set x c true) k false ≡ false = ap (λ (z : List Bool). get_or z k false) (sym r.after_is) ∙ o in
        elim (ℕ_discrete k c) [
          | yes q ↦ true_not_false (get_or-set_same x c true false (omega (arith, g, r.bearable.inside))) (ap (λ (j : ℕ). get_or (set x c true) j false) (sym q) ∙ o')
          | no n ↦ (sym (get_or-set_other x c k true false n) ∙ o', λ q. n (sym q))
        ];
    stays = λ c x y g e k o n. ap (λ (z : List Bool). get_or z k false) (bore c x y e).after_is ∙ get_or-set_other x c k true false (λ q. n (sym q)) ∙ o;
    taken = λ c x g f o. (set x c true, bears c x f o);
  }

  -- ---- the children of slots, and of places

  abbrev pub child_of : List ℕ → List ℕ
  child_of w = cond (eqb (kind_word w) kind_spawn) (number_word w ∷ []) []

  then_end : (o : Option (List Bool)) → o ≡ and_then o (run_all bear [])
  unfolding and_then run_all
  then_end none = refl
  then_end (some x) = refl

  slot_run : (w : List ℕ) (born : List Bool) → bear_slot live w born ≡ run_all bear (child_of w) born
  unfolding bear_slot run_all
  slot_run w born = elim (true_or_false (eqb (kind_word w) kind_spawn)) [
    | inl t ↦ cond_true _ _ t ∙ then_end (bear (number_word w) born) ∙ sym (ap (λ (cs : List ℕ). run_all bear cs born) (cond_true (number_word w ∷ []) [] t))
    | inr f ↦ cond_false _ _ f ∙ sym (ap (λ (cs : List ℕ). run_all bear cs born) (cond_false (number_word w ∷ []) [] f))
  ]

  abbrev pub children_at : (size count : ℕ) → List ℕ → List ℕ
  children_at size count b = joined (map child_of (chop count size (drop size b)))

  place_run : (size count : ℕ) (b : List ℕ) (born : List Bool) → bear_place size count live b born ≡ run_all bear (children_at size count b) born
  unfolding bear_place
  place_run size count b born =
      ap (λ (f : List ℕ → List Bool → Option (List Bool)). run_all f (chop count size (drop size b)) born) (λ i w x. slot_run w x i)
      ∙ run_joined bear child_of (chop count size (drop size b)) born

  pub places_run : (size count : ℕ) (blocks : List (List ℕ)) (born : List Bool) → run_all (bear_place size count live) blocks born ≡ run_all bear (joined (map (children_at size count) blocks)) born
  places_run size count blocks born =
      ap (λ (f : List ℕ → List Bool → Option (List Bool)). run_all f blocks born) (λ i b x. place_run size count b x i)
      ∙ run_joined bear (children_at size count) blocks born

-- ---- which places are live

live_long : (p : ℕ) (bs : List (List ℕ)) (live : List Bool) → length (live_from p bs live) ≡ length live
unfolding live_from
live_long p [] live = refl
live_long p (b ∷ bs) live = live_long (p + 1) bs (set live p (not (eqb (kind_word b) kind_free))) ∙ length-set live p (not (eqb (kind_word b) kind_free))

live_before : (p : ℕ) (bs : List (List ℕ)) (live : List Bool) (q : ℕ) → q < p → get_or (live_from p bs live) q false ≡ get_or live q false
unfolding live_from
live_before p [] live q h = refl
live_before p (b ∷ bs) live q h = live_before (p + 1) bs (set live p (not (eqb (kind_word b) kind_free))) q (omega arith) ∙ get_or-set_other live p q (not (eqb (kind_word b) kind_free)) false (λ e. absurd (omega arith))

live_behind : (p : ℕ) (bs : List (List ℕ)) (live : List Bool) (q : ℕ) → p + length bs ≤ q → get_or (live_from p bs live) q false ≡ get_or live q false
unfolding live_from
live_behind p [] live q h = refl
live_behind p (b ∷ bs) live q h = live_behind (p + 1) bs (set live p (not (eqb (kind_word b) kind_free))) q (omega arith) ∙ get_or-set_other live p q (not (eqb (kind_word b) kind_free)) false (λ e. absurd (omega arith))

live_there : (p : ℕ) (bs : List (List ℕ)) (live : List Bool) (i : ℕ) → i < length bs → p + i < length live → get_or (live_from p bs live) (p + i) false ≡ not (eqb (kind_word (get_or bs i [])) kind_free)
unfolding live_from
live_there p [] live i h g = absurd (omega arith)
live_there p (b ∷ bs) live zero h g =
    let here : p + 0 ≡ p = omega arith in
    let one = not (eqb (kind_word b) kind_free) in
    ap (λ (n : ℕ). get_or (live_from (p + 1) bs (set live p one)) n false) here ∙ live_before (p + 1) bs (set live p one) p (omega arith) ∙ get_or-set_same live p one false (omega arith)
live_there p (b ∷ bs) live (suc i) h g =
    let one = not (eqb (kind_word b) kind_free) in
    let further : p + suc i ≡ p + 1 + i = omega arith in
    ap (λ (n : ℕ). get_or (live_from (p + 1) bs (set live p one)) n false) further ∙ live_there (p + 1) bs (set live p one) i (omega arith) (omega (arith, length-set live p one))

none_yet : (q : ℕ) → get_or (replicate 16 false) q false ≡ false
none_yet q = elim (dec_lt q 16) [ yes h ↦ get_or-replicate 16 q false false h | no h ↦ get_or-eq_default (replicate 16 false) false {n = q} (omega (arith, h, length-replicate 16 false)) ]

-- ---- births counted

child_in : Slot → List ℕ
child_in x = cond (eqb x.kind kind_spawn) (x.number ∷ []) []

child_count_lem : (q : ℕ) (x : Slot) (m : ℕ) → occurs q (child_in x) + m ≡ one_if (spawns_there q x) m
unfolding occurs one_if child_in spawns_there
child_count_lem q x m = elim (true_or_false (eqb x.kind kind_spawn)) [
  | inr f ↦ ap (λ (cs : List ℕ). occurs q cs + m) (cond_false (x.number ∷ []) [] f) ∙ zero-add m ∙ ap (λ (b : Bool). one_if (b && eqb x.number q) m) (sym f)
  | inl t ↦
      ap (λ (cs : List ℕ). occurs q cs + m) (cond_true (x.number ∷ []) [] t)
      ∙ elim (ℕ_discrete q x.number) [
        | yes e ↦ (let one : occurs q (x.number ∷ []) ≡ 1 = ap (λ (n : ℕ). occurs n (x.number ∷ [])) e ∙ occurs_head x.number [] in (omega (arith, one)) ∙ ap (λ (b : Bool). one_if b m) (sym (and_of t (eqb_of x.number q (sym e)))))
        | no n ↦ (let none_here : occurs q (x.number ∷ []) ≡ 0 = occurs_other q x.number [] n in (omega (arith, none_here)) ∙ (λ i. one_if (sym t i && sym (eqb_apart x.number q (λ e. n (sym e))) i) m))
      ]
]

births_are : (q : ℕ) (xs : List Slot) → occurs q (joined (map child_in xs)) ≡ births q xs
unfolding births occurs joined
births_are q [] = refl
births_are q (x ∷ xs) = occurs_append q (child_in x) (joined (map child_in xs)) ∙ child_count_lem q x (occurs q (joined (map child_in xs))) ∙ ap (one_if (spawns_there q x)) (births_are q xs)

child_same : (sizes : Sizes) (live : List Bool) (w : List ℕ) → WellSlot sizes w → child_of live w ≡ child_in (read_slot sizes w)
unfolding child_in read_slot
child_same sizes live w x = refl

no_child : (live : List Bool) (w : List ℕ) → get_or w 0 0 ≡ 0 → child_of live w ≡ []
no_child live w k = cond_false (number_word w ∷ []) [] (ap (λ (n : ℕ). eqb n kind_spawn) k)

module _ (sizes : Sizes) (l : List ℕ) (formed : WellFormedStore l) (same : sizes ≡ sizes_in l) where
  abbrev blocks : List (List ℕ)
  blocks = blocks_in sizes l formed same

  abbrev places : ℕ → List Slot
  places = read_place sizes l

  abbrev pub live_in : List Bool
  live_in = live_from 0 blocks (replicate 16 false)

  blocks_long : length blocks ≡ sizes.places
  blocks_long = length_chop sizes.places (block_size sizes) (mid_of blocks_from (sizes.places * block_size sizes) l)

  few_places : sizes.places ≤ 16
  few_places = (sizes_in_lem sizes (subst (λ (z : Sizes). good_sizes z ≡ true) (sym same) formed.sizes_pass)).places_high

  pub live_length : length live_in ≡ 16
  live_length = live_long 0 blocks (replicate 16 false) ∙ length-replicate 16 false

  pub live_at : (q : ℕ) → q < sizes.places → get_or live_in q false ≡ is_live (places q)
  live_at q h =
      ap (λ (n : ℕ). get_or live_in n false) (sym (zero-add q))
      ∙ live_there 0 blocks (replicate 16 false) q (omega (arith, h, blocks_long)) (omega (arith, h, few_places, length-replicate 16 false))
      ∙ live_read sizes (get_or blocks q []) (block_long sizes l formed same q h) (block_well sizes l formed same q h)
      ∙ ap is_live (sym (place_read sizes l formed same q h))

  live_past : (q : ℕ) → sizes.places ≤ q → get_or live_in q false ≡ false
  live_past q h = live_behind 0 blocks (replicate 16 false) q (omega (arith, h, blocks_long)) ∙ none_yet q

  past_dead : (q : ℕ) → sizes.places ≤ q → is_live (places q) ≡ false
  unfolding is_live
  past_dead q h = ap is_live (read_past sizes l q h)

  -- the two say the same of every place
  pub live_same : (q : ℕ) → get_or live_in q false ≡ is_live (places q)
  live_same q = elim (dec_lt q sizes.places) [ yes h ↦ live_at q h | no h ↦ live_past q (omega (arith, h)) ∙ sym (past_dead q (omega (arith, h))) ]

  -- all children, and how often each is one
  abbrev children : List ℕ
  children = joined (map (children_at live_in (slot_size sizes) sizes.entries) blocks)

  place_births : (q p : ℕ) → p < sizes.places → occurs q (children_at live_in (slot_size sizes) sizes.entries (get_or blocks p [])) ≡ births q (tail (places p))
  place_births q p h =
      ap (occurs q) (entries_collected sizes (get_or blocks p []) (block_long sizes l formed same p h) (block_well sizes l formed same p h) (child_of live_in) child_in (child_same sizes live_in) (no_child live_in))
      ∙ births_are q (tail (read_block sizes (get_or blocks p [])))
      ∙ ap (λ (xs : List Slot). births q (tail xs)) (sym (place_read sizes l formed same p h))

  first_births : (q n : ℕ) → n ≤ sizes.places → occurs q (joined (map (children_at live_in (slot_size sizes) sizes.entries) (take n blocks))) ≡ all_births places q n
  unfolding all_births occurs joined
  first_births q zero h = refl
  first_births q (suc n) h =
      ap (λ (bs : List (List ℕ)). occurs q (joined (map (children_at live_in (slot_size sizes) sizes.entries) bs))) (take-suc blocks n [] (omega (arith, h, blocks_long)))
      ∙ ap (occurs q) (collect_snoc (children_at live_in (slot_size sizes) sizes.entries) (take n blocks) (get_or blocks n []))
      ∙ occurs_append q (joined (map (children_at live_in (slot_size sizes) sizes.entries) (take n blocks))) (children_at live_in (slot_size sizes) sizes.entries (get_or blocks n []))
      ∙ omega (arith, first_births q n (omega arith), place_births q n (omega arith))

  pub births_counted : (q : ℕ) → occurs q children ≡ all_births places q sizes.places
  births_counted q = ap (λ (bs : List (List ℕ)). occurs q (joined (map (children_at live_in (slot_size sizes) sizes.entries) bs))) (sym (ap (λ (n : ℕ). take n blocks) (sym blocks_long) ∙ take-length blocks)) ∙ first_births q sizes.places (omega arith)

  abbrev Marked-children : Type 0
  Marked-children = Marked (bear live_in) (λ c. c) (Bearable live_in) (Kept live_in) (Unborn live_in) children (replicate 16 false)

  start_kept : Kept live_in (replicate 16 false)
  start_kept = length-replicate 16 false ∙ sym live_length

  run_same : run_all (bear_place (slot_size sizes) sizes.entries live_in) blocks (replicate 16 false) ≡ run_all (bear live_in) children (replicate 16 false)
  run_same = places_run live_in (slot_size sizes) sizes.entries blocks (replicate 16 false)

  keys_same : (q : ℕ) → occurs q (map (λ (c : ℕ). c) children) ≡ occurs q children
  keys_same q = ap (occurs q) (map_same (λ (c : ℕ). c) children (all_any (λ c. refl) children))

  -- ---- marks that went through, and every live place but 0 marked

  module _ (x : Births (slot_size sizes) sizes.entries live_in blocks) where
    run : run_all (bear live_in) children (replicate 16 false) ≡ some x.born
    run = sym run_same ∙ x.marks

    went : Marked-children
    went = marked (bear live_in) (λ c. c) (Bearable live_in) (Kept live_in) (Unborn live_in) (birth_marks live_in) children (replicate 16 false) x.born start_kept run

    not_zero : (q : ℕ) → is_live (places q) ≡ true → ¬ (q ≡ 0) → ¬ (occurs q children ≡ 0)
    not_zero q lives n z =
        let l : get_or live_in q false ≡ true = live_same q ∙ lives in
        let in_list : q < length live_in = inside_of q l in
        true_not_false (x.all.each q (omega arith) in_list l)
        (open_after (bear live_in) (λ c. c) (Bearable live_in) (Kept live_in) (Unborn live_in) (birth_marks live_in) children (replicate 16 false) x.born start_kept run q (none_yet q) (keys_same q ∙ z))
      where
        inside_of : (q : ℕ) → get_or live_in q false ≡ true → q < length live_in
        inside_of q t = elim (dec_lt q (length live_in)) [ yes h ↦ h | no h ↦ true_not_false t (get_or-eq_default live_in false {n = q} (omega (arith, h))) ]

    fine_child : (q : ℕ) → 1 ≤ occurs q children → Bearable live_in q
    fine_child q h = (occurs_so (λ c. Bearable live_in c × Unborn live_in (replicate 16 false) c) q children went.fine h).0

    no_birth : (q : ℕ) → (is_live (places q) ≡ false) ⊎ (q ≡ 0) → ¬ (1 ≤ occurs q children)
    no_birth q (inl d) h = true_not_false (sym (live_same q) ∙ (fine_child q h).lives) d
    no_birth q (inr z) h = (fine_child q h).not_0 z

    counted_of : BornCounted sizes.places places
    counted_of = record {
      once = λ q lives n. let few = went.once q in let some' = not_zero q lives n in sym (births_counted q) ∙ exactly q (keys_same q) few some';
      never = λ q why. sym (births_counted q) ∙ elim (dec_lt 0 (occurs q children)) [ yes h ↦ absurd (no_birth q why (omega (arith, h))) | no h ↦ omega (arith, h) ];
    }
      where
        exactly : (q : ℕ) → occurs q (map (λ (c : ℕ). c) children) ≡ occurs q children → occurs q (map (λ (c : ℕ). c) children) ≤ 1 → ¬ (occurs q children ≡ 0) → occurs q children ≡ 1
        exactly q e h n = elim (ℕ_discrete (occurs q children) 0) [ yes z ↦ absurd (n z) | no z ↦ omega (arith, e, h, z) ]

  -- ---- births counted: the marks go through

  module _ (c : BornCounted sizes.places places) where
    bearable_child : (q : ℕ) → 1 ≤ occurs q children → Bearable live_in q
    bearable_child q h =
        let alive = lives_so (true_or_false (is_live (places q))) in
        record { not_0 = λ z. (let n = c.never q (inr z) in absurd (omega (arith, n, h, births_counted q))); inside = inside_of (live_same q ∙ alive); lives = live_same q ∙ alive }
      where
        lives_so : (is_live (places q) ≡ true) ⊎ (is_live (places q) ≡ false) → is_live (places q) ≡ true
        lives_so (inl t) = t
        lives_so (inr f) = let n = c.never q (inl f) in absurd (omega (arith, n, h, births_counted q))

        inside_of : get_or live_in q false ≡ true → q < length live_in
        inside_of t = elim (dec_lt q (length live_in)) [ yes g ↦ g | no g ↦ true_not_false t (get_or-eq_default live_in false {n = q} (omega (arith, g))) ]

    at_most : (q : ℕ) → (is_live (places q) ≡ true) ⊎ (is_live (places q) ≡ false) → Dec (q ≡ 0) → occurs q (map (λ (c : ℕ). c) children) ≤ 1
    at_most q (inl t) (no n) = omega (arith, keys_same q, births_counted q, c.once q t n)
    at_most q (inl t) (yes z) = omega (arith, keys_same q, births_counted q, c.never q (inr z))
    at_most q (inr f) d = omega (arith, keys_same q, births_counted q, c.never q (inl f))

    to_go : Marked-children
    to_go = record {
      fine = all_occurring (λ q. Bearable live_in q × Unborn live_in (replicate 16 false) q) children (λ q h. (bearable_child q h, none_yet q));
      once = λ q. at_most q (true_or_false (is_live (places q))) (ℕ_discrete q 0);
    }

    through : (born : List Bool) × (run_all (bear live_in) children (replicate 16 false) ≡ some born)
    through = marks (bear live_in) (λ c. c) (Bearable live_in) (Kept live_in) (Unborn live_in) (birth_marks live_in) children (replicate 16 false) start_kept to_go

    births_of : Births (slot_size sizes) sizes.entries live_in blocks
    births_of = record {
      born = through.0;
      marks = run_same ∙ through.1;
      all = record {
        each = λ q h g l. elim (true_or_false (get_or through.0 q false)) [
          | inl t ↦ t
          | inr f ↦ (
              let none_at = (open_before (bear live_in) (λ c. c) (Bearable live_in) (Kept live_in) (Unborn live_in) (birth_marks live_in) children (replicate 16 false) through.0 start_kept through.1 q f).1 in
              let one = c.once q (sym (live_same q) ∙ l) (λ z. absurd (omega (arith, z, h))) in
              absurd (omega (arith, none_at, one, keys_same q, births_counted q)))
        ];
      };
    }

  pub births_decided : Births (slot_size sizes) sizes.entries live_in blocks ↔ BornCounted sizes.places places
  births_decided = (counted_of, births_of)
