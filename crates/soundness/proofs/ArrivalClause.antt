-- The clauses about messages: the marks of arrivals decide that what came to a place was sent there and came once.
use Prim.Native.Nat.{ℕ, zero, suc, ◌+◌, ◌*◌, ◌-◌, ◌≤◌, ◌<◌, ◌/◌, ◌%◌}
use mathlib.Core.Path.{◌≡◌, refl, sym, ◌∙◌, ap, subst}
use mathlib.Core.Logic.{◌↔◌, ◌⊎◌, inl, inr}
use mathlib.Core.Bool.{Bool, true, false, cond}
use mathlib.Core.Option.{Option, none, some}
use mathlib.Core.List.{List, [], ◌∷◌, ◌++◌, map, map-append, reverse, tail}
use native.Mathlib.Decide.{ℕ_discrete, dec_lt}
use native.Mathlib.Nat.{zero-add}
use native.Mathlib.Omega.{arith}
use borrow.Rule.Slice.PartMut.{mid_of}
use lib.Dec.{eqb}
use lib.ListN.{length, take, drop, get_or, length-map, length-reverse, length-drop, get_or-eq_default}
use lib.Seq.{get_or-take, get_or-drop, drop-drop, length-take-le}
use Rattle.lists.specs.Lists.{All, joined}
use Rattle.lists.proofs.Tests.{none_not_some, true_or_false, cond_true, cond_false}
use Rattle.lists.proofs.All.{all_append, all_left, all_right, all_map, all_unmap, all_get_d, all_so, maps_after}
use Rattle.lists.proofs.Blocks.{length_chop, block_in}
use Rattle.lists.proofs.Counts.{occurs, occurs_append, occurs_head, occurs_other, occurs_more}
use Rattle.rules.specs.State.{Sizes, Letter, letter}
use Rattle.rules.specs.Flight.{sent}
use Rattle.store.specs.Layout.{blocks_from, slot_head, names_room, slot_size, block_size, name_base, kind_rec, Slot}
use Rattle.store.specs.Formed.{IsZero, WellSlot, sizes_in, WellFormedStore}
use Rattle.store.proofs.Reading.{read_slot, read_block, read_place, read_past}
use Rattle.store.proofs.Restoring.{read_send, read_sends}
use Rattle.store.proofs.Histories.{sends_few, sent_below}
use Rattle.store.proofs.SoundSlots.{taken_name, taken_if, taken_names, sent_by, SaidTo}
use Rattle.store.proofs.SoundSlots
use Rattle.slots.specs.SoundTests.{kind_word, number_word, run_all}
use Rattle.soundness.specs.MessageTests.{arrive_from}
use Rattle.slots.proofs.Marks.{Marked, marked, marks}
use Rattle.slots.proofs.Occurring.{occurs_so, all_occurring, occurs_reverse}
use Rattle.soundness.proofs.SlotsInUse.{entries_few}
use Rattle.slots.proofs.BlockViews.{names_read, entries_collected, blocks_in, block_long, block_well, place_read}
use Rattle.soundness.proofs.ArrivalMarks.{Came, came, name_at, arrive, key_of, Sent, Part, Untaken, arrival_marks, whole_part, taken_of, came_to, came_from, all_run}

-- ---- keys

-- a row and a place in it are told by their number
row_told : (p p' k k' n : ℕ) → k < n → k' < n → p * n + k ≡ p' * n + k' → (p ≡ p') × (k ≡ k')
row_told p p' k k' n h h' e = elim (dec_lt p p') [
  | yes l ↦ absurd (omega (arith, l, e, h, block_in p p' n l))
  | no a ↦ elim (dec_lt p' p) [
    | yes l ↦ absurd (omega (arith, l, e, h', block_in p' p n l))
    | no b ↦ (let same : p ≡ p' = omega (arith, a, b) in (same, omega (arith, e, ap (λ (q : ℕ). q * n) same)))
  ]
]

name_told : (entries v w : ℕ) → v % name_base < entries → w % name_base < entries → name_at entries v ≡ name_at entries w → v ≡ w
name_told entries v w h g e = let r = row_told (v / name_base) (w / name_base) (v % name_base) (w % name_base) entries h g e in let a = r.0 in let b = r.1 in omega arith

-- ---- occurrences under a map

occurs_map : (f : ℕ → ℕ) (c : ℕ) (xs : List ℕ) → occurs c xs ≤ occurs (f c) (map f xs)
unfolding occurs
occurs_map f c [] = omega arith
occurs_map f c (x ∷ xs) = elim (ℕ_discrete c x) [
  | yes e ↦ omega (arith, occurs_map f c xs, ap (λ (z : ℕ). occurs z (x ∷ xs)) e, occurs_head x xs, ap (λ (z : ℕ). occurs z xs) e, ap (λ (z : ℕ). occurs (f z) (f x ∷ map f xs)) e, occurs_head (f x) (map f xs), ap (λ (z : ℕ). occurs (f z) (map f xs)) e)
  | no n ↦ omega (arith, occurs_map f c xs, occurs_other c x xs n, occurs_more (f c) (f x) (map f xs))
]

-- ---- what came to all places, and to each

module _ (places entries : ℕ) (table : List ℕ) (words size count : ℕ) where
  abbrev to : List ℕ → List ℕ
  to b = came_to places entries table words size count b

  abbrev from : ℕ → List (List ℕ) → List Came
  from p bs = came_from places entries table words size count p bs

  abbrev key : Came → ℕ
  key c = key_of places entries table c

  came_each : (Q : Came → Type 0) (p : ℕ) (bs : List (List ℕ)) → All Q (from p bs) → (i : ℕ) → i < length bs → All (λ w. Q (came (p + i) w)) (to (get_or bs i []))
  unfolding came_from
  came_each Q p [] a i h = absurd (omega arith)
  came_each Q p (b ∷ bs) a zero h =
      let here : p ≡ p + 0 = omega arith in
      subst (λ (n : ℕ). All (λ w. Q (came n w)) (to b)) here (all_unmap Q (came p) (to b) (all_left Q (map (came p) (to b)) (from (p + 1) bs) a))
  came_each Q p (b ∷ bs) a (suc i) h =
      let further : p + 1 + i ≡ p + suc i = omega arith in
      subst (λ (n : ℕ). All (λ w. Q (came n w)) (to (get_or bs i []))) further (came_each Q (p + 1) bs (all_right Q (map (came p) (to b)) (from (p + 1) bs) a) i (omega arith))

  each_came : (Q : Came → Type 0) (p : ℕ) (bs : List (List ℕ)) → ((i : ℕ) → i < length bs → All (λ w. Q (came (p + i) w)) (to (get_or bs i []))) → All Q (from p bs)
  unfolding came_from All
  each_came Q p [] f = tt
  each_came Q p (b ∷ bs) f =
      let here : p + 0 ≡ p = omega arith in
      all_append Q (map (came p) (to b)) (from (p + 1) bs)
      (all_map Q (came p) (to b) (subst (λ (n : ℕ). All (λ w. Q (came n w)) (to b)) here (f 0 (omega arith))))
      (each_came Q (p + 1) bs (λ i h. (let further : p + suc i ≡ p + 1 + i = omega arith in subst (λ (n : ℕ). All (λ w. Q (came n w)) (to (get_or bs i []))) further (f (suc i) (omega arith)))))

  -- keys of a place, and of all
  keys_first : (p : ℕ) (b : List ℕ) (bs : List (List ℕ)) (k : ℕ) → occurs k (map key (from p (b ∷ bs))) ≡ occurs k (map (name_at entries) (to b)) + occurs k (map key (from (p + 1) bs))
  unfolding came_from
  keys_first p b bs k =
      ap (occurs k) (map-append key (map (came p) (to b)) (from (p + 1) bs) ∙ ap (λ (z : List ℕ). z ++ map key (from (p + 1) bs)) (maps_after (came p) key (to b)))
      ∙ occurs_append k (map (name_at entries) (to b)) (map key (from (p + 1) bs))

  keys_part : (p : ℕ) (bs : List (List ℕ)) (i k : ℕ) → i < length bs → occurs k (map (name_at entries) (to (get_or bs i []))) ≤ occurs k (map key (from p bs))
  keys_part p [] i k h = absurd (omega arith)
  keys_part p (b ∷ bs) zero k h = omega (arith, keys_first p b bs k)
  keys_part p (b ∷ bs) (suc i) k h = omega (arith, keys_first p b bs k, keys_part (p + 1) bs i k (omega arith))

  -- once over all keys, once at each place
  once_each : (bs : List (List ℕ)) → ((k : ℕ) → occurs k (map key (from 0 bs)) ≤ 1) → (i c : ℕ) → i < length bs → occurs c (to (get_or bs i [])) ≤ 1
  once_each bs o i c h = omega (arith, occurs_map (name_at entries) c (to (get_or bs i [])), keys_part 0 bs i (name_at entries c) h, o (name_at entries c))

  -- a key that occurs is that of something
  pub record Keyed (Q : Came → Type 0) (k : ℕ) : Type 0 where
    pub what : Came
    pub holds : Q what
    pub keyed : key what ≡ k

  key_found : (Q : Came → Type 0) (k : ℕ) (cs : List Came) → All Q cs → 1 ≤ occurs k (map key cs) → Keyed Q k
  unfolding All occurs
  key_found Q k [] a h = absurd (omega arith)
  key_found Q k (c ∷ cs) a h = elim (ℕ_discrete k (key c)) [
    | yes e ↦ record { what = c; holds = a.0; keyed = sym e }
    | no n ↦ key_found Q k cs a.1 (omega (arith, h, occurs_other k (key c) (map key cs) n))
  ]

  abbrev Good : Came → Type 0
  Good c = Sent places entries table c

  -- names that are good are told by their keys
  told_once : (p w : ℕ) (ns : List ℕ) → Good (came p w) → All (λ v. Good (came p v)) ns → occurs (name_at entries w) (map (name_at entries) ns) ≤ occurs w ns
  unfolding All occurs
  told_once p w [] g a = omega arith
  told_once p w (v ∷ ns) g a = elim (ℕ_discrete w v) [
    | yes e ↦ omega (arith, told_once p w ns g a.1, ap (λ (z : ℕ). occurs (name_at entries w) (name_at entries z ∷ map (name_at entries) ns)) (sym e), occurs_head (name_at entries w) (map (name_at entries) ns), ap (λ (z : ℕ). occurs w (z ∷ ns)) (sym e), occurs_head w ns)
    | no n ↦ omega (arith, told_once p w ns g a.1, occurs_other (name_at entries w) (name_at entries v) (map (name_at entries) ns) (λ e. n (name_told entries w v g.count a.0.count e)), occurs_more w v ns)
  ]

  -- a key at place p is at no later one
  pub record Later (p : ℕ) (c : Came) : Type 0 where
    pub good : Good c
    pub at_least : p ≤ c.place

  place_once : (p k : ℕ) (ns : List ℕ) → All (λ w. Good (came p w)) ns → ((c : ℕ) → occurs c ns ≤ 1) → occurs k (map (name_at entries) ns) ≤ 1
  place_once p k ns a o = elim (dec_lt 0 (occurs k (map (name_at entries) ns))) [
    | no h ↦ omega (arith, h)
    | yes h ↦ (
        let x = key_found (λ c. Good c × (c.place ≡ p)) k (map (came p) ns) (all_map (λ c. Good c × (c.place ≡ p)) (came p) ns (all_so (λ w g. (g, refl)) ns a)) (omega (arith, h, ap (occurs k) (maps_after (came p) key ns))) in
        let w = x.what.name in
        let g : Good (came p w) = subst (λ (q : ℕ). Good (came q w)) x.holds.1 x.holds.0 in
        let few = told_once p w ns g a in
        omega (arith, o w, few, ap (λ (z : ℕ). occurs z (map (name_at entries) ns)) x.keyed))
  ]

  apart : (p k : ℕ) (ns : List ℕ) (cs : List Came) → All (λ w. Good (came p w)) ns → All (Later (p + 1)) cs → 1 ≤ occurs k (map (name_at entries) ns) → ¬ (1 ≤ occurs k (map key cs))
  apart p k ns cs a b h g =
      let x = key_found (λ c. Good c × (c.place ≡ p)) k (map (came p) ns) (all_map (λ c. Good c × (c.place ≡ p)) (came p) ns (all_so (λ w q. (q, refl)) ns a)) (omega (arith, h, ap (occurs k) (maps_after (came p) key ns))) in
      let y = key_found (Later (p + 1)) k cs b g in
      let e : get_or table k 0 ≡ x.what.place + 1 = ap (λ (z : ℕ). get_or table z 0) (sym x.keyed) ∙ x.holds.0.there in
      let f : get_or table k 0 ≡ y.what.place + 1 = ap (λ (z : ℕ). get_or table z 0) (sym y.keyed) ∙ y.holds.good.there in
      absurd (omega (arith, e, f, x.holds.1, y.holds.at_least))

  later_all : (p : ℕ) (bs : List (List ℕ)) → All Good (from p bs) → All (Later p) (from p bs)
  later_all p bs a = each_came (Later p) p bs (λ i h. all_so (λ w g. record { good = g; at_least = omega arith }) (to (get_or bs i [])) (came_each Good p bs a i h))

  -- once at each place, once over all keys
  each_once : (p : ℕ) (bs : List (List ℕ)) → All Good (from p bs) → ((i c : ℕ) → i < length bs → occurs c (to (get_or bs i [])) ≤ 1) → (k : ℕ) → occurs k (map key (from p bs)) ≤ 1
  unfolding came_from occurs
  each_once p [] a o k = omega arith
  each_once p (b ∷ bs) a o k =
      let mine : All (λ w. Good (came p w)) (to b) = all_unmap Good (came p) (to b) (all_left Good (map (came p) (to b)) (from (p + 1) bs) a) in
      let theirs = all_right Good (map (came p) (to b)) (from (p + 1) bs) a in
      let rest = each_once (p + 1) bs theirs (λ i c h. o (suc i) c (omega arith)) k in
      let first = place_once p k (to b) mine (λ c. o 0 c (omega arith)) in
      elim (dec_lt 0 (occurs k (map (name_at entries) (to b)))) [
        | no h ↦ omega (arith, h, keys_first p b bs k, rest)
        | yes h ↦ elim (dec_lt 0 (occurs k (map key (from (p + 1) bs)))) [
          | no g ↦ omega (arith, g, keys_first p b bs k, first)
          | yes g ↦ absurd (apart p k (to b) (from (p + 1) bs) mine (later_all (p + 1) bs theirs) (omega (arith, h)) (omega (arith, g)))
        ]
      ]

-- ---- what came to a place, read of its slots

length_take_most : (n : ℕ) (l : List ℕ) → length (take n l) ≤ n
length_take_most zero l = omega arith
length_take_most (suc n) [] = omega arith
length_take_most (suc n) (x ∷ l) = omega (arith, length_take_most n l)

taken_in : Slot → List ℕ
taken_in x = cond (eqb x.kind kind_rec) (taken_name x ∷ []) []

taken_are : (xs : List Slot) → taken_names xs ≡ joined (map taken_in xs)
unfolding taken_names taken_if joined taken_in
taken_are [] = refl
taken_are (x ∷ xs) = first (true_or_false (eqb x.kind kind_rec)) ∙ ap (λ (z : List ℕ). taken_in x ++ z) (taken_are xs)
  where
    first : (eqb x.kind kind_rec ≡ true) ⊎ (eqb x.kind kind_rec ≡ false) → taken_if (eqb x.kind kind_rec) (taken_name x) (taken_names xs) ≡ taken_in x ++ taken_names xs
    first (inl t) = ap (λ (b : Bool). taken_if b (taken_name x) (taken_names xs)) t ∙ sym (ap (λ (z : List ℕ). z ++ taken_names xs) (cond_true (taken_name x ∷ []) [] t))
    first (inr f) = ap (λ (b : Bool). taken_if b (taken_name x) (taken_names xs)) f ∙ sym (ap (λ (z : List ℕ). z ++ taken_names xs) (cond_false (taken_name x ∷ []) [] f))

module _ (sizes : Sizes) (w : List ℕ) (x : WellSlot sizes w) where
  abbrev at : ℕ
  at = slot_head + sizes.words + number_word w

  -- the word behind the names, where there is one, is a zero
  padding : get_or w 4 0 ≤ number_word w → get_or w at 0 ≡ 0
  padding h = elim (dec_lt (number_word w) (names_room sizes)) [
    | no o ↦ get_or-eq_default w 0 {n = at} (omega (arith, o, x.long))
    | yes i ↦ (
        let room = mid_of (slot_head + sizes.words) (names_room sizes) w in
        let long : length room ≡ names_room sizes = length-take-le (names_room sizes) (drop (slot_head + sizes.words) w) (omega (arith, x.long, length-drop (slot_head + sizes.words) w)) in
        let gap : get_or w 4 0 + (number_word w - get_or w 4 0) ≡ number_word w = omega arith in
        let z = all_get_d IsZero (drop (get_or w 4 0) room) (number_word w - get_or w 4 0) 0 x.names_zeros (omega (arith, i, long, length-drop (get_or w 4 0) room)) in
        sym (get_or-drop (slot_head + sizes.words) w (number_word w) 0)
        ∙ sym (get_or-take (names_room sizes) (drop (slot_head + sizes.words) w) (number_word w) 0 i)
        ∙ ap (λ (n : ℕ). get_or room n 0) (sym gap)
        ∙ sym (get_or-drop (get_or w 4 0) room (number_word w - get_or w 4 0) 0)
        ∙ z)
  ]

  taken_word : get_or w at 0 ≡ taken_name (read_slot sizes w)
  unfolding read_slot
  taken_word =
      let names = take (get_or w 4 0) (drop sizes.words (drop slot_head w)) in
      let names_long : length names ≤ get_or w 4 0 = length_take_most (get_or w 4 0) (drop sizes.words (drop slot_head w)) in
      elim (dec_lt (number_word w) (get_or w 4 0)) [
        | yes h ↦
            sym (get_or-drop (slot_head + sizes.words) w (number_word w) 0)
            ∙ ap (λ (z : List ℕ). get_or z (number_word w) 0) (sym (drop-drop sizes.words slot_head w))
            ∙ sym (get_or-take (get_or w 4 0) (drop sizes.words (drop slot_head w)) (number_word w) 0 h)
        | no h ↦ padding (omega (arith, h)) ∙ sym (get_or-eq_default names 0 {n = number_word w} (omega (arith, h, names_long)))
      ]

module _ (sizes : Sizes) (places entries : ℕ) (table : List ℕ) where
  taken_same : (w : List ℕ) → WellSlot sizes w → taken_of places entries table sizes.words w ≡ taken_in (read_slot sizes w)
  unfolding taken_in read_slot
  taken_same w x = ap (λ (n : ℕ). cond (eqb (kind_word w) kind_rec) (n ∷ []) []) (taken_word sizes w x)

  no_taken : (w : List ℕ) → get_or w 0 0 ≡ 0 → taken_of places entries table sizes.words w ≡ []
  no_taken w k = cond_false (get_or w (slot_head + sizes.words + number_word w) 0 ∷ []) [] (ap (λ (n : ℕ). eqb n kind_rec) k)

-- ---- the table

unfoldable pub target_word : Option Letter → ℕ
target_word none = 0
target_word (some (letter target value)) = suc target

pub record TargetTable (module' : List ℕ) (sizes : Sizes) (places : ℕ → List Slot) (targets : List ℕ) : Type 0 where
  pub long : sizes.places * sizes.entries ≤ length targets
  pub at : (p k : ℕ) → p < sizes.places → k < sizes.entries → get_or targets (p * sizes.entries + k) 0 ≡ target_word (sent_by module' places p k)

module _ (module' : List ℕ) (sizes : Sizes) (l : List ℕ) (formed : WellFormedStore l) (same : sizes ≡ sizes_in l) (targets : List ℕ) (table : TargetTable module' sizes (read_place sizes l) targets) where
  abbrev blocks : List (List ℕ)
  blocks = blocks_in sizes l formed same

  abbrev places_read : ℕ → List Slot
  places_read = read_place sizes l

  abbrev arrived_at : ℕ → List ℕ
  arrived_at t = SoundSlots.arrived places_read t

  abbrev to_block : ℕ → List ℕ
  to_block t = came_to sizes.places sizes.entries targets sizes.words (slot_size sizes) sizes.entries (get_or blocks t [])

  blocks_long : length blocks ≡ sizes.places
  blocks_long = length_chop sizes.places (block_size sizes) (mid_of blocks_from (sizes.places * block_size sizes) l)

  -- the two occur alike
  came_read : (t c : ℕ) → t < sizes.places → occurs c (to_block t) ≡ occurs c (arrived_at t)
  came_read t c h =
      let b = get_or blocks t [] in
      let long = block_long sizes l formed same t h in
      let well = block_well sizes l formed same t h in
      let slots = read_block sizes b in
      let entries-taken = entries_collected sizes b long well (taken_of sizes.places sizes.entries targets sizes.words) taken_in (taken_same sizes sizes.places sizes.entries targets) (no_taken sizes sizes.places sizes.entries targets) in
      (λ i. occurs c (names_read sizes b long well i ++ entries-taken i))
      ∙ occurs_append c (SoundSlots.names_in slots) (joined (map taken_in (tail slots)))
      ∙ ap (λ (n : ℕ). occurs c (SoundSlots.names_in slots) + n) (sym (occurs_reverse taken_in c (tail slots)) ∙ ap (occurs c) (sym (taken_are (reverse (tail slots)))))
      ∙ sym (occurs_append c (SoundSlots.names_in slots) (taken_names (reverse (tail slots))))
      ∙ ap (λ (xs : List Slot). occurs c (SoundSlots.names_in xs ++ taken_names (reverse (tail xs)))) (sym (place_read sizes l formed same t h))

  none_past : (t : ℕ) → sizes.places ≤ t → arrived_at t ≡ []
  unfolding SoundSlots.names_in taken_names
  none_past t h = ap (λ (xs : List Slot). SoundSlots.names_in xs ++ taken_names (reverse (tail xs))) (read_past sizes l t h)

  -- the names of sends
  few_entries : (p : ℕ) → p < sizes.places → length (tail (places_read p)) ≤ sizes.entries
  few_entries p h =
      let b = get_or blocks p [] in
      omega (arith, ap (λ (xs : List Slot). length (tail xs)) (place_read sizes l formed same p h), entries_few sizes b (block_long sizes l formed same p h) (block_well sizes l formed same p h))

  sent_in : (p k : ℕ) (x : Letter) → sent_by module' places_read p k ≡ some x → (p < sizes.places) × (k < sizes.entries)
  unfolding read_sends sent
  sent_in p k x e = elim (dec_lt p sizes.places) [
    | no h ↦ none_not_some (sym (ap (λ (xs : List Slot). sent (read_sends module' xs) k) (read_past sizes l p (omega (arith, h)))) ∙ e)
    | yes h ↦ (
        let entries-read = map (read_send module') (reverse (tail (places_read p))) in
        let below = sent_below entries-read k e in
        (h, omega (arith, below, sends_few entries-read, length-map (reverse (tail (places_read p))) (read_send module'), length-reverse (tail (places_read p)), few_entries p h)))
  ]

  said_sent : (t w : ℕ) → SaidTo module' places_read t w → Sent sizes.places sizes.entries targets (came t w)
  unfolding target_word
  said_sent t w s =
      let (hp, hk) = sent_in (w / name_base) (w % name_base) (letter t s.value) s.said in
      record { sender = hp; count = hk; there = table.at (w / name_base) (w % name_base) hp hk ∙ ap target_word s.said ∙ omega arith }

  sent_said : (t w : ℕ) → Sent sizes.places sizes.entries targets (came t w) → SaidTo module' places_read t w
  unfolding target_word
  sent_said t w s = go (sent_by module' places_read (w / name_base) (w % name_base)) refl (sym (table.at (w / name_base) (w % name_base) s.sender s.count) ∙ s.there)
    where
      go : (o : Option Letter) → sent_by module' places_read (w / name_base) (w % name_base) ≡ o → target_word o ≡ t + 1 → SaidTo module' places_read t w
      go none e z = absurd (omega (arith, z))
      go (some (letter target value)) e z = record { value = value; said = e ∙ ap (λ (n : ℕ). some (letter n value)) (omega (arith, z)) }

  abbrev Once : Type 0
  Once = (t c : ℕ) → occurs c (arrived_at t) ≤ 1

  abbrev Said : Type 0
  Said = (t : ℕ) → All (SaidTo module' places_read t) (arrived_at t)

  abbrev all : List Came
  all = came_from sizes.places sizes.entries targets sizes.words (slot_size sizes) sizes.entries 0 blocks

  abbrev MarkedAll : Type 0
  MarkedAll =
      Marked (arrive sizes.places sizes.entries targets) (key_of sizes.places sizes.entries targets) (Sent sizes.places sizes.entries targets) (Part sizes.places sizes.entries targets)
      (Untaken sizes.places sizes.entries targets) all targets

  -- what all that came has, the names at each place have
  came_good : MarkedAll → (t : ℕ) → t < sizes.places → All (λ w. Sent sizes.places sizes.entries targets (came t w)) (to_block t)
  came_good m t h =
      subst (λ (n : ℕ). All (λ w. Sent sizes.places sizes.entries targets (came n w)) (to_block t)) (zero-add t)
      (came_each sizes.places sizes.entries targets sizes.words (slot_size sizes) sizes.entries (Sent sizes.places sizes.entries targets) 0 blocks (all_so (λ c x. x.0) all m.fine) t (omega (arith, h, blocks_long)))

  once_at : MarkedAll → Once
  unfolding occurs
  once_at m t c = elim (dec_lt t sizes.places) [
    | yes h ↦ omega (arith, came_read t c h, once_each sizes.places sizes.entries targets sizes.words (slot_size sizes) sizes.entries blocks m.once t c (omega (arith, h, blocks_long)))
    | no h ↦ omega (arith, ap (occurs c) (none_past t (omega (arith, h))))
  ]

  said_at : MarkedAll → Said
  unfolding All
  said_at m t = elim (dec_lt t sizes.places) [
    | yes h ↦ all_occurring (SaidTo module' places_read t) (arrived_at t) (λ w o. sent_said t w (occurs_so (λ v. Sent sizes.places sizes.entries targets (came t v)) w (to_block t) (came_good m t h) (omega (arith, o, came_read t w h))))
    | no h ↦ subst (All (SaidTo module' places_read t)) (sym (none_past t (omega (arith, h)))) tt
  ]

  -- and the other way
  good_came : Said → All (Sent sizes.places sizes.entries targets) all
  good_came said =
      each_came sizes.places sizes.entries targets sizes.words (slot_size sizes) sizes.entries (Sent sizes.places sizes.entries targets) 0 blocks
      (λ t h. (
      let inside : t < sizes.places = omega (arith, h, blocks_long) in
      subst (λ (n : ℕ). All (λ w. Sent sizes.places sizes.entries targets (came n w)) (to_block t)) (sym (zero-add t))
      (all_occurring (λ w. Sent sizes.places sizes.entries targets (came t w)) (to_block t) (λ w o. said_sent t w (occurs_so (SaidTo module' places_read t) w (arrived_at t) (said t) (omega (arith, o, came_read t w inside)))))))

  to_mark : Once → Said → MarkedAll
  to_mark once said = record {
    fine = all_so (λ c g. (g, refl)) all (good_came said);
    once = each_once sizes.places sizes.entries targets sizes.words (slot_size sizes) sizes.entries 0 blocks (good_came said)
        (λ t c h. omega (arith, came_read t c (omega (arith, h, blocks_long)), once t c));
  }

  run_same : arrive_from sizes.words (slot_size sizes) sizes.entries sizes.places sizes.entries 0 blocks targets ≡ run_all (arrive sizes.places sizes.entries targets) all targets
  run_same = all_run sizes.places sizes.entries targets sizes.words (slot_size sizes) sizes.entries 0 blocks targets

  abbrev Through : Type 0
  Through = (left : List ℕ) × (arrive_from sizes.words (slot_size sizes) sizes.entries sizes.places sizes.entries 0 blocks targets ≡ some left)

  went : Through → MarkedAll
  went (left, e) =
      marked (arrive sizes.places sizes.entries targets) (key_of sizes.places sizes.entries targets) (Sent sizes.places sizes.entries targets) (Part sizes.places sizes.entries targets)
      (Untaken sizes.places sizes.entries targets) (arrival_marks sizes.places sizes.entries targets) all targets left (whole_part sizes.places sizes.entries targets) (sym run_same ∙ e)

  goes : Once → Said → Through
  goes once said =
      let (left, e) = marks (arrive sizes.places sizes.entries targets) (key_of sizes.places sizes.entries targets) (Sent sizes.places sizes.entries targets) (Part sizes.places sizes.entries targets)
      (Untaken sizes.places sizes.entries targets) (arrival_marks sizes.places sizes.entries targets) all targets (whole_part sizes.places sizes.entries targets) (to_mark once said) in
      (left, run_same ∙ e)

  pub arrivals_decided : Through ↔ (Once × Said)
  arrivals_decided = (λ x. (let m = went x in (once_at m, said_at m)), λ c. goes c.0 c.1)
