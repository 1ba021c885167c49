-- Arrivals read from a store: how many there are, and which of them has a name.
use Rattle.std.proofs.Common.{None, Some}
use Prim.Native.Nat.{ℕ, zero, suc, ◌+◌, ◌*◌, ◌-◌, ◌≤◌, ◌<◌}
use mathlib.Core.Path.{◌≡◌, refl, sym, ◌∙◌, ap, subst}
use mathlib.Core.Logic.{inl, inr}
use mathlib.Core.Option.{Option, none, some}
use mathlib.Core.List.{List, [], ◌∷◌, ◌++◌, map}
use native.Mathlib.Omega.{arith}
use native.Mathlib.Nat.{mul-le-mul}
use lib.ListN.{length, drop, get_or, length-append, length-map}
use Rattle.rules.specs.State.{Message, Taking, taking, as_rec, Entry, State, history_at, entry_at}
use Rattle.rules.specs.Flight.{taken, left_or, left}
use Rattle.rules.specs.Sound.{Sound}
use Rattle.rules.specs.Depends.{queue_before, level}
use Rattle.rules.specs.Standing.{Stands, Arrives, shown_or, shown, come, seen}
use Rattle.demands.proofs.Messages.{Any, here, there, any_append, any_middle, any_none}
use Rattle.demands.proofs.Arrival.{length_come}
use Rattle.demands.proofs.Event.{arrivals_at}
use Rattle.demands.proofs.EventDepends.{stands_entry, entry_here}
use Rattle.demands.proofs.CutNumbers.{number_now, number_then, seen_is}
use Rattle.store.specs.Layout.{kind_number, kind_rec, name_word}
use Rattle.store.specs.Image.{IsImage}
use Rattle.store.proofs.SoundStates.{sizes_in_lem, storable}
use Rattle.reading.specs.Reads.{Holds, OfState, IsEntry, OfEntry, oldest}
use Rattle.reading.proofs.Oldest.{parted, none_by_kind, oldest_none, oldest_all, entry_exists}
use Rattle.cuts.specs.Bounds.{most_places, most_entries, most_queued}
use Rattle.links.specs.Listed.{OfRec, PlaceFrom, ArrivalIs, ComeCount, LeftAt}
use Rattle.links.proofs.LinkReads.{stands_oldest, rec_of}

-- ---- a queue is not too long
queue_low : (s : State) (p : ℕ) → Sound s → length (s.queues p) ≤ most_queued
queue_low s p sound =
    let sizes = sizes_in_lem s.sizes sound.sizes_pass in
    let most : s.sizes.places * s.sizes.entries ≤ most_places * most_entries = mul-le-mul {n₁ = s.sizes.places} {m₁ = s.sizes.entries} {n₂ = most_places} {m₂ = most_entries} sizes.places_high sizes.entries_high in
    omega (arith, ((storable s sound).queue p).fits, most)

-- ---- how many recs there are
module _ (store : List ℕ) (p : ℕ) where
  abbrev pub RecsAt : (i n : ℕ) → Type 0
  RecsAt i n = OfState store (λ s. n ≡ length (taken (oldest i (history_at s p))))

  -- how many came
  pub come_counted : (end n : ℕ) (queue : List ℕ) → OfState store (λ s. end ≡ length (history_at s p)) → RecsAt end n → n ≤ end → OfState store (λ s. queue ≡ map name_word (s.queues p)) → OfState store (ComeCount p (n + length queue))
  unfolding OfState level
  come_counted end n queue ends recs low q s rest holds =
      let h = history_at s p in
      let size : length queue ≡ length (s.queues p) = ap length (q s rest holds) ∙ length-map (s.queues p) name_word in
      let all : n ≡ length (taken h) = recs s rest holds ∙ ap (λ k. length (taken (oldest k h))) (ends s rest holds) ∙ ap (λ l. length (taken l)) (oldest_all h) in
      let sizes = sizes_in_lem s.sizes holds.sound.sizes_pass in
      record {
        count = omega (arith, ap length (arrivals_at holds.sound p), length_come h (s.queues p) (holds.sound.prefixes p), size, all);
        few = omega (arith, low, ends s rest holds, holds.sound.history_fits p, sizes.entries_high, size, queue_low s p holds.sound);
      }

-- ---- the queue that the newest rec left
left_next : (h : List Entry) (i : ℕ) {e : Entry} → entry_at h i ≡ some e → left (oldest (i + 1) h) ≡ left_or (as_rec e.kind) (left (oldest i h))
unfolding left
left_next h i stands = ap left (parted h i stands).before

shown_next : (h : List Entry) (i : ℕ) {e : Entry} → entry_at h i ≡ some e → shown (oldest (i + 1) h) ≡ shown_or (as_rec e.kind) (left (oldest i h)) (shown (oldest i h))
unfolding shown
shown_next h i stands = ap shown (parted h i stands).before

-- ---- a name in a list of messages
abbrev HasName : ℕ → Message → Type 0
HasName name m = name_word m ≡ name

name_split : (l : List Message) (j name : ℕ) → j < length (map name_word l) → get_or (map name_word l) j 0 ≡ name → (x : List Message) × (n : Message) × (y : List Message) × (l ≡ x ++ (n ∷ y)) × (length x ≡ j) × HasName name n
name_split [] j name h e = absurd (omega (arith, h))
name_split (m ∷ l) zero name h e = ([], m, l, refl, refl, e)
name_split (m ∷ l) (suc j) name h e = let (x, n, y, i, z, k) = name_split l j name (omega (arith, h)) e in (m ∷ x, n, y, ap (λ w. m ∷ w) i, ap suc z, k)

name_index : (l : List Message) (k name : ℕ) → Any (HasName name) (drop k l) → (j : ℕ) × (k ≤ j) × (j < length (map name_word l)) × (get_or (map name_word l) j 0 ≡ name)
name_index [] zero name x = absurd (any_none x refl)
name_index [] (suc k) name x = absurd (any_none x refl)
name_index (m ∷ l) zero name (here e) = (0, omega arith, omega arith, e)
name_index (m ∷ l) zero name (there x) = let (j, a, b, c) = name_index l zero name x in (suc j, omega arith, omega (arith, b), c)
name_index (m ∷ l) (suc k) name x = let (j, a, b, c) = name_index l k name x in (suc j, omega (arith, a), omega (arith, b), c)

-- ---- the walk over the queues that a place's entries show
module _ (store : List ℕ) (q : ℕ) where
  abbrev pub LeftIs : (i n : ℕ) → Type 0
  LeftIs i n = OfState store (λ s. n ≡ length (left (oldest i (history_at s q))))

  abbrev pub Unshown : (i name : ℕ) → Type 0
  Unshown i name = OfState store (λ s. ¬ Any (HasName name) (shown (oldest i (history_at s q))))

  pub left_start : LeftIs 0 0
  unfolding OfState left
  left_start s rest holds = sym (ap (λ l. length (left l)) (oldest_none (history_at s q)))

  pub unshown_start : (name : ℕ) → Unshown 0 name
  unfolding OfState shown
  unshown_start name s rest holds x = any_none (subst (λ l. Any (HasName name) (shown l)) (oldest_none (history_at s q)) x) refl

  module _ (i before : ℕ) where
    pub left_rec : (k : ℕ) (names : List ℕ) → OfState store (OfEntry q i (λ e. k ≡ kind_number e.kind)) → k ≡ kind_rec → OfState store (OfEntry q i (λ e. names ≡ map name_word (queue_before (as_rec e.kind)))) → OfState store (LeftAt q i before (length names - 1))
    unfolding OfState OfEntry LeftAt left_or queue_before
    left_rec k names read e named s rest holds f stands l z =
        let (a, m, d, is) = rec_of f.kind (sym (read s rest holds f stands) ∙ e) in
        let size : length names ≡ length (a ++ (m ∷ d)) = ap length (named s rest holds f stands) ∙ length-map (queue_before (as_rec f.kind)) name_word ∙ ap (λ o. length (queue_before o)) is in
        omega (arith, size, length-append a (m ∷ d), length-append a d, ap (λ o. length (left_or o l)) is)

    pub left_other : (k : ℕ) → OfState store (OfEntry q i (λ e. k ≡ kind_number e.kind)) → ¬ (k ≡ kind_rec) → OfState store (LeftAt q i before before)
    unfolding OfState OfEntry LeftAt left_or
    left_other k read n s rest holds f stands l z = sym (ap (λ o. length (left_or o l)) (none_by_kind f.kind (λ e. n (read s rest holds f stands ∙ e))) ∙ z)

    pub names_some : (k : ℕ) (names : List ℕ) → IsImage store → OfState store (IsEntry q i) → OfState store (OfEntry q i (λ e. k ≡ kind_number e.kind)) → k ≡ kind_rec
        → OfState store (OfEntry q i (λ e. names ≡ map name_word (queue_before (as_rec e.kind)))) → 1 ≤ length names
    unfolding OfState OfEntry queue_before
    names_some k names is_image there-is read e named =
        let s = is_image.state in
        let rest = is_image.rest in
        let holds : Holds store s rest = record { sound = is_image.sound; words = is_image.words } in
        let (f, stands) = entry_exists (history_at s q) i (there-is s rest holds) in
        let (a, m, d, is) = rec_of f.kind (sym (read s rest holds f stands) ∙ e) in
        omega (arith, ap length (named s rest holds f stands), length-map (queue_before (as_rec f.kind)) name_word, ap (λ o. length (queue_before o)) is, length-append a (m ∷ d))

  module _ (i leftover name : ℕ) (names : List ℕ) (there-is : OfState store (IsEntry q i)) (left_is : LeftIs i leftover)
      (named : OfState store (OfEntry q i (λ e. names ≡ map name_word (queue_before (as_rec e.kind))))) where
    pub left_more : (n : ℕ) → OfState store (LeftAt q i leftover n) → LeftIs (i + 1) n
    unfolding OfState LeftAt
    left_more n at s rest holds =
        let (e, stands) = entry_exists (history_at s q) i (there-is s rest holds) in
        at s rest holds e stands (left (oldest i (history_at s q))) (sym (left_is s rest holds)) ∙ sym (ap length (left_next (history_at s q) i stands))

    pub unshown_more : Unshown i name → PlaceFrom names leftover name None → Unshown (i + 1) name
    unfolding OfState OfEntry shown_or queue_before
    unshown_more unshown nowhere s rest holds x =
        let (e, stands) = entry_exists (history_at s q) i (there-is s rest holds) in
        go (oldest i (history_at s q)) (as_rec e.kind) (named s rest holds e stands) (left_is s rest holds) (unshown s rest holds) (subst (Any (HasName name)) (shown_next (history_at s q) i stands) x)
      where
        go : (g : List Entry) (o : Option Taking) → names ≡ map name_word (queue_before o) → leftover ≡ length (left g) → ¬ Any (HasName name) (shown g) → Any (HasName name) (shown_or o (left g) (shown g)) → ⊥
        go g none e l f x = f x
        go g (some (taking a m d)) e l f x = elim (any_append (shown g) x) [
          | inl y ↦ f y
          | inr y ↦ (let (j, low, high, at) = name_index (a ++ (m ∷ d)) (length (left g)) name y in nowhere j (omega (arith, low, l)) (subst (λ z. j < length z) (sym e) high) (ap (λ z. get_or z j 0) e ∙ at))
        ]

    pub shown_here : (j recs : ℕ) → PlaceFrom names leftover name (Some j) → OfState store (λ s. recs ≡ length (taken (oldest i (history_at s q)))) → OfState store (ArrivalIs q name (Some (recs + j)))
    unfolding OfState OfEntry ArrivalIs queue_before level
    shown_here j recs (low, high, at) counted s rest holds =
        let (e, g, st) = entry_here s q i (there-is s rest holds) in
        go e g st (as_rec e.kind) refl (named s rest holds e (stands_entry st)) (left_is s rest holds ∙ ap (λ z. length (left z)) (stands_oldest st)) (counted s rest holds ∙ ap (λ z. length (taken z)) (stands_oldest st))
      where
        go : (e : Entry) (g : List Entry) → Stands s q i e g → (o : Option Taking) → as_rec e.kind ≡ o → names ≡ map name_word (queue_before o) → leftover ≡ length (left g) → recs ≡ length (taken g) → (n : Message) × Arrives s q (recs + j) n × (name_word n ≡ name)
        go e g st none is z l c = absurd (omega (arith, high, ap length z))
        go e g st (some (taking a m d)) is z l c =
            let (x, n, y, split, size, name-is) = name_split (a ++ (m ∷ d)) j name (subst (λ w. j < length w) z high) (ap (λ w. get_or w j 0) (sym z) ∙ at) in
            let r = number_then holds.sound x y st is split (omega (arith, size, low, l)) in
            let same : length x + length (taken g) ≡ recs + j = omega (arith, size, c) in
            (n, subst (λ k. Arrives s q k n) same r, name-is)

  module _ (end leftover name : ℕ) (names : List ℕ) (ends : OfState store (λ s. end ≡ length (history_at s q))) (left_is : LeftIs end leftover) (named : OfState store (λ s. names ≡ map name_word (s.queues q))) where
    whole_is : (s : State) (rest : List ℕ) → Holds store s rest → oldest end (history_at s q) ≡ history_at s q
    unfolding OfState
    whole_is s rest holds = ap (λ k. oldest k (history_at s q)) (ends s rest holds) ∙ oldest_all (history_at s q)

    pub queued_here : (j recs : ℕ) → PlaceFrom names leftover name (Some j) → OfState store (λ s. recs ≡ length (taken (oldest end (history_at s q)))) → OfState store (ArrivalIs q name (Some (recs + j)))
    unfolding OfState ArrivalIs
    queued_here j recs (low, high, at) counted s rest holds =
        let own = whole_is s rest holds in
        let z = named s rest holds in
        let (x, n, y, split, size, name-is) = name_split (s.queues q) j name (subst (λ w. j < length w) z high) (ap (λ w. get_or w j 0) (sym z) ∙ at) in
        let r = number_now holds.sound x y split (omega (arith, size, low, left_is s rest holds, ap (λ w. length (left w)) own)) in
        let same : length x + length (taken (history_at s q)) ≡ recs + j = omega (arith, size, counted s rest holds, ap (λ w. length (taken w)) own) in
        (n, subst (λ k. Arrives s q k n) same r, name-is)

    pub queued_nowhere : Unshown end name → PlaceFrom names leftover name None → OfState store (ArrivalIs q name None)
    unfolding OfState ArrivalIs come
    queued_nowhere unshown nowhere s rest holds j n r e =
        let own = whole_is s rest holds in
        let z = named s rest holds in
        let came : Any (HasName name) (shown (history_at s q) ++ drop (length (left (history_at s q))) (s.queues q)) = subst (Any (HasName name)) (sym r.at ∙ arrivals_at holds.sound q) (any_middle r.before n r.after e) in
        elim (any_append (shown (history_at s q)) came) [
          | inl y ↦ unshown s rest holds (subst (λ w. Any (HasName name) (shown w)) (sym own) y)
          | inr y ↦ (let (k, low, high, at) = name_index (s.queues q) (length (left (history_at s q))) name y in nowhere k (omega (arith, low, left_is s rest holds, ap (λ w. length (left w)) own)) (subst (λ w. k < length w) (sym z) high) (ap (λ w. get_or w k 0) z ∙ at))
        ]

-- ---- what a rec has seen
pub seen_read : (store : List ℕ) (p i n : ℕ) (names : List ℕ) → OfState store (λ s. n ≡ length (taken (oldest i (history_at s p)))) → OfState store (OfEntry p i (λ e. names ≡ map name_word (queue_before (as_rec e.kind))))
    → OfState store (OfRec p i (λ a m d g. n + length names ≡ seen a m d g))
unfolding OfState OfEntry OfRec queue_before
seen_read store p i n names recs named s rest holds e g a m d st is =
    omega (
      arith,
      recs s rest holds,
      ap (λ z. length (taken z)) (stands_oldest st),
      ap length (named s rest holds e (stands_entry st)),
      length-map (queue_before (as_rec e.kind)) name_word,
      ap (λ o. length (queue_before o)) is,
      seen_is holds.sound st is,
    )
