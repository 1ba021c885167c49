-- Counting sends, finding one, and looking for a message among names and among what recs took, said of the state that a store holds.
use Rattle.std.proofs.Common.{None, Some, nat_eq}
use Rattle.std.specs.List.{list_any}
use Rattle.std.proofs.lemmas.Cmp.{nat_eq_equiv}
use Prim.Native.Nat.{ℕ, ◌+◌, ◌-◌, ◌≤◌, ◌<◌}
use mathlib.Core.Path.{◌≡◌, refl, sym, ◌∙◌, ap}
use mathlib.Core.Bool.{Bool, true, false, ◌||◌}
use mathlib.Core.Option.{Option, none, some}
use mathlib.Core.List.{List, [], ◌∷◌, ◌++◌, map}
use native.Mathlib.Decide.{ℕ_discrete}
use native.Mathlib.Omega.{arith}
use lib.Dec.{eqb}
use lib.ListN.{length, drop, get_or, length-append, length-map, length-drop}
use Rattle.lists.specs.Lists.{any, member}
use Rattle.lists.proofs.Tests.{true_not_false, eqb_of, eqb_apart, or_left, or_right, or_false}
use Rattle.rules.specs.State.{Message, Letter, letter, Taking, taking, as_send, as_rec, Entry, State, history_at, entry_at, is_named}
use Rattle.rules.specs.Flight.{count_letter, sends, sent, also_taken, taken, has_come}
use Rattle.rules.specs.Depends.{queue_before}
use Rattle.demands.proofs.Messages.{Any, here, there, Is, all_at}
use Rattle.store.specs.Image.{IsImage}
use Rattle.store.specs.Layout.{kind_send, kind_rec, name_word, kind_number, number_in}
use Rattle.store.proofs.Histories.{sends_few}
use Rattle.store.proofs.SoundStates.{sizes_in_lem}
use Rattle.reading.specs.Reads.{Holds, OfState, IsEntry, OfEntry, IsSend, SendAt, oldest, SendFound}
use Rattle.reading.proofs.Holding.{at_image, holding, of_state}
use Rattle.reading.proofs.Oldest.{send_by_kind, other_by_kind, rec_by_kind, none_by_kind, entry_exists, oldest_all, parted, sends_none, not_sent, sent_there, took_this, took_nothing}
use Rattle.reading.proofs.Naming.{sender_of, count_of, Small, named_test, member_named, queue_small, taken_small, name_middle}

-- ---- counts

count_plus : (o : Option Letter) (n : ℕ) → count_letter o n ≡ n + count_letter o 0
unfolding count_letter
count_plus none n = omega arith
count_plus (some l) n = omega arith

count_one : (o : Option Letter) → count_letter o 0 ≤ 1
unfolding count_letter
count_one none = omega arith
count_one (some l) = omega arith

count_letter_lem : (o : Option Letter) → 0 < count_letter o 0 → (l : Letter) × (o ≡ some l)
unfolding count_letter
count_letter_lem none h = absurd (omega arith)
count_letter_lem (some l) h = (l, refl)

pub count_none : (o : Option Letter) → 0 ≡ count_letter o 0 → o ≡ none
unfolding count_letter
count_none none h = refl
count_none (some l) h = absurd (omega arith)

-- one more entry
pub sends_next : (h : List Entry) (i : ℕ) {e : Entry} → entry_at h i ≡ some e → sends (oldest (i + 1) h) ≡ sends (oldest i h) + count_letter (as_send e.kind) 0
unfolding sends
sends_next h i {e} stands = ap sends (parted h i stands).before ∙ count_plus (as_send e.kind) (sends (oldest i h))

pub sends_low : (h : List Entry) (i : ℕ) → sends (oldest i h) ≤ length h
unfolding oldest
sends_low h i = let few = sends_few (drop (length h - i) h) in omega (arith, length-drop (length h - i) h)

module _ (l : List ℕ) where
  -- 1 where entry j is a send
  abbrev pub Here : (p j x : ℕ) → Type 0
  Here p j x = OfState l (OfEntry p j (λ e. x ≡ count_letter (as_send e.kind) 0))

  -- how many entries there are
  abbrev pub Ends : (p end : ℕ) → Type 0
  Ends p end = OfState l (λ s. end ≡ length (history_at s p))

  pub index_entry : (p j i : ℕ) → OfState l (λ s. i ≤ length (history_at s p)) → j < i → OfState l (IsEntry p j)
  index_entry p j i f b = of_state _ λ s rest h. omega (arith, holding _ f s rest h)

  pub end_entry : (p i end : ℕ) → Ends p end → i < end → OfState l (IsEntry p i)
  end_entry p i end f b = of_state _ λ s rest h. omega (arith, holding _ f s rest h)

  pub index_low : (p i : ℕ) → IsImage l → OfState l (λ s. i ≤ length (history_at s p)) → i ≤ 64
  index_low p i im f = omega (arith, at_image _ im f, im.sound.history_fits p, (sizes_in_lem im.state.sizes im.sound.sizes_pass).entries_high)

  -- ---- one entry

  module _ (p i k : ℕ) (f : OfState l (OfEntry p i (λ e. k ≡ kind_number e.kind))) where
    pub send_one : k ≡ kind_send → Here p i 1
    unfolding OfEntry count_letter
    send_one q = of_state _ λ s rest h. λ e stands.
        let (x, says) = send_by_kind e.kind (sym (holding _ f s rest h e stands) ∙ q) in
        sym (ap (λ (o : Option Letter). count_letter o 0) says)

    pub send_other : ¬ (k ≡ kind_send) → Here p i 0
    unfolding OfEntry count_letter
    send_other n = of_state _ λ s rest h. λ e stands.
        sym (ap (λ (o : Option Letter). count_letter o 0) (other_by_kind e.kind (λ q. n (holding _ f s rest h e stands ∙ q))))

  module _ (p i x : ℕ) (there-is : OfState l (IsEntry p i)) (f : Here p i x) where
    -- what is said of the entry that there is
    with_entry : (P : State → Type 0) → ((s : State) (rest : List ℕ) → Holds l s rest → (e : Entry) → entry_at (history_at s p) i ≡ some e → x ≡ count_letter (as_send e.kind) 0 → P s) → OfState l P
    unfolding OfEntry
    with_entry P g = of_state P λ s rest h.
        let (e, stands) = entry_exists (history_at s p) i (holding _ there-is s rest h) in
        g s rest h e stands (holding _ f s rest h e stands)

    pub here_low : IsImage l → x ≤ 1
    unfolding OfEntry
    here_low im =
        let (e, stands) = entry_exists (history_at im.state p) i (at_image _ im there-is) in
        omega (arith, at_image _ im f e stands, count_one (as_send e.kind))

    pub left_more : (count left : ℕ) → OfState l (λ s. count ≡ left + sends (oldest i (history_at s p))) → x ≤ left → OfState l (λ s. count ≡ left - x + sends (oldest (i + 1) (history_at s p)))
    left_more count left c b = with_entry _ λ s rest h e stands here.
        let z = holding _ c s rest h in
        omega (arith, sends_next (history_at s p) i stands)

    pub found_here : (count left : ℕ) → OfState l (λ s. count ≡ left + sends (oldest i (history_at s p))) → left < x → OfState l (λ s. SendFound (history_at s p) count (Some i))
    unfolding SendFound
    found_here count left c b = with_entry _ λ s rest h e stands here.
        let (y, says) = count_letter_lem (as_send e.kind) (omega arith) in
        let z = holding _ c s rest h in
        let same : sends (oldest i (history_at s p)) ≡ count = omega (arith, count_one (as_send e.kind)) in
        (e, y, stands, says, ap (sent (history_at s p)) (sym same) ∙ sent_there (history_at s p) i stands says)

    pub here_send : ¬ (x ≡ 0) → OfState l (IsSend p i)
    here_send n = with_entry _ λ s rest h e stands here.
        let (y, says) = count_letter_lem (as_send e.kind) (omega arith) in
        send_of s e y stands says
      where
        send_of : (s : State) (e : Entry) (y : Letter) → entry_at (history_at s p) i ≡ some e → as_send e.kind ≡ some y → IsSend p i s
        send_of s e (letter target value) stands says = record { entry = e; target = target; value = value; stands = stands; is_send = says }

  -- ---- the start and the end of a count

  pub left_start : (p count : ℕ) → OfState l (λ s. count ≡ count + sends (oldest 0 (history_at s p)))
  left_start p count = of_state _ λ s rest h. omega (arith, sends_none (history_at s p))

  pub found_none : (p count left i end : ℕ) → Ends p end → OfState l (λ s. count ≡ left + sends (oldest i (history_at s p))) → i ≤ end → end ≤ i → OfState l (λ s. SendFound (history_at s p) count None)
  unfolding SendFound
  found_none p count left i end m c b b' = of_state _ λ s rest h.
      let whole : i ≡ length (history_at s p) = omega (arith, holding _ m s rest h) in
      let z : count ≡ left + sends (history_at s p) = holding _ c s rest h ∙ ap (λ (x : List Entry). left + sends x) (ap (λ (k : ℕ). oldest k (history_at s p)) whole ∙ oldest_all (history_at s p)) in
      not_sent (history_at s p) count (omega arith)

-- ---- a name among names

pub contains_name : (name : ℕ) (names : List ℕ) → list_any (λ y. nat_eq y name) names ≡ member name names
unfolding member
contains_name name [] = refl
contains_name name (x ∷ xs) = λ i. nat_eq_equiv.symm x name i || contains_name name xs i

-- ---- what recs took

or_none : (b : Bool) → (b || false) ≡ b
or_none true = refl
or_none false = refl

any_of : (test : Message → Bool) {m : Message} (ms : List Message) → Any (Is m) ms → test m ≡ true → any test ms ≡ true
unfolding any
any_of test [] a t = elim a [ ]
any_of test (x ∷ ms) (here e) t = or_left (any test ms) (ap test e ∙ t)
any_of test (x ∷ ms) (there a) t = or_right (test x) (any_of test ms a t)

-- the test of a name's word
abbrev pub by_name : ℕ → Message → Bool
by_name name = is_named (sender_of name) (count_of name)

took_parts : (test : Message → Bool) (o : Option Taking) (older : List Message) → any test (also_taken o older) ≡ (any test (also_taken o []) || any test older)
unfolding any also_taken
took_parts test none older = refl
took_parts test (some (taking a m b)) older = ap (λ (t : Bool). t || any test older) (sym (or_none (test m)))

took_one : (test : Message → Bool) (o : Option Taking) → any test (also_taken o []) ≡ true → (a : List Message) × (m : Message) × (b : List Message) × (o ≡ some (taking a m b)) × (test m ≡ true)
unfolding any also_taken
took_one test none e = true_not_false e refl
took_one test (some (taking a m b)) e = (a, m, b, refl, sym (or_none (test m)) ∙ e)

same_test : (x w : ℕ) → eqb x w ≡ eqb w x
same_test x w = elim (ℕ_discrete x w) [
  | yes e ↦ eqb_of x w e ∙ sym (eqb_of w x (sym e))
  | no n ↦ eqb_apart x w n ∙ sym (eqb_apart w x (λ e. n (sym e)))
]

module _ (l : List ℕ) (t i : ℕ) where
  -- whether entry i took the message of that name
  abbrev pub Took : ℕ → Bool → Type 0
  Took name r = OfState l (OfEntry t i (λ e. r ≡ any (by_name name) (also_taken (as_rec e.kind) [])))

  module _ (k n : ℕ) (names : List ℕ) (f : OfState l (OfEntry t i (λ e. k ≡ kind_number e.kind))) where
    pub took_not : (name : ℕ) → ¬ (k ≡ kind_rec) → Took name false
    unfolding OfEntry any also_taken
    took_not name d = of_state _ λ s rest h. λ e stands.
        sym (ap (λ (o : Option Taking). any (by_name name) (also_taken o [])) (none_by_kind e.kind (λ q. d (holding _ f s rest h e stands ∙ q))))

    module _ (is_rec : k ≡ kind_rec) (fn : OfState l (OfEntry t i (λ e. n ≡ number_in e.kind))) (fq : OfState l (OfEntry t i (λ e. names ≡ map name_word (queue_before (as_rec e.kind))))) where
      pub took_in : IsImage l → OfState l (IsEntry t i) → n < length names
      unfolding OfEntry number_in as_rec queue_before
      took_in im there-is =
          let (e, stands) = entry_exists (history_at im.state t) i (at_image _ im there-is) in
          let (a, m, b, q) = rec_by_kind e.kind (sym (at_image _ im f e stands) ∙ is_rec) in
          let at : n ≡ length a = at_image _ im fn e stands ∙ ap number_in q in
          let row : names ≡ map name_word (a ++ (m ∷ b)) = at_image _ im fq e stands ∙ ap (λ kind. map name_word (queue_before (as_rec kind))) q in
          omega (arith, ap length row, length-map (a ++ (m ∷ b)) name_word, length-append a (m ∷ b))

      pub took_out : (name : ℕ) → Took name (eqb (get_or names n 0) name)
      unfolding OfEntry number_in as_rec queue_before any also_taken
      took_out name = of_state _ λ s rest h. λ e stands.
          let (a, m, b, q) = rec_by_kind e.kind (sym (holding _ f s rest h e stands) ∙ is_rec) in
          let at : n ≡ length a = holding _ fn s rest h e stands ∙ ap number_in q in
          let row : names ≡ map name_word (a ++ (m ∷ b)) = holding _ fq s rest h e stands ∙ ap (λ kind. map name_word (queue_before (as_rec kind))) q in
          let small = all_at Small (taken (history_at s t)) (taken_small s h.sound t) (took_this (history_at s t) i stands (ap as_rec q)) in
          ap (λ (w : ℕ). eqb w name) ((λ j. get_or (row j) (at j) 0) ∙ name_middle a m b)
          ∙ same_test (name_word m) name
          ∙ named_test name m small
          ∙ sym (or_none (by_name name m))
          ∙ sym (ap (λ kind. any (by_name name) (also_taken (as_rec kind) [])) q)

  module _ (name : ℕ) (r : Bool) (there-is : OfState l (IsEntry t i)) (f : Took name r) where
    pub received_here : r ≡ true → OfState l (λ s. true ≡ any (by_name name) (taken (history_at s t)))
    unfolding OfEntry
    received_here passed = of_state _ λ s rest h.
        let (e, stands) = entry_exists (history_at s t) i (holding _ there-is s rest h) in
        let (a, m, b, q, passes) = took_one (by_name name) (as_rec e.kind) (sym (holding _ f s rest h e stands) ∙ passed) in
        sym (any_of (by_name name) (taken (history_at s t)) (took_this (history_at s t) i stands q) passes)

    pub received_next : r ≡ false → OfState l (λ s. any (by_name name) (taken (oldest i (history_at s t))) ≡ false) → OfState l (λ s. any (by_name name) (taken (oldest (i + 1) (history_at s t))) ≡ false)
    unfolding OfEntry taken
    received_next failed older = of_state _ λ s rest h.
        let (e, stands) = entry_exists (history_at s t) i (holding _ there-is s rest h) in
        ap (λ (x : List Entry). any (by_name name) (taken x)) (parted (history_at s t) i stands).before
        ∙ took_parts (by_name name) (as_rec e.kind) (taken (oldest i (history_at s t)))
        ∙ or_false (sym (holding _ f s rest h e stands) ∙ failed) (holding _ older s rest h)

module _ (l : List ℕ) (t name : ℕ) where
  pub received_start : OfState l (λ s. any (by_name name) (taken (oldest 0 (history_at s t))) ≡ false)
  received_start = of_state _ λ s rest h. took_nothing (by_name name) (history_at s t)

  pub received_none : (i end : ℕ) → Ends l t end → OfState l (λ s. any (by_name name) (taken (oldest i (history_at s t))) ≡ false) → i ≤ end → end ≤ i → OfState l (λ s. false ≡ any (by_name name) (taken (history_at s t)))
  received_none i end m f b b' = of_state _ λ s rest h.
      let whole : i ≡ length (history_at s t) = omega (arith, holding _ m s rest h) in
      sym (holding _ f s rest h) ∙ ap (λ (x : List Entry). any (by_name name) (taken x)) (ap (λ (k : ℕ). oldest k (history_at s t)) whole ∙ oldest_all (history_at s t))

  -- ---- whether a message has come

  module _ (q : List ℕ) (r : Bool) (fq : OfState l (λ s. q ≡ map name_word (s.queues t))) (fr : r ≡ member name q) where
    in_queue : (s : State) (rest : List ℕ) → Holds l s rest → r ≡ any (by_name name) (s.queues t)
    in_queue s rest h = fr ∙ ap (member name) (holding _ fq s rest h) ∙ member_named name (s.queues t) (queue_small s h.sound t)

    pub come_queue : r ≡ true → OfState l (λ s. r ≡ has_come s (sender_of name) (count_of name) t)
    unfolding has_come
    come_queue e = of_state _ λ s rest h. e ∙ sym (or_left (any (by_name name) (taken (history_at s t))) (sym (in_queue s rest h) ∙ e))

    pub come_taken : r ≡ false → (x : Bool) → OfState l (λ s. x ≡ any (by_name name) (taken (history_at s t))) → OfState l (λ s. x ≡ has_come s (sender_of name) (count_of name) t)
    unfolding has_come
    come_taken e x f = of_state _ λ s rest h. holding _ f s rest h ∙ ap (λ (y : Bool). y || any (by_name name) (taken (history_at s t))) (sym e ∙ in_queue s rest h)

-- ---- the send that was found

letter_at : (s : State) (p k i : ℕ) (e : Entry) (x : Letter) → entry_at (history_at s p) i ≡ some e → as_send e.kind ≡ some x → sent (history_at s p) k ≡ some x → SendAt p k i s
letter_at s p k i e (letter target value) a b d = record { entry = e; target = target; value = value; stands = a; is_send = b; is_kth = d }

pub found_at : (s : State) (p k i : ℕ) → SendFound (history_at s p) k (Some i) → SendAt p k i s
unfolding SendFound
found_at s p k i x = letter_at s p k i x.0 x.1 x.2 x.3 x.4
