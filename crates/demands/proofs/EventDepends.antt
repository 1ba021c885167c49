-- "Depends at once" clause by clause: what each clause of 01's list needs, and that it has not changed in an earlier state.
use Prim.Native.Nat.{ℕ, zero, suc, ◌<◌}
use mathlib.Core.Path.{◌≡◌, refl, sym, ◌∙◌, ap, subst, subst₂}
use mathlib.Core.Bool.{true, false, not, ◌&&◌, ◌||◌}
use mathlib.Core.Option.{Option, none, some}
use mathlib.Core.List.{List, [], ◌∷◌, ◌++◌}
use native.Mathlib.Decide.{ℕ_discrete}
use native.Mathlib.Omega.{arith}
use lib.Dec.{eqb, ltb}
use lib.ListN.{length, length-append, get_elem?}
use Rattle.lists.proofs.Tests.{true_not_false, none_not_some, some_injective, eqb-true, eqb_same, eqb_of, eqb_apart, and_of, or_left, or_right, cond_false}
use Rattle.rules.specs.State.{Message, Letter, taking, as_send, as_rec, as_spawn, Entry, State, history_at, entry_at, is_named}
use Rattle.rules.specs.Flight.{sends, taken}
use Rattle.rules.specs.Depends.{queue_before, arrivals, Series, entries_of, deliveries_to, level, is_spawn_of, in_queue_before, older_than, lacks, made_before, is_send_of, listed, depends_at_once, event}
use Rattle.rules.specs.Standing.{Suffix, whole, older, Stands, Arrives}
use Rattle.demands.proofs.Messages.{Any, Named, is_named_lem, named_is}
use Rattle.demands.proofs.Histories.{suffix_length, suffix_entry, entry_suffix}
use Rattle.demands.proofs.Event.{Under, low, suffix_trans}
use Rattle.demands.proofs.Arrival.{among_of, not_among}
use Rattle.demands.proofs.Cut.{depends_from, depends_on, depends_listed, depends_of, Closed}

-- ---- by number
older_here : (e : Entry) (h : List Entry) (j : ℕ) → length h ≡ j → older_than j (e ∷ h) ≡ h
unfolding older_than
older_here e h j i = rw (eqb_of (length h) j i, older_than) refl

older_past : (e : Entry) (h : List Entry) (j : ℕ) → ¬ (length h ≡ j) → older_than j (e ∷ h) ≡ older_than j h
unfolding older_than
older_past e h j n = rw (eqb_apart (length h) j n, older_than) refl

pub suffix_older : {e : Entry} {g h : List Entry} → Suffix (e ∷ g) h → older_than (length g) h ≡ g
suffix_older {e} {g} whole = older_here e g (length g) refl
suffix_older {e} {g} (older {e = f} {h} s) = older_past f h (length g) (λ i. let z = suffix_length s in omega arith) ∙ suffix_older s

elem_at : (a : List Message) (m : Message) (b : List Message) → get_elem? (a ++ (m ∷ b)) (length a) ≡ some m
elem_at [] m b = refl
elem_at (x ∷ a) m b = elem_at a m b

elem_place : (l : List Message) (j : ℕ) {m : Message} → get_elem? l j ≡ some m → (a : List Message) × (b : List Message) × (l ≡ a ++ (m ∷ b)) × (length a ≡ j)
elem_place [] j e = none_not_some e
elem_place (x ∷ l) zero e = ([], l, ap (λ z. z ∷ l) (some_injective e), refl)
elem_place (x ∷ l) (suc j) e = let (a, b, i, n) = elem_place l j e in (x ∷ a, b, ap (λ z. x ∷ z) i, ap suc n)

elem_low : (l : List Message) (j : ℕ) → j < length l → (m : Message) × (get_elem? l j ≡ some m)
elem_low [] j h = absurd (omega arith)
elem_low (x ∷ l) zero h = (x, refl)
elem_low (x ∷ l) (suc j) h = elem_low l j (omega arith)

module _ {s : State} where
  pub stands_entry : {p i : ℕ} {e : Entry} {g : List Entry} → Stands s p i e g → entry_at (history_at s p) i ≡ some e
  stands_entry {p} {i} {e} st = subst (λ i. entry_at (history_at s p) i ≡ some e) st.index (suffix_entry st.at)

  pub stands_older : {p i : ℕ} {e : Entry} {g : List Entry} → Stands s p i e g → older_than i (history_at s p) ≡ g
  stands_older {p} {g = g} st = subst (λ i. older_than i (history_at s p) ≡ g) st.index (suffix_older st.at)

  pub stands_low : {p i : ℕ} {e : Entry} {g : List Entry} → Stands s p i e g → i < level s (entries_of p)
  unfolding level
  stands_low st = let z = suffix_length st.at in omega (arith, st.index)

  pub arrives_elem : {q j : ℕ} {m : Message} → Arrives s q j m → get_elem? (arrivals s q) j ≡ some m
  arrives_elem {q} {j} {m} r = subst₂ (λ l j. get_elem? l j ≡ some m) (sym r.at) r.index (elem_at r.before m r.after)

  pub arrives_low : {q j : ℕ} {m : Message} → Arrives s q j m → j < level s (deliveries_to q)
  unfolding level
  arrives_low {m = m} r = omega (arith, ap length r.at, length-append r.before (m ∷ r.after), r.index)

pub entry_stands : (s : State) (p i : ℕ) {e : Entry} → entry_at (history_at s p) i ≡ some e → (g : List Entry) × Stands s p i e g
entry_stands s p i e = let (g, st, n) = entry_suffix (history_at s p) i e in (g, record { at = st; index = n })

pub elem_arrives : (s : State) (q j : ℕ) {m : Message} → get_elem? (arrivals s q) j ≡ some m → Arrives s q j m
elem_arrives s q j e = let (a, b, i, n) = elem_place (arrivals s q) j e in record { before = a; after = b; at = i; index = n }

pub arrival : (s : State) (q j : ℕ) → j < level s (deliveries_to q) → (m : Message) × Arrives s q j m
unfolding level
arrival s q j h = let (m, e) = elem_low (arrivals s q) j h in (m, elem_arrives s q j e)

pub entry_here : (s : State) (p i : ℕ) → i < level s (entries_of p) → (e : Entry) × (g : List Entry) × Stands s p i e g
unfolding level
entry_here s p i h = go (history_at s p) whole h
  where
    go : (f : List Entry) → Suffix f (history_at s p) → i < length f → (e : Entry) × (g : List Entry) × Stands s p i e g
    go [] st h = absurd (omega arith)
    go (e ∷ f) st h = elim (ℕ_discrete (length f) i) [ yes n ↦ (e, f, record { at = st; index = n }) | no n ↦ go f (suffix_trans (older whole) st) (omega arith) ]

-- ---- the clauses
abbrev pub Like : Message → Message → Type 0
Like m = Named m.sender m.count

spawn_is : {q : ℕ} (e : Entry) → as_spawn e.kind ≡ some q → is_spawn_of q (some e) ≡ true
unfolding is_spawn_of
spawn_is {q} e i = rw (i, is_spawn_of) (eqb_same q)

pub spawn_of : (q : ℕ) (e : Entry) → is_spawn_of q (some e) ≡ true → as_spawn e.kind ≡ some q
unfolding is_spawn_of
spawn_of q e i = go (as_spawn e.kind) refl
  where
    none_is : as_spawn e.kind ≡ none → is_spawn_of q (some e) ≡ false
    none_is j = rw (j, is_spawn_of) refl

    some_is : (c : ℕ) → as_spawn e.kind ≡ some c → is_spawn_of q (some e) ≡ eqb c q
    some_is c j = rw (j, is_spawn_of) refl

    go : (o : Option ℕ) → as_spawn e.kind ≡ o → as_spawn e.kind ≡ some q
    go none j = true_not_false i (none_is j)
    go (some c) j = j ∙ ap some (eqb-true c q (sym (some_is c j) ∙ i))

send_is : {l : Letter} {m : Message} (p : ℕ) (e : Entry) (g : List Entry) → as_send e.kind ≡ some l → Named p (sends g) m → is_send_of (some m) p (some e) g ≡ true
unfolding is_send_of
send_is p e g i n = rw (i, is_send_of) (named_is n)

pub send_of : {m : Message} (p : ℕ) (e : Entry) (g : List Entry) → is_send_of (some m) p (some e) g ≡ true → ((l : Letter) × (as_send e.kind ≡ some l)) × Named p (sends g) m
unfolding is_send_of
send_of {m} p e g i = go (as_send e.kind) refl
  where
    none_is : as_send e.kind ≡ none → is_send_of (some m) p (some e) g ≡ false
    none_is j = rw (j, is_send_of) refl

    some_is : (l : Letter) → as_send e.kind ≡ some l → is_send_of (some m) p (some e) g ≡ is_named p (sends g) m
    some_is l j = rw (j, is_send_of) refl

    go : (o : Option Letter) → as_send e.kind ≡ o → ((l : Letter) × (as_send e.kind ≡ some l)) × Named p (sends g) m
    go none j = true_not_false i (none_is j)
    go (some l) j = ((l, j), is_named_lem p (sends g) m (sym (some_is l j) ∙ i))

module _ {s : State} where
  -- "the spawn of the process it happens at"
  pub on_spawn_entry : {p q i j : ℕ} {e : Entry} {g : List Entry} → j < level s (entries_of q) → Stands s p i e g → as_spawn e.kind ≡ some q → depends_at_once s (event (entries_of q) j) (event (entries_of p) i) ≡ true
  unfolding listed
  on_spawn_entry {p} {q} {i} {j} {e} h st is = depends_of s (entries_of q) (entries_of p) h (stands_low st) (or_right (eqb q p && ltb i j) (rw (stands_entry st) (spawn_is e is)))

  pub on_spawn_delivery : {p q i j : ℕ} {e : Entry} {g : List Entry} → j < level s (deliveries_to q) → Stands s p i e g → as_spawn e.kind ≡ some q
      → depends_at_once s (event (deliveries_to q) j) (event (entries_of p) i) ≡ true
  unfolding listed
  on_spawn_delivery {p} {q} {i} {j} {e} h st is =
      depends_of s (deliveries_to q) (entries_of p) h (stands_low st)
      (or_right ((eqb p q && made_before (get_elem? (arrivals s q) j) (entry_at (history_at s p) i) (older_than i (history_at s p))) || is_send_of (get_elem? (arrivals s q) j) p (entry_at (history_at s p) i) (older_than i (history_at s p)))
      (rw (stands_entry st) (spawn_is e is)))

  -- "deliveries in its queue before, if a rec"
  pub on_queue : {p i j : ℕ} {e : Entry} {g : List Entry} {a d : List Message} {m n : Message} → Stands s p i e g → as_rec e.kind ≡ some (taking a m d) → Arrives s p j n
      → Any (Like n) (a ++ (m ∷ d)) → depends_at_once s (event (entries_of p) i) (event (deliveries_to p) j) ≡ true
  unfolding listed in_queue_before queue_before
  on_queue {p} {e = e} {a = a} {d} {m} {n} st is r x =
      depends_of s (entries_of p) (deliveries_to p) (stands_low st) (arrives_low r) (and_of (eqb_same p) (rw (arrives_elem r, stands_entry st, is) (among_of (a ++ (m ∷ d)) n x)))

  -- "a rec of that process made before the message arrived, if a delivery"
  pub on_since : {q i j : ℕ} {e : Entry} {g : List Entry} {a d : List Message} {m n : Message} → Arrives s q j n → Stands s q i e g → as_rec e.kind ≡ some (taking a m d)
      → ¬ Any (Like n) (a ++ (m ∷ d)) → ¬ Any (Like n) (taken g) → depends_at_once s (event (deliveries_to q) j) (event (entries_of q) i) ≡ true
  unfolding listed made_before lacks queue_before
  on_since {q} {i} {j} {e} {g} {a} {d} {m} {n} r st is x y =
      depends_of s (deliveries_to q) (entries_of q) (arrives_low r) (stands_low st)
      (or_left (is_spawn_of q (entry_at (history_at s q) i)) (or_left (is_send_of (get_elem? (arrivals s q) j) q (entry_at (history_at s q) i) (older_than i (history_at s q)))
      (and_of (eqb_same q) (rw (arrives_elem r, stands_entry st, stands_older st, is) (and_of (ap not (not_among (a ++ (m ∷ d)) n x)) (ap not (not_among (taken g) n y)))))))

  -- "the send of the message it delivers"
  pub on_send : {q i j : ℕ} {e : Entry} {g : List Entry} {l : Letter} {n : Message} → Arrives s q j n → Stands s n.sender i e g → as_send e.kind ≡ some l → sends g ≡ n.count
      → depends_at_once s (event (deliveries_to q) j) (event (entries_of n.sender) i) ≡ true
  unfolding listed
  on_send {q} {i} {j} {e} {g} {l} {n} r st is c =
      depends_of s (deliveries_to q) (entries_of n.sender) (arrives_low r) (stands_low st)
      (or_left (is_spawn_of q (entry_at (history_at s n.sender) i))
      (or_right (eqb n.sender q && made_before (get_elem? (arrivals s q) j) (entry_at (history_at s n.sender) i) (older_than i (history_at s n.sender)))
      (rw (arrives_elem r, stands_entry st, stands_older st) (send_is n.sender e g is (record { sender = refl; count = sym c })))))

-- ---- in a state under another the same events depend on the same
entry_under : {f h : List Entry} (j : ℕ) → Suffix f h → j < length f → entry_at h j ≡ entry_at f j
unfolding entry_at
entry_under j whole g = refl
entry_under {f} j (older {e} {h} s) g = cond_false (some e) (entry_at h j) (eqb_apart (length h) j (λ i. let z = suffix_length s in omega arith)) ∙ entry_under j s g

older_under : {f h : List Entry} (j : ℕ) → Suffix f h → j < length f → older_than j h ≡ older_than j f
older_under j whole g = refl
older_under j (older {e} {h} s) g = older_past e h j (λ i. let z = suffix_length s in omega arith) ∙ older_under j s g

elem_under : (a b : List Message) (j : ℕ) → j < length a → get_elem? (a ++ b) j ≡ get_elem? a j
elem_under [] b j g = absurd (omega arith)
elem_under (x ∷ a) b zero g = refl
elem_under (x ∷ a) b (suc j) g = elem_under a b j (omega arith)

module _ {t s : State} (under : Under t s) where
  arrival_under : (q j : ℕ) → j < level t (deliveries_to q) → get_elem? (arrivals s q) j ≡ get_elem? (arrivals t q) j
  unfolding level
  arrival_under q j h = ap (λ l. get_elem? l j) (under.firsts q).1 ∙ elem_under (arrivals t q) (under.firsts q).0 j h

  listed_under : (x y : Series) (i j : ℕ) → i < level t x → j < level t y → listed s (event x i) (event y j) ≡ listed t (event x i) (event y j)
  unfolding listed level
  listed_under (entries_of p) (entries_of q) i j h g = ap (λ e. (eqb p q && ltb j i) || is_spawn_of p e) (entry_under j (under.suffixes q) g)
  listed_under (entries_of p) (deliveries_to q) i j h g =
      ap (λ m. eqb p q && in_queue_before m (entry_at (history_at s p) i)) (arrival_under q j g) ∙ ap (λ e. eqb p q && in_queue_before (get_elem? (arrivals t q) j) e) (entry_under i (under.suffixes p) h)
  listed_under (deliveries_to q) (entries_of p) i j h g =
      ap (λ m. (eqb p q && made_before m (entry_at (history_at s p) j) (older_than j (history_at s p))) || is_send_of m p (entry_at (history_at s p) j) (older_than j (history_at s p)) || is_spawn_of q (entry_at (history_at s p) j)) (arrival_under q i h)
      ∙ ap (λ e. (eqb p q && made_before (get_elem? (arrivals t q) i) e (older_than j (history_at s p))) || is_send_of (get_elem? (arrivals t q) i) p e (older_than j (history_at s p)) || is_spawn_of q e) (entry_under j (under.suffixes p) g)
      ∙ ap (λ o. (eqb p q && made_before (get_elem? (arrivals t q) i) (entry_at (history_at t p) j) o) || is_send_of (get_elem? (arrivals t q) i) p (entry_at (history_at t p) j) o || is_spawn_of q (entry_at (history_at t p) j)) (older_under j (under.suffixes p) g)
  listed_under (deliveries_to q) (deliveries_to r) i j h g = refl

  pub depends_under : (x y : Series) (i j : ℕ) → depends_at_once t (event x i) (event y j) ≡ true → depends_at_once s (event x i) (event y j) ≡ true
  depends_under x y i j e =
      let h = depends_from t x y i j e in
      let g = depends_on t x y i j e in
      depends_of s x y (omega (arith, h, low under x)) (omega (arith, g, low under y)) (listed_under x y i j h g ∙ depends_listed t x y i j e)

  pub closed_under : {k : Series → ℕ} → Closed s k → Closed t k
  closed_under c = record { keeps = λ x y i j e h. c.keeps x y i j (depends_under x y i j e) h }
