-- 01's list of what depends on what, in numbers for each process: a rec and the arrivals that it has seen, a send and its arrival, a spawn
-- and its child. A cut keeps these exactly where it keeps what its events depend on at once.
use Prim.Native.Nat.{ℕ, ◌<◌, ◌≤◌, ◌+◌}
use mathlib.Core.Path.{◌≡◌, refl, sym, ◌∙◌, ap, subst, subst₂}
use mathlib.Core.Logic.{◌⊎◌, inl, inr}
use mathlib.Core.Bool.{true, not, ◌&&◌, ◌||◌}
use mathlib.Core.Option.{Option, none, some}
use mathlib.Core.List.{List, [], ◌∷◌, ◌++◌, append_assoc, append-nil}
use native.Mathlib.Decide.{dec_lt}
use native.Mathlib.Omega.{arith}
use lib.Dec.{eqb, ltb}
use lib.ListN.{length, length-append, drop, get_elem?}
use Rattle.lists.proofs.Tests.{true_not_false, eqb-true, ltb-true, and_left, and_right, or_true, not_true}
use Rattle.rules.specs.State.{Message, Letter, letter, Taking, taking, as_send, as_rec, as_spawn, Entry, State, history_at, entry_at}
use Rattle.rules.specs.Flight.{sends, sent, taken, left_or, left}
use Rattle.rules.specs.Sound.{SentTo, Prefix, Flows, Sound}
use Rattle.rules.specs.Depends.{queue_before, is_among, arrivals, Series, entries_of, deliveries_to, level, is_spawn_of, in_queue_before, older_than, lacks, made_before, is_send_of, listed, depends_at_once, event, Event}
use Rattle.rules.specs.Standing.{Suffix, whole, older, Stands, Arrives, shown_or, shown, come, seen}
use Rattle.rules.specs.Rollback.{Cut}
use Rattle.demands.proofs.Messages.{Any, here, there, Is, any_append, any_left, any_right, any_middle, any_none, any_map, Named, Once, once_of}
use Rattle.demands.proofs.Histories.{suffix_length, suffix_tail, suffix_sent}
use Rattle.demands.proofs.SoundFacts.{mail}
use Rattle.demands.proofs.Arrival.{come_more, nil_flows, flows_none, flows_rec, none_flows, rec_flows, taken_none, taken_rec, taken_nil, once_come, length_come, any_come, among, among_of, once_apart}
use Rattle.demands.proofs.Event.{suffix_trans, arrivals_at}
use Rattle.demands.proofs.EventDepends.{Like, stands_older, stands_low, entry_stands, elem_arrives, arrival, on_spawn_entry, on_spawn_delivery, on_queue, on_since, on_send, spawn_of, send_of}
use Rattle.demands.proofs.Cut.{Upward, Within, Closed, upto, depends_listed, Off}

-- ---- the arrivals that a rec has seen
-- at a rec, the queue before it flows from the older ones
pub flows_at : {e : Entry} {g h : List Entry} {a d : List Message} {m : Message} (queue : List Message) → Suffix (e ∷ g) h → as_rec e.kind ≡ some (taking a m d) → Flows h queue → Flows g (a ++ (m ∷ d))
flows_at {e} {g} queue whole is f = (flows_rec e g queue is f).1
flows_at {e} {g} {a = a} {d} {m} queue (older {e = x} {h} st) is f = go (as_rec x.kind) refl (λ q. flows_at q st is)
  where
    go : (o : Option Taking) → as_rec x.kind ≡ o → ((q : List Message) → Flows h q → Flows g (a ++ (m ∷ d))) → Flows g (a ++ (m ∷ d))
    go none i r = r queue (flows_none x h queue i f)
    go (some (taking b n c)) i r = r (b ++ (n ∷ c)) (flows_rec x h queue i f).1

-- what a part of a history shows comes first
shown_more : (e : Entry) (h : List Entry) → (y : List Message) × (shown (e ∷ h) ≡ shown h ++ y)
unfolding shown shown_or
shown_more e h = go (as_rec e.kind)
  where
    go : (o : Option Taking) → (y : List Message) × (shown_or o (left h) (shown h) ≡ shown h ++ y)
    go none = ([], sym (append-nil (shown h)))
    go (some (taking a m d)) = (drop (length (left h)) (a ++ (m ∷ d)), refl)

shown_first : {g h : List Entry} → Suffix g h → (y : List Message) × (shown h ≡ shown g ++ y)
shown_first whole = ([], sym (append-nil _))
shown_first {g} (older {e} {h} st) =
    let (y, i) = shown_first st in
    let (z, j) = shown_more e h in
    (y ++ z, j ∙ ap (λ w. w ++ z) i ∙ append_assoc (shown g) y z)

shown_rec : (e : Entry) (g : List Entry) {a d : List Message} {m : Message} → as_rec e.kind ≡ some (taking a m d) → shown (e ∷ g) ≡ shown g ++ drop (length (left g)) (a ++ (m ∷ d))
unfolding shown shown_or
shown_rec e g i = rw i refl

pub seen_first : {e : Entry} {g h : List Entry} {a d : List Message} {m : Message} (queue : List Message) → Suffix (e ∷ g) h → as_rec e.kind ≡ some (taking a m d)
    → (y : List Message) × (come h queue ≡ come g (a ++ (m ∷ d)) ++ y)
unfolding come
seen_first {e} {g} {h} {a} {d} {m} queue st is =
    let (y, i) = shown_first st in
    (y ++ drop (length (left h)) queue, ap (λ z. z ++ drop (length (left h)) queue) (i ∙ ap (λ z. z ++ y) (shown_rec e g is)) ∙ append_assoc (shown g ++ drop (length (left g)) (a ++ (m ∷ d))) y _)

-- ---- places in a list
is_left : (x s : List Message) (n : Message) (z y : List Message) → x ++ (n ∷ z) ≡ s ++ y → length x < length s → Any (Is n) s
is_left [] [] n z y e h = absurd (omega arith)
is_left [] (v ∷ s) n z y e h = let i : v ≡ n = cc in here i
is_left (u ∷ x) [] n z y e h = absurd (omega arith)
is_left (u ∷ x) (v ∷ s) n z y e h = let i : x ++ (n ∷ z) ≡ s ++ y = cc in there (is_left x s n z y i (omega arith))

is_right : (x s : List Message) (n : Message) (z y : List Message) → x ++ (n ∷ z) ≡ s ++ y → length s ≤ length x → Any (Is n) y
is_right x [] n z y e h = subst (Any (Is n)) e (any_middle x n z refl)
is_right [] (v ∷ s) n z y e h = absurd (omega arith)
is_right (u ∷ x) (v ∷ s) n z y e h = let i : x ++ (n ∷ z) ≡ s ++ y = cc in is_right x s n z y i (omega arith)

-- ---- a rec sees just the arrivals below its number
module _ {s : State} (sound : Sound s) {q i : ℕ} {e : Entry} {g : List Entry} {a d : List Message} {m : Message} (st : Stands s q i e g) (is : as_rec e.kind ≡ some (taking a m d)) where
  before_flows : Flows g (a ++ (m ∷ d))
  before_flows = flows_at (s.queues q) st.at is (sound.prefixes q)

  split : (y : List Message) × (arrivals s q ≡ come g (a ++ (m ∷ d)) ++ y)
  split = let (y, j) = seen_first (s.queues q) st.at is in (y, arrivals_at sound q ∙ j)

  pub seen_low : seen a m d g ≤ level s (deliveries_to q)
  unfolding level
  seen_low = omega (arith, ap length split.1, length-append (come g (a ++ (m ∷ d))) split.0)

  -- the number: the length of its queue before, and the recs before it
  pub seen_is : seen a m d g ≡ length (a ++ (m ∷ d)) + length (taken g)
  seen_is = length_come g (a ++ (m ∷ d)) before_flows

  module _ {j : ℕ} {n : Message} (r : Arrives s q j n) where
    pub sees : j < seen a m d g → Any (Like n) ((a ++ (m ∷ d)) ++ taken g)
    sees h = (any_come g (a ++ (m ∷ d)) before_flows).0
        (any_map (λ k i. record { sender = ap (λ z. z.sender) i; count = ap (λ z. z.count) i })
        (is_left r.before (come g (a ++ (m ∷ d))) n r.after split.0 (sym r.at ∙ split.1) (omega (arith, r.index, h))))

    pub saw : Any (Like n) ((a ++ (m ∷ d)) ++ taken g) → j < seen a m d g
    saw x = elim (dec_lt j (seen a m d g)) [
      | yes h ↦ h
      | no h ↦ absurd (once_apart (come g (a ++ (m ∷ d))) n
          (subst Once (sym (arrivals_at sound q) ∙ split.1) (once_come (history_at s q) (s.queues q) (sound.prefixes q) (once_of (s.queues q ++ taken (history_at s q)) (sound.once q))))
          ((any_come g (a ++ (m ∷ d)) before_flows).1 x)
          (is_right r.before (come g (a ++ (m ∷ d))) n r.after split.0 (sym r.at ∙ split.1) (omega (arith, r.index, h))))
    ]

-- what was taken has its rec
pub record TakenBy (P : Message → Type 0) (g : List Entry) : Type 0 where
  pub entry : Entry
  pub before : List Entry
  pub a : List Message
  pub message : Message
  pub d : List Message
  pub stands : Suffix (entry ∷ before) g
  pub is : as_rec entry.kind ≡ some (taking a message d)
  pub good : P message

taken_by : {P : Message → Type 0} (g : List Entry) → Any P (taken g) → TakenBy P g
taken_by [] x = absurd (any_none x taken_nil)
taken_by {P} (e ∷ g) x = go (as_rec e.kind) refl (taken_by g)
  where
    more : TakenBy P g → TakenBy P (e ∷ g)
    more t = record { entry = t.entry; before = t.before; a = t.a; message = t.message; d = t.d; stands = older t.stands; is = t.is; good = t.good }

    one : {m : Message} {l : List Message} → Any P (m ∷ l) → P m ⊎ Any P l
    one (here p) = inl p
    one (there y) = inr y

    go : (o : Option Taking) → as_rec e.kind ≡ o → (Any P (taken g) → TakenBy P g) → TakenBy P (e ∷ g)
    go none i f = more (f (subst (Any P) (taken_none e g i) x))
    go (some (taking a m d)) i f = elim (one (subst (Any P) (taken_rec e g i) x)) [
      | inl p ↦ record { entry = e; before = g; a = a; message = m; d = d; stands = whole; is = i; good = p }
      | inr y ↦ more (f y)
    ]

-- ---- what depends at once says which clause it is
pub data On (s : State) : Series → ℕ → Series → ℕ → Type 0 where
  later : {x : Series} {i j : ℕ} → j < i → On s x i x j
  of_spawn_entry : {p q i j : ℕ} {e : Entry} {g : List Entry} → Stands s p j e g → as_spawn e.kind ≡ some q → On s (entries_of q) i (entries_of p) j
  of_spawn_delivery : {p q i j : ℕ} {e : Entry} {g : List Entry} → Stands s p j e g → as_spawn e.kind ≡ some q → On s (deliveries_to q) i (entries_of p) j
  of_queue : {p i j : ℕ} {e : Entry} {g : List Entry} {a d : List Message} {m n : Message} → Stands s p i e g → as_rec e.kind ≡ some (taking a m d) → Arrives s p j n
      → Any (Like n) (a ++ (m ∷ d)) → On s (entries_of p) i (deliveries_to p) j
  of_since : {q i j : ℕ} {e : Entry} {g : List Entry} {a d : List Message} {m n : Message} → Arrives s q i n → Stands s q j e g → as_rec e.kind ≡ some (taking a m d)
      → ¬ Any (Like n) (a ++ (m ∷ d)) → ¬ Any (Like n) (taken g) → On s (deliveries_to q) i (entries_of q) j
  of_send : {p q i j : ℕ} {e : Entry} {g : List Entry} {n : Message} {l : Letter} → Arrives s q i n → Stands s p j e g → as_send e.kind ≡ some l → Named p (sends g) n
      → On s (deliveries_to q) i (entries_of p) j

queue_none : (m : Message) → is_among (queue_before none) m ≡ true → is_among [] m ≡ true
unfolding queue_before
queue_none m t = t

queue_some : (a : List Message) (n : Message) (d : List Message) (m : Message) → is_among (queue_before (some (taking a n d))) m ≡ true → is_among (a ++ (n ∷ d)) m ≡ true
unfolding queue_before
queue_some a n d m t = t

module _ (s : State) where
  -- an entry of which a test says yes
  spawn_stands : (p j q : ℕ) → is_spawn_of q (entry_at (history_at s p) j) ≡ true → (e : Entry) × (g : List Entry) × Stands s p j e g × (as_spawn e.kind ≡ some q)
  unfolding is_spawn_of
  spawn_stands p j q t = go (entry_at (history_at s p) j) refl t
    where
      go : (o : Option Entry) → entry_at (history_at s p) j ≡ o → is_spawn_of q o ≡ true → (e : Entry) × (g : List Entry) × Stands s p j e g × (as_spawn e.kind ≡ some q)
      go none i t = true_not_false t refl
      go (some e) i t = let (g, st) = entry_stands s p j i in (e, g, st, spawn_of q e t)

  queue_on : (p i j : ℕ) → in_queue_before (get_elem? (arrivals s p) j) (entry_at (history_at s p) i) ≡ true → On s (entries_of p) i (deliveries_to p) j
  unfolding in_queue_before
  queue_on p i j t = go (get_elem? (arrivals s p) j) (entry_at (history_at s p) i) refl refl t
    where
      taking_of : (e : Entry) (g : List Entry) (m : Message) → Stands s p i e g → Arrives s p j m → (o : Option Taking) → as_rec e.kind ≡ o → is_among (queue_before o) m ≡ true → On s (entries_of p) i (deliveries_to p) j
      taking_of e g m st r none is t = absurd (any_none (among [] m (queue_none m t)) refl)
      taking_of e g m st r (some (taking a n d)) is t = of_queue st is r (among (a ++ (n ∷ d)) m (queue_some a n d m t))

      go : (o : Option Message) (u : Option Entry) → get_elem? (arrivals s p) j ≡ o → entry_at (history_at s p) i ≡ u → in_queue_before o u ≡ true → On s (entries_of p) i (deliveries_to p) j
      go none u a b t = true_not_false t refl
      go (some m) none a b t = true_not_false t refl
      go (some m) (some e) a b t = let (g, st) = entry_stands s p i b in taking_of e g m st (elem_arrives s p j a) (as_rec e.kind) refl t

  since_on : (q i j : ℕ) → made_before (get_elem? (arrivals s q) i) (entry_at (history_at s q) j) (older_than j (history_at s q)) ≡ true → On s (deliveries_to q) i (entries_of q) j
  unfolding made_before lacks queue_before
  since_on q i j t = go (get_elem? (arrivals s q) i) (entry_at (history_at s q) j) refl refl t
    where
      taking_of : (e : Entry) (g : List Entry) (m : Message) → Stands s q j e g → Arrives s q i m → (o : Option Taking) → as_rec e.kind ≡ o → lacks m o g ≡ true → On s (deliveries_to q) i (entries_of q) j
      taking_of e g m st r none is t = true_not_false t refl
      taking_of e g m st r (some (taking a n d)) is t =
          of_since r st is
          (λ x. true_not_false (among_of (a ++ (n ∷ d)) m x) (not_true (is_among (a ++ (n ∷ d)) m) (and_left (not (is_among (a ++ (n ∷ d)) m)) (not (is_among (taken g) m)) t)))
          (λ x. true_not_false (among_of (taken g) m x) (not_true (is_among (taken g) m) (and_right (not (is_among (a ++ (n ∷ d)) m)) (not (is_among (taken g) m)) t)))

      go : (o : Option Message) (u : Option Entry) → get_elem? (arrivals s q) i ≡ o → entry_at (history_at s q) j ≡ u → made_before o u (older_than j (history_at s q)) ≡ true → On s (deliveries_to q) i (entries_of q) j
      go none u a b t = true_not_false t refl
      go (some m) none a b t = true_not_false t refl
      go (some m) (some e) a b t =
          let (g, st) = entry_stands s q j b in
          taking_of e g m st (elem_arrives s q i a) (as_rec e.kind) refl (subst (λ z. lacks m (as_rec e.kind) z ≡ true) (stands_older st) t)

  send_on : (p q i j : ℕ) → is_send_of (get_elem? (arrivals s q) i) p (entry_at (history_at s p) j) (older_than j (history_at s p)) ≡ true → On s (deliveries_to q) i (entries_of p) j
  unfolding is_send_of
  send_on p q i j t = go (get_elem? (arrivals s q) i) (entry_at (history_at s p) j) refl refl t
    where
      go : (o : Option Message) (u : Option Entry) → get_elem? (arrivals s q) i ≡ o → entry_at (history_at s p) j ≡ u → is_send_of o p u (older_than j (history_at s p)) ≡ true → On s (deliveries_to q) i (entries_of p) j
      go none u a b t = true_not_false t refl
      go (some m) none a b t = true_not_false t refl
      go (some m) (some e) a b t =
          let (g, st) = entry_stands s p j b in
          let ((l, is), n) = send_of p e g (subst (λ z. is_send_of (some m) p (some e) z ≡ true) (stands_older st) t) in
          of_send (elem_arrives s q i a) st is n

  pub on_of : (x y : Series) (i j : ℕ) → depends_at_once s (event x i) (event y j) ≡ true → On s x i y j
  unfolding listed
  on_of (entries_of p) (entries_of q) i j t = elim (or_true (eqb p q && ltb j i) (is_spawn_of p (entry_at (history_at s q) j)) (depends_listed s (entries_of p) (entries_of q) i j t)) [
    | inl u ↦ subst (λ z. On s (entries_of p) i (entries_of z) j) (eqb-true p q (and_left (eqb p q) (ltb j i) u)) (later (ltb-true j i (and_right (eqb p q) (ltb j i) u)))
    | inr u ↦ (let (e, g, st, is) = spawn_stands q j p u in of_spawn_entry st is)
  ]
  on_of (entries_of p) (deliveries_to q) i j t =
      let u = depends_listed s (entries_of p) (deliveries_to q) i j t in
      let same = eqb-true p q (and_left (eqb p q) (in_queue_before (get_elem? (arrivals s q) j) (entry_at (history_at s p) i)) u) in
      let v = and_right (eqb p q) (in_queue_before (get_elem? (arrivals s q) j) (entry_at (history_at s p) i)) u in
      subst (λ z. On s (entries_of p) i (deliveries_to z) j) same (queue_on p i j (subst (λ z. in_queue_before (get_elem? (arrivals s z) j) (entry_at (history_at s p) i) ≡ true) (sym same) v))
  on_of (deliveries_to q) (entries_of p) i j t =
      let made = eqb p q && made_before (get_elem? (arrivals s q) i) (entry_at (history_at s p) j) (older_than j (history_at s p)) in
      let sent_it = is_send_of (get_elem? (arrivals s q) i) p (entry_at (history_at s p) j) (older_than j (history_at s p)) in
      elim (or_true (made || sent_it) (is_spawn_of q (entry_at (history_at s p) j)) (depends_listed s (deliveries_to q) (entries_of p) i j t)) [
        | inr u ↦ (let (e, g, st, is) = spawn_stands p j q u in of_spawn_delivery st is)
        | inl w ↦ elim (or_true made sent_it w) [
          | inr u ↦ send_on p q i j u
          | inl u ↦ (
              let same = eqb-true p q (and_left (eqb p q) (made_before (get_elem? (arrivals s q) i) (entry_at (history_at s p) j) (older_than j (history_at s p))) u) in
              let v = and_right (eqb p q) (made_before (get_elem? (arrivals s q) i) (entry_at (history_at s p) j) (older_than j (history_at s p))) u in
              subst (λ z. On s (deliveries_to q) i (entries_of z) j) (sym same)
              (since_on q i j (subst (λ z. made_before (get_elem? (arrivals s q) i) (entry_at (history_at s z) j) (older_than j (history_at s z)) ≡ true) same v)))
        ]
      ]
  on_of (deliveries_to q) (deliveries_to r) i j t =
      let u = depends_listed s (deliveries_to q) (deliveries_to r) i j t in
      subst (λ z. On s (deliveries_to q) i (deliveries_to z) j) (eqb-true q r (and_left (eqb q r) (ltb j i) u)) (later (ltb-true j i (and_right (eqb q r) (ltb j i) u)))

-- ---- 01's list in numbers
pub record Good (s : State) (k : Cut) : Type 0 where
  -- a rec that stays has seen arrivals that stay; of one that goes all later arrivals go
  pub saw_all : {p i : ℕ} {e : Entry} {g : List Entry} {a d : List Message} {m : Message} → Stands s p i e g → as_rec e.kind ≡ some (taking a m d) → i < k (entries_of p) → seen a m d g ≤ k (deliveries_to p)
  pub saw_none : {p i : ℕ} {e : Entry} {g : List Entry} {a d : List Message} {m : Message} → Stands s p i e g → as_rec e.kind ≡ some (taking a m d) → k (entries_of p) ≤ i → k (deliveries_to p) ≤ seen a m d g
  -- the send of an arrival that stays stays
  pub mailed : {q i j : ℕ} {v : List ℕ} {e : Entry} {g : List Entry} {n : Message} → Arrives s q j n → Stands s n.sender i e g → as_send e.kind ≡ some (letter q v) → sends g ≡ n.count
      → j < k (deliveries_to q) → i < k (entries_of n.sender)
  -- nothing stays of the child whose spawn goes
  pub born : {p q i : ℕ} {e : Entry} {g : List Entry} → Stands s p i e g → as_spawn e.kind ≡ some q → k (entries_of p) ≤ i → (k (entries_of q) ≡ 0) × (k (deliveries_to q) ≡ 0)

or_else : {a b : ℕ} → (b ≤ a → ⊥) → a < b
or_else {a} {b} f = elim (dec_lt a b) [ yes h ↦ h | no h ↦ absurd (f (omega arith)) ]

letter_target : {a b : ℕ} {v w : List ℕ} → ◌≡◌ {A = Option Letter} (some (letter a v)) (some (letter b w)) → a ≡ b
letter_target e = cc

module _ {s : State} (sound : Sound s) where
  -- a message came to where it was sent
  pub sent_to : {p q t i j : ℕ} {v : List ℕ} {e : Entry} {g : List Entry} {n : Message} → Arrives s q j n → Stands s p i e g → as_send e.kind ≡ some (letter t v) → Named p (sends g) n → t ≡ q
  unfolding SentTo
  sent_to {p} {q} {g = g} {n} r st is name =
      let came = any_append (s.queues q) ((any_come (history_at s q) (s.queues q) (sound.prefixes q)).0 (subst (Any (Is n)) (sym r.at ∙ arrivals_at sound q) (any_middle r.before n r.after refl))) in
      let out : sent (history_at s n.sender) n.count ≡ some (letter q n.value) = mail sound q (elim came [ inl x ↦ inl x | inr x ↦ inr x ]) in
      letter_target (sym (suffix_sent st.at is) ∙ subst₂ (λ a b. sent (history_at s a) b ≡ some (letter q n.value)) name.sender name.count out)

  pub good_closed : {k : Cut} → Good s k → Closed s k
  good_closed {k} good = record { keeps = λ x y i j e. keeps (on_of s x y i j e) }
    where
      at_target : {p q t i j : ℕ} {v : List ℕ} {e : Entry} {g : List Entry} {n : Message} → Arrives s q i n → Stands s p j e g → as_send e.kind ≡ some (letter t v) → Named p (sends g) n
          → i < k (deliveries_to q) → j < k (entries_of p)
      at_target {p} {q} {t} {i} {j} {v} {e} {g} {n} r st is name h =
          subst (λ z. j < k (entries_of z)) name.sender
          (good.mailed {v = v} r (subst (λ z. Stands s z j e g) (sym name.sender) st) (subst (λ z. as_send e.kind ≡ some (letter z v)) (sent_to r st is name) is) (sym name.count) h)

      keeps : {x y : Series} {i j : ℕ} → On s x i y j → i < k x → j < k y
      keeps (later l) h = omega arith
      keeps (of_spawn_entry st is) h = or_else λ u. omega (arith, h, (good.born st is u).0)
      keeps (of_spawn_delivery st is) h = or_else λ u. omega (arith, h, (good.born st is u).1)
      keeps (of_queue {g} st is r x) h = let z = saw sound st is r (any_left (taken g) x) in omega (arith, z, good.saw_all st is h)
      keeps (of_since {a} {d} {m} r st is x y) h = or_else λ u. elim (any_append (a ++ (m ∷ d)) (sees sound st is r (omega (arith, h, good.saw_none st is u)))) [ inl z ↦ x z | inr z ↦ y z ]
      keeps (of_send {l = letter t v} r st is name) h = at_target r st is name h

  -- ---- each lowering that a pass over the numbers makes takes only what is in the set
  module _ {set : Event → Type 0} (upward : Upward s set) {k : Cut} (within : Within s set k) where
    pub pull_send : {q i j : ℕ} {v : List ℕ} {e : Entry} {g : List Entry} {n : Message} → Arrives s q j n → Stands s n.sender i e g → as_send e.kind ≡ some (letter q v) → sends g ≡ n.count
        → k (entries_of n.sender) ≤ i → set (event (deliveries_to q) j)
    pull_send {q} {i} {j} {n = n} r st is c h = upward.up (deliveries_to q) (entries_of n.sender) j i (on_send r st is c) (within.goes (entries_of n.sender) i (stands_low st) h)

    pub pull_child : {p q i : ℕ} {e : Entry} {g : List Entry} → Stands s p i e g → as_spawn e.kind ≡ some q → k (entries_of p) ≤ i
        → (0 < level s (entries_of q) → set (event (entries_of q) 0)) × (0 < level s (deliveries_to q) → set (event (deliveries_to q) 0))
    pull_child {p} {q} {i} st is h =
        let gone = within.goes (entries_of p) i (stands_low st) h in
        (λ z. upward.up (entries_of q) (entries_of p) 0 i (on_spawn_entry z st is) gone, λ z. upward.up (deliveries_to q) (entries_of p) 0 i (on_spawn_delivery z st is) gone)

    module _ {p i : ℕ} {e : Entry} {g : List Entry} {a d : List Message} {m : Message} (st : Stands s p i e g) (is : as_rec e.kind ≡ some (taking a m d)) where
      pub pull_since : k (entries_of p) ≤ i → seen a m d g < level s (deliveries_to p) → set (event (deliveries_to p) (seen a m d g))
      pull_since h z =
          let (n, r) = arrival s p (seen a m d g) z in
          upward.up (deliveries_to p) (entries_of p) (seen a m d g) i
          (on_since r st is (λ x. let u = saw sound st is r (any_left (taken g) x) in omega arith) (λ x. let u = saw sound st is r (any_right (a ++ (m ∷ d)) x) in omega arith))
          (within.goes (entries_of p) i (stands_low st) h)

      pub pull_rec : k (deliveries_to p) < seen a m d g → set (event (entries_of p) i)
      pull_rec h =
          let low = seen_low sound st is in
          let (n, r) = arrival s p (k (deliveries_to p)) (omega arith) in
          let gone = within.goes (deliveries_to p) (k (deliveries_to p)) (omega arith) (omega arith) in
          elim (any_append (a ++ (m ∷ d)) (sees sound st is r h)) [
            | inl x ↦ upward.up (entries_of p) (deliveries_to p) i (k (deliveries_to p)) (on_queue st is r x) gone
            | inr x ↦ by_older r gone (taken_by g x)
          ]
        where
          by_older : {n : Message} {j : ℕ} → Arrives s p j n → set (event (deliveries_to p) j) → TakenBy (Like n) g → set (event (entries_of p) i)
          by_older {n} {j} r gone t =
              let below : Stands s p (length t.before) t.entry t.before = record { at = suffix_trans t.stands (suffix_tail st.at); index = refl } in
              let older-goes = upward.up (entries_of p) (deliveries_to p) (length t.before) j (on_queue below t.is r (any_middle t.a t.message t.d t.good)) gone in
              upto upward (entries_of p) older-goes (let z = suffix_length t.stands in omega (arith, st.index)) (stands_low st)

  -- ---- and a closed cut is good
  closed_cut_up : {k : Cut} → Closed s k → Upward s (Off k)
  closed_cut_up {k} closed = record { up = λ x y i j e h. elim (dec_lt i (k x)) [ yes z ↦ absurd (let u = closed.keeps x y i j e z in omega arith) | no z ↦ omega arith ] }

  own_within : (k : Cut) → Within s (Off k) k
  own_within k = record { goes = λ x i h g. g }

  pub closed_good : {k : Cut} → ((x : Series) → k x ≤ level s x) → Closed s k → Good s k
  closed_good {k} low closed = record { saw_all = saw_all; saw_none = saw_none; mailed = mailed; born = λ st is h. (born_0 st is h, born_1 st is h) }
    where
      upward : Upward s (Off k)
      upward = closed_cut_up closed

      saw_all : {p i : ℕ} {e : Entry} {g : List Entry} {a d : List Message} {m : Message} → Stands s p i e g → as_rec e.kind ≡ some (taking a m d) → i < k (entries_of p) → seen a m d g ≤ k (deliveries_to p)
      saw_all {p} {g = g} {a} {d} {m} st is h = elim (dec_lt (k (deliveries_to p)) (seen a m d g)) [ yes z ↦ absurd (let u = pull_rec upward (own_within k) st is z in omega arith) | no z ↦ omega arith ]

      saw_none : {p i : ℕ} {e : Entry} {g : List Entry} {a d : List Message} {m : Message} → Stands s p i e g → as_rec e.kind ≡ some (taking a m d) → k (entries_of p) ≤ i → k (deliveries_to p) ≤ seen a m d g
      saw_none {p} {g = g} {a} {d} {m} st is h = elim (dec_lt (seen a m d g) (k (deliveries_to p))) [
        | yes z ↦ absurd (let u = pull_since upward (own_within k) st is h (omega (arith, z, low (deliveries_to p))) in omega arith)
        | no z ↦ omega arith
      ]

      mailed : {q i j : ℕ} {v : List ℕ} {e : Entry} {g : List Entry} {n : Message} → Arrives s q j n → Stands s n.sender i e g → as_send e.kind ≡ some (letter q v) → sends g ≡ n.count
          → j < k (deliveries_to q) → i < k (entries_of n.sender)
      mailed r st is c h = or_else λ z. let u = pull_send upward (own_within k) r st is c z in omega arith

      born_0 : {p q i : ℕ} {e : Entry} {g : List Entry} → Stands s p i e g → as_spawn e.kind ≡ some q → k (entries_of p) ≤ i → k (entries_of q) ≡ 0
      born_0 {q = q} st is h = elim (dec_lt 0 (k (entries_of q))) [ yes z ↦ absurd (let u = (pull_child upward (own_within k) st is h).0 (omega (arith, z, low (entries_of q))) in omega arith) | no z ↦ omega arith ]

      born_1 : {p q i : ℕ} {e : Entry} {g : List Entry} → Stands s p i e g → as_spawn e.kind ≡ some q → k (entries_of p) ≤ i → k (deliveries_to q) ≡ 0
      born_1 {q = q} st is h = elim (dec_lt 0 (k (deliveries_to q))) [ yes z ↦ absurd (let u = (pull_child upward (own_within k) st is h).1 (omega (arith, z, low (deliveries_to q))) in omega arith) | no z ↦ omega arith ]

-- ---- the number of an arrival: its place in the first queue that shows it, and the recs before
prefix_front : (front x z others : List Message) → x ++ z ≡ front ++ others → length front ≤ length x → Prefix front x
prefix_front [] x z others e h = record { others = x; whole = refl }
prefix_front (u ∷ front) [] z others e h = absurd (omega arith)
prefix_front (u ∷ front) (v ∷ x) z others e h =
    let i : x ++ z ≡ front ++ others = cc in
    let j : v ≡ u = cc in
    let r = prefix_front front x z others i (omega arith) in
    record { others = r.others; whole = let k = r.whole in cc }

left_none : (e : Entry) (h : List Entry) → as_rec e.kind ≡ none → left (e ∷ h) ≡ left h
unfolding left left_or
left_none e h i = ap (λ o. left_or o (left h)) i

left_rec : (e : Entry) (h : List Entry) {a d : List Message} {m : Message} → as_rec e.kind ≡ some (taking a m d) → left (e ∷ h) ≡ a ++ d
unfolding left left_or
left_rec e h i = ap (λ o. left_or o (left h)) i

flows_front : (h : List Entry) (x z : List Message) → Flows h (x ++ z) → length (left h) ≤ length x → Flows h x
flows_front [] x z f l = nil_flows x
flows_front (e ∷ h) x z f l = go (as_rec e.kind) refl (flows_front h x z)
  where
    go : (o : Option Taking) → as_rec e.kind ≡ o → (Flows h (x ++ z) → length (left h) ≤ length x → Flows h x) → Flows (e ∷ h) x
    go none i r = none_flows e h x i (r (flows_none e h (x ++ z) i f) (omega (arith, l, ap length (left_none e h i))))
    go (some (taking a m d)) i r =
        let (p, g) = flows_rec e h (x ++ z) i f in
        rec_flows e h x i (prefix_front (a ++ d) x z p.others p.whole (omega (arith, l, ap length (left_rec e h i)))) g

module _ {s : State} (sound : Sound s) {q : ℕ} {n : Message} (x y : List Message) where
  -- a message in the queue, behind what the newest rec left
  pub number_now : s.queues q ≡ x ++ (n ∷ y) → length (left (history_at s q)) ≤ length x → Arrives s q (length x + length (taken (history_at s q))) n
  number_now e l = record {
    before = come (history_at s q) x;
    after = y;
    at = arrivals_at sound q ∙ ap (come (history_at s q)) e ∙ come_more (history_at s q) x (n ∷ y) l;
    index = length_come (history_at s q) x (flows_front (history_at s q) x (n ∷ y) (subst (Flows (history_at s q)) e (sound.prefixes q)) l);
  }

  -- a message in the queue before a rec, behind what the rec before it left
  pub number_then : {i : ℕ} {e : Entry} {g : List Entry} {a d : List Message} {m : Message} → Stands s q i e g → as_rec e.kind ≡ some (taking a m d) → a ++ (m ∷ d) ≡ x ++ (n ∷ y)
      → length (left g) ≤ length x → Arrives s q (length x + length (taken g)) n
  number_then {g = g} st is i l =
      let (z, u) = seen_first (s.queues q) st.at is in
      record {
        before = come g x;
        after = y ++ z;
        at = arrivals_at sound q ∙ u ∙ ap (λ w. come g w ++ z) i ∙ ap (λ w. w ++ z) (come_more g x (n ∷ y) l) ∙ append_assoc (come g x) (n ∷ y) z;
        index = length_come g x (flows_front g x (n ∷ y) (subst (Flows g) i (flows_at (s.queues q) st.at is (sound.prefixes q))) l);
      }
