-- The arrivals at a process in closed form: what each queue shows beyond what the rec before it left. In sound states these are 01's
-- arrivals, "ordered by the first queue that shows them, then by place in it".
use Prim.Native.Nat.{ℕ, ◌≤◌, ◌+◌}
use mathlib.Core.Path.{◌≡◌, refl, sym, ◌∙◌, ap, subst}
use mathlib.Core.Logic.{◌⊎◌, inl, inr, ◌↔◌}
use mathlib.Core.Bool.{true, false, not}
use mathlib.Core.Option.{Option, none, some}
use mathlib.Core.List.{List, [], ◌∷◌, ◌++◌, append_assoc, append-nil}
use native.Mathlib.Omega.{arith}
use lib.ListN.{length, length-append, drop}
use lib.Seq.{drop-append-le, drop-append_seam}
use Rattle.lists.specs.Lists.{any, keep}
use Rattle.lists.proofs.Lists.{keep_true, keep_false, keep_nil}
use Rattle.rules.specs.State.{Message, Taking, taking, as_rec, Entry, State, history_at}
use Rattle.rules.specs.Flight.{also_taken, taken, left_or, left}
use Rattle.rules.specs.Sound.{Prefix, Flows}
use Rattle.rules.specs.Depends.{queue_before, queues_shown, is_among, shown_in, arrivals}
use Rattle.rules.specs.Standing.{shown_or, shown, come}
use Rattle.demands.proofs.Messages.{Any, here, there, Is, any_none, any_append, any_left, any_right, any_more, any_middle, any_less, any_map, Named, named_found, named_not, find_named, Once, once_out, once_give}
use Rattle.demands.proofs.SoundFacts.{FlowsBy, flows_left, prefix_length}

-- ---- the closed form
pub come_none : (e : Entry) (h : List Entry) (queue : List Message) → as_rec e.kind ≡ none → come (e ∷ h) queue ≡ come h queue
unfolding come shown shown_or left left_or
come_none e h queue i = rw i refl

pub come_rec : (e : Entry) (h : List Entry) (queue : List Message) {a d : List Message} {m : Message} → as_rec e.kind ≡ some (taking a m d)
    → come (e ∷ h) queue ≡ come h (a ++ (m ∷ d)) ++ drop (length (a ++ d)) queue
unfolding come shown shown_or left left_or
come_rec e h queue i = rw i refl

pub come_more : (h : List Entry) (x y : List Message) → length (left h) ≤ length x → come h (x ++ y) ≡ come h x ++ y
unfolding come
come_more h x y g = rw (drop-append-le (length (left h)) x y g) (sym (append_assoc (shown h) (drop (length (left h)) x) y))

-- ---- the flow of queues, entry by entry
pub flows_none : (e : Entry) (h : List Entry) (queue : List Message) → as_rec e.kind ≡ none → Flows (e ∷ h) queue → Flows h queue
unfolding Flows
flows_none e h queue i f = subst (λ o. FlowsBy o h queue) i f

pub flows_rec : (e : Entry) (h : List Entry) (queue : List Message) {a d : List Message} {m : Message} → as_rec e.kind ≡ some (taking a m d)
    → Flows (e ∷ h) queue → Prefix (a ++ d) queue × Flows h (a ++ (m ∷ d))
unfolding Flows
flows_rec e h queue i f = subst (λ o. FlowsBy o h queue) i f

pub none_flows : (e : Entry) (h : List Entry) (queue : List Message) → as_rec e.kind ≡ none → Flows h queue → Flows (e ∷ h) queue
unfolding Flows
none_flows e h queue i f = subst (λ o. FlowsBy o h queue) (sym i) f

pub rec_flows : (e : Entry) (h : List Entry) (queue : List Message) {a d : List Message} {m : Message} → as_rec e.kind ≡ some (taking a m d)
    → Prefix (a ++ d) queue → Flows h (a ++ (m ∷ d)) → Flows (e ∷ h) queue
unfolding Flows
rec_flows e h queue i p f = subst (λ o. FlowsBy o h queue) (sym i) (p, f)

pub flows_long : (h : List Entry) (queue : List Message) → Flows h queue → length (left h) ≤ length queue
flows_long h queue f = prefix_length (flows_left h queue f)

pub prefix_more : {front queue : List Message} (y : List Message) → Prefix front queue → Prefix front (queue ++ y)
prefix_more {front} y p = record { others = p.others ++ y; whole = ap (λ z. z ++ y) p.whole ∙ append_assoc front p.others y }

pub nil_flows : (queue : List Message) → Flows [] queue
unfolding Flows
nil_flows queue = tt

pub flows_more : (h : List Entry) (queue y : List Message) → Flows h queue → Flows h (queue ++ y)
flows_more [] queue y f = nil_flows (queue ++ y)
flows_more (e ∷ h) queue y f = go (as_rec e.kind) refl (flows_more h queue y)
  where
    go : (o : Option Taking) → as_rec e.kind ≡ o → (Flows h queue → Flows h (queue ++ y)) → Flows (e ∷ h) (queue ++ y)
    go none i r = none_flows e h (queue ++ y) i (r (flows_none e h queue i f))
    go (some (taking a m d)) i r = let (p, g) = flows_rec e h queue i f in rec_flows e h (queue ++ y) i (prefix_more y p) g

pub taken_none : (e : Entry) (h : List Entry) → as_rec e.kind ≡ none → taken (e ∷ h) ≡ taken h
unfolding taken also_taken
taken_none e h i = rw i refl

pub taken_rec : (e : Entry) (h : List Entry) {a d : List Message} {m : Message} → as_rec e.kind ≡ some (taking a m d) → taken (e ∷ h) ≡ m ∷ taken h
unfolding taken also_taken
taken_rec e h i = rw i refl

-- as if the rec had not been
pub swap : (e : Entry) (h : List Entry) (y : List Message) {a d : List Message} {m : Message} → as_rec e.kind ≡ some (taking a m d) → length (left h) ≤ length (a ++ (m ∷ d))
    → come (e ∷ h) ((a ++ d) ++ y) ≡ come h ((a ++ (m ∷ d)) ++ y)
swap e h y {a} {d} {m} i g = come_rec e h ((a ++ d) ++ y) i ∙ ap (λ z. come h (a ++ (m ∷ d)) ++ z) (drop-append_seam (a ++ d) y) ∙ sym (come_more h (a ++ (m ∷ d)) y g)

-- the same, of the queue that flows from it
pub swapped : (e : Entry) (h : List Entry) (queue : List Message) {a d : List Message} {m : Message} (i : as_rec e.kind ≡ some (taking a m d)) → Flows (e ∷ h) queue
    → (y : List Message) × (queue ≡ (a ++ d) ++ y) × (come (e ∷ h) queue ≡ come h ((a ++ (m ∷ d)) ++ y)) × Flows h ((a ++ (m ∷ d)) ++ y)
swapped e h queue {a} {d} {m} i f =
    let (p, g) = flows_rec e h queue i f in
    (p.others, p.whole, ap (come (e ∷ h)) p.whole ∙ swap e h p.others i (flows_long h (a ++ (m ∷ d)) g), flows_more h (a ++ (m ∷ d)) p.others g)

-- ---- the arrivals are the queue and what was taken, in another order
pub come_nil : (queue : List Message) → come [] queue ≡ queue
unfolding come shown left
come_nil queue = refl

pub taken_nil : taken [] ≡ []
unfolding taken
taken_nil = refl

any_move : {P : Message → Type 0} (a : List Message) (m : Message) (d e : List Message) → Any P ((a ++ (m ∷ d)) ++ e) ↔ Any P ((a ++ d) ++ (m ∷ e))
any_move {P} a m d e = (there_to, back_to)
  where
    there_to : Any P ((a ++ (m ∷ d)) ++ e) → Any P ((a ++ d) ++ (m ∷ e))
    there_to x = elim (any_append (a ++ (m ∷ d)) x) [
      | inl y ↦ elim (any_less a d y) [ inl z ↦ any_left _ z | inr z ↦ any_middle (a ++ d) m e z ]
      | inr y ↦ any_right (a ++ d) (there y)
    ]

    one : Any P (m ∷ e) → P m ⊎ Any P e
    one (here x) = inl x
    one (there x) = inr x

    back_to : Any P ((a ++ d) ++ (m ∷ e)) → Any P ((a ++ (m ∷ d)) ++ e)
    back_to x = elim (any_append (a ++ d) x) [
      | inl y ↦ any_left _ (any_more a m d y)
      | inr y ↦ elim (one y) [ inl z ↦ any_left _ (any_middle a m d z) | inr z ↦ any_right (a ++ (m ∷ d)) z ]
    ]

after_before : (a : List Message) (m : Message) (d y : List Message) → (a ++ (m ∷ d)) ++ y ≡ a ++ (m ∷ (d ++ y))
after_before a m d y = append_assoc a (m ∷ d) y

pub once_back : (a : List Message) (m : Message) (d y t : List Message) → Once (((a ++ d) ++ y) ++ (m ∷ t)) → Once (((a ++ (m ∷ d)) ++ y) ++ t)
once_back a m d y t o = subst (λ z. Once (z ++ t)) (sym (after_before a m d y)) (once_give a m (d ++ y) t (subst (λ z. Once (z ++ (m ∷ t))) (append_assoc a d y) o))

pub once_come : (h : List Entry) (queue : List Message) → Flows h queue → Once (queue ++ taken h) → Once (come h queue)
once_come [] queue f o = subst Once (ap (λ z. queue ++ z) taken_nil ∙ append-nil queue ∙ sym (come_nil queue)) o
once_come (e ∷ h) queue f o = go (as_rec e.kind) refl (λ q. once_come h q)
  where
    go : (r : Option Taking) → as_rec e.kind ≡ r → ((q : List Message) → Flows h q → Once (q ++ taken h) → Once (come h q)) → Once (come (e ∷ h) queue)
    go none i ih = subst Once (sym (come_none e h queue i)) (ih queue (flows_none e h queue i f) (subst (λ z. Once (queue ++ z)) (taken_none e h i) o))
    go (some (taking a m d)) i ih =
        let (y, q, c, g) = swapped e h queue i f in
        subst Once (sym c) (ih ((a ++ (m ∷ d)) ++ y) g (once_back a m d y (taken h) (subst (λ z. Once (z ++ (m ∷ taken h))) q (subst (λ z. Once (queue ++ z)) (taken_rec e h i) o))))

pub length_come : (h : List Entry) (queue : List Message) → Flows h queue → length (come h queue) ≡ length queue + length (taken h)
length_come [] queue f = omega (arith, ap length (come_nil queue), ap length taken_nil)
length_come (e ∷ h) queue f = go (as_rec e.kind) refl (λ q. length_come h q)
  where
    go : (r : Option Taking) → as_rec e.kind ≡ r → ((q : List Message) → Flows h q → length (come h q) ≡ length q + length (taken h)) → length (come (e ∷ h) queue) ≡ length queue + length (taken (e ∷ h))
    go none i ih = omega (arith, ap length (come_none e h queue i), ih queue (flows_none e h queue i f), ap length (taken_none e h i))
    go (some (taking a m d)) i ih =
        let (y, q, c, g) = swapped e h queue i f in
        omega (arith, ap length c, ih ((a ++ (m ∷ d)) ++ y) g, ap length (taken_rec e h i), ap length q, length-append (a ++ d) y, length-append (a ++ (m ∷ d)) y, length-append a (m ∷ d), length-append a d)

pub any_come : {P : Message → Type 0} (h : List Entry) (queue : List Message) → Flows h queue → Any P (come h queue) ↔ Any P (queue ++ taken h)
any_come {P} [] queue f =
    let e : come [] queue ≡ queue ++ taken [] = come_nil queue ∙ sym (ap (λ z. queue ++ z) taken_nil ∙ append-nil queue) in
    (λ x. subst (Any P) e x, λ x. subst (Any P) (sym e) x)
any_come {P} (e ∷ h) queue f = go (as_rec e.kind) refl (λ q. any_come h q)
  where
    go : (r : Option Taking) → as_rec e.kind ≡ r → ((q : List Message) → Flows h q → Any P (come h q) ↔ Any P (q ++ taken h)) → Any P (come (e ∷ h) queue) ↔ Any P (queue ++ taken (e ∷ h))
    go none i ih =
        let j = ih queue (flows_none e h queue i f) in
        let c = come_none e h queue i in
        let t = ap (λ z. queue ++ z) (taken_none e h i) in
        (λ x. subst (Any P) (sym t) (j.0 (subst (Any P) c x)), λ x. subst (Any P) (sym c) (j.1 (subst (Any P) t x)))
    go (some (taking a m d)) i ih =
        let (y, q, c, g) = swapped e h queue i f in
        let j = ih ((a ++ (m ∷ d)) ++ y) g in
        let v = any_move {P = P} a m (d ++ y) (taken h) in
        let n = after_before a m d y in
        let k : (a ++ (d ++ y)) ++ (m ∷ taken h) ≡ queue ++ taken (e ∷ h) = ap (λ z. z ++ (m ∷ taken h)) (sym (q ∙ append_assoc a d y)) ∙ ap (λ z. queue ++ z) (sym (taken_rec e h i)) in (
          λ x. subst (Any P) k (v.0 (subst (λ z. Any P (z ++ taken h)) n (j.0 (subst (Any P) c x)))),
          λ x. subst (Any P) (sym c) (j.1 (subst (λ z. Any P (z ++ taken h)) (sym n) (v.1 (subst (Any P) (sym k) x)))),
        )

-- ---- 01's arrivals
queues_none : (e : Entry) (h : List Entry) (queue : List Message) → as_rec e.kind ≡ none → queues_shown (e ∷ h) queue ≡ queues_shown h queue
unfolding queues_shown
queues_none e h queue i = rw (i, queues_shown) refl

queues_rec : (e : Entry) (h : List Entry) (queue : List Message) {a d : List Message} {m : Message} → as_rec e.kind ≡ some (taking a m d)
    → queues_shown (e ∷ h) queue ≡ queues_shown h (a ++ (m ∷ d)) ++ (queue ∷ [])
unfolding queues_shown queue_before
queues_rec e h queue i = rw (i, queues_shown) refl

-- what a queue shows first
abbrev fresh : List Message → List Message → List Message
fresh come queue = keep (λ m. not (is_among come m)) queue

shown_last : (c : List Message) (qs : List (List Message)) (queue : List Message) → shown_in c (qs ++ (queue ∷ [])) ≡ shown_in c qs ++ fresh (shown_in c qs) queue
unfolding shown_in
shown_last c [] queue = refl
shown_last c (q ∷ qs) queue = shown_last (c ++ fresh c q) qs queue

pub among : (c : List Message) (m : Message) → is_among c m ≡ true → Any (Named m.sender m.count) c
unfolding is_among
among c m e = find_named m.sender m.count c e

pub among_of : (c : List Message) (m : Message) → Any (Named m.sender m.count) c → is_among c m ≡ true
unfolding is_among
among_of c m x = named_found x

pub not_among : (c : List Message) (m : Message) → ¬ Any (Named m.sender m.count) c → is_among c m ≡ false
unfolding is_among
not_among c m x = named_not m.sender m.count c x

fresh_old : (c x y : List Message) → ((m : Message) → Any (Is m) x → Any (Named m.sender m.count) c) → fresh c (x ++ y) ≡ fresh c y
fresh_old c [] y f = refl
fresh_old c (m ∷ x) y f = keep_false _ m (x ++ y) (ap not (among_of c m (f m (here refl)))) ∙ fresh_old c x y (λ n z. f n (there z))

fresh_new : (c y : List Message) → ((m : Message) → Any (Is m) y → ¬ Any (Named m.sender m.count) c) → fresh c y ≡ y
fresh_new c [] f = keep_nil _
fresh_new c (m ∷ y) f = keep_true _ m y (ap not (not_among c m (f m (here refl)))) ∙ ap (λ z. m ∷ z) (fresh_new c y (λ n z. f n (there z)))

pub is_like : {m : Message} (b : List Message) → Any (Is m) b → Any (Named m.sender m.count) b
is_like b x = any_map (λ n e. record { sender = ap (λ z. z.sender) e; count = ap (λ z. z.count) e }) x

-- no name stands in both parts
pub once_apart : (x : List Message) (n : Message) {y : List Message} → Once (x ++ y) → Any (Named n.sender n.count) x → Any (Is n) y → ⊥
once_apart [] n o x r = elim x [ ]
once_apart (v ∷ x) n o (here l) r = o.0 (any_right x (any_map (λ m e. record { sender = ap (λ z. z.sender) e ∙ sym l.sender; count = ap (λ z. z.count) e ∙ sym l.count }) r))
once_apart (v ∷ x) n o (there z) r = once_apart x n o.1 z r

once_part : (x y z : List Message) → Once ((x ++ y) ++ z) → Once (x ++ z)
once_part x [] z o = subst (λ w. Once (w ++ z)) (append-nil x) o
once_part x (m ∷ y) z o = once_part x y z (subst Once (sym (append_assoc x y z)) (once_out x m (y ++ z) (subst Once (append_assoc x (m ∷ y) z) o)).0)

pub arrivals_come : (h : List Entry) (queue : List Message) → Flows h queue → Once (queue ++ taken h) → shown_in [] (queues_shown h queue) ≡ come h queue
unfolding shown_in queues_shown is_among any
arrivals_come [] queue f o = fresh_new [] queue (λ m x y. any_none y refl) ∙ sym (come_nil queue)
arrivals_come (e ∷ h) queue f o = go (as_rec e.kind) refl (λ q. arrivals_come h q)
  where
    go : (r : Option Taking) → as_rec e.kind ≡ r → ((q : List Message) → Flows h q → Once (q ++ taken h) → shown_in [] (queues_shown h q) ≡ come h q)
        → shown_in [] (queues_shown (e ∷ h) queue) ≡ come (e ∷ h) queue
    go none i ih = ap (shown_in []) (queues_none e h queue i) ∙ ih queue (flows_none e h queue i f) (subst (λ z. Once (queue ++ z)) (taken_none e h i) o) ∙ sym (come_none e h queue i)
    go (some (taking a m d)) i ih =
        let (y, q, c, g) = swapped e h queue i f in
        let before = (flows_rec e h queue i f).1 in
        let more : come h ((a ++ (m ∷ d)) ++ y) ≡ come h (a ++ (m ∷ d)) ++ y = come_more h (a ++ (m ∷ d)) y (flows_long h (a ++ (m ∷ d)) before) in
        let all_once : Once (come h (a ++ (m ∷ d)) ++ y) = subst Once (c ∙ more) (once_come (e ∷ h) queue f o) in
        let known = once_back a m d y (taken h) (subst (λ z. Once (z ++ (m ∷ taken h))) q (subst (λ z. Once (queue ++ z)) (taken_rec e h i) o)) in
        let it : shown_in [] (queues_shown h (a ++ (m ∷ d))) ≡ come h (a ++ (m ∷ d)) = ih (a ++ (m ∷ d)) before (once_part (a ++ (m ∷ d)) y (taken h) known) in
        ap (shown_in []) (queues_rec e h queue i) ∙ shown_last [] (queues_shown h (a ++ (m ∷ d))) queue ∙ ap (λ z. z ++ fresh z queue) it ∙ ap (λ z. come h (a ++ (m ∷ d)) ++ fresh (come h (a ++ (m ∷ d))) z) q
        ∙ ap (λ z. come h (a ++ (m ∷ d)) ++ z) (
        fresh_old (come h (a ++ (m ∷ d))) (a ++ d) y (λ n x. (any_come h (a ++ (m ∷ d)) before).1 (any_left (taken h) (is_like (a ++ (m ∷ d)) (any_more a m d x))))
        ∙ fresh_new (come h (a ++ (m ∷ d))) y (λ n x z. once_apart (come h (a ++ (m ∷ d))) n all_once z x))
        ∙ sym (c ∙ more)

pub arrivals_are : (s : State) (q : ℕ) → Flows (history_at s q) (s.queues q) → Once (s.queues q ++ taken (history_at s q)) → arrivals s q ≡ come (history_at s q) (s.queues q)
unfolding arrivals
arrivals_are s q f o = arrivals_come (history_at s q) (s.queues q) f o
