-- Tests of examples that are given by their places: a clause of soundness holds of a state whose places pass its test.
use Prim.Native.Nat.{ℕ, zero, suc, ◌+◌, ◌≤◌}
use mathlib.Core.Path.{◌≡◌, refl, sym, ◌∙◌, ap, subst}
use mathlib.Core.Logic.{inl, inr}
use mathlib.Core.Bool.{Bool, true, false, not, ◌&&◌, ◌||◌}
use mathlib.Core.Option.{Option, none, some}
use mathlib.Core.List.{List, [], ◌∷◌, ◌++◌}
use native.Mathlib.Omega.{arith}
use lib.Dec.{eqb, leb}
use lib.ListN.{length}
use Rattle.lists.specs.Lists.{All, same_list}
use Rattle.lists.proofs.Tests.{true_not_false, true_or_false, none_not_some, some_injective, eqb-true, leb-true, leb_of, and_left, and_right, or_true, not_true, cond_true, cond_false}
use Rattle.lists.proofs.Lists.{same_list_lem}
use Rattle.term.specs.Module.{check_module}
use Rattle.term.specs.Shape.{control_shape}
use Rattle.term.specs.Control.{keeps_rules, good_control, module_arities}
use Rattle.machine.specs.Work.{Work, to_seq, to_send, to_receive, to_spawn, to_self, to_check, work}
use Rattle.rules.specs.State.{Message, Letter, letter, Taking, taking, as_send, as_rec, as_spawn, as_check, Entry, Process, history_of, history_at, entry_at, is_process, in_pool}
use Rattle.rules.specs.Flight.{sends, letter_or, sent, taken}
use Rattle.rules.specs.Load.{good_sizes}
use Rattle.rules.specs.Sound.{SoundControl, SpawnedBy, distinct, SentTo, Prefix, Flows}
use Rattle.rules.specs.Opened.{opened}
use Rattle.rules.specs.SoundSentences.{Clause, sizes_pass, module_passes, place_0, pool_ends, no_queue_elsewhere, history_fits, controls, controls_before, check_numbers, sends_said, born, born_once, place_0_unborn, children_in_pool, targets_in_pool, once, nothing_else, prefixes, Holds, Place, place_at, Example, state}

-- ---- every place, every entry, every message, what there is

unfoldable pub every_from : (ℕ → Place → Bool) → ℕ → List Place → Bool
every_from f n [] = true
every_from f n (x ∷ places) = f n x && every_from f (suc n) places

-- what a place holds past the last
abbrev nobody : Place
nobody = record { process = none; queue = [] }

every_from_lem : (f : ℕ → Place → Bool) (n : ℕ) (places : List Place) → every_from f n places ≡ true → ((p : ℕ) → f p nobody ≡ true) → (p : ℕ) → f (n + p) (place_at places p) ≡ true
unfolding every_from place_at
every_from_lem f n [] e past p = past (n + p)
every_from_lem f n (x ∷ places) e past zero = let z : n ≡ n + 0 = omega arith in subst (λ k. f k x ≡ true) z (and_left (f n x) (every_from f (suc n) places) e)
every_from_lem f n (x ∷ places) e past (suc p) =
    let z : suc n + p ≡ n + suc p = omega arith in
    subst (λ k. f k (place_at places p) ≡ true) z (every_from_lem f (suc n) places (and_right (f n x) (every_from f (suc n) places) e) past p)

unfoldable pub each : Example → (ℕ → Place → Bool) → Bool
each x f = every_from f 0 x.places

at_place : (x : Example) (f : ℕ → Place → Bool) → each x f ≡ true → ((p : ℕ) → f p nobody ≡ true) → (p : ℕ) → f p (place_at x.places p) ≡ true
unfolding each
at_place x f e past p = let z : 0 + p ≡ p = omega arith in subst (λ k. f k (place_at x.places p) ≡ true) z (every_from_lem f 0 x.places e past p)

unfoldable pub every_entry : (ℕ → Entry → Bool) → List Entry → Bool
every_entry f [] = true
every_entry f (e ∷ h) = f (length h) e && every_entry f h

every_entry_lem : (f : ℕ → Entry → Bool) (h : List Entry) (i : ℕ) {e : Entry} → every_entry f h ≡ true → entry_at h i ≡ some e → f i e ≡ true
unfolding every_entry entry_at
every_entry_lem f [] i t stands = none_not_some stands
every_entry_lem f (x ∷ h) i {e} t stands = elim (true_or_false (eqb (length h) i)) [
  | inl same ↦
      let is = some_injective (sym (cond_true (some x) (entry_at h i) same) ∙ stands) in
      let at = eqb-true (length h) i same in
      subst (λ e. f i e ≡ true) is (subst (λ i. f i x ≡ true) at (and_left (f (length h) x) (every_entry f h) t))
  | inr other ↦ every_entry_lem f h i (and_right (f (length h) x) (every_entry f h) t) (sym (cond_false (some x) (entry_at h i) other) ∙ stands)
]

-- the entries of every place
unfoldable pub each_entry : Example → (ℕ → ℕ → Entry → Bool) → Bool
each_entry x f = each x (λ p y. every_entry (f p) (history_of y.process))

at_history : (x : Example) (f : ℕ → ℕ → Entry → Bool) → each_entry x f ≡ true → (p : ℕ) → every_entry (f p) (history_at (state x) p) ≡ true
unfolding each_entry every_entry history_of history_at state
at_history x f t = at_place x (λ p y. every_entry (f p) (history_of y.process)) t (λ p. refl)

at_entry : (x : Example) (f : ℕ → ℕ → Entry → Bool) → each_entry x f ≡ true → (p i : ℕ) {e : Entry} → entry_at (history_at (state x) p) i ≡ some e → f p i e ≡ true
at_entry x f t p i stands = every_entry_lem (f p) (history_at (state x) p) i (at_history x f t p) stands

unfoldable pub every_message : (Message → Bool) → List Message → Bool
every_message f [] = true
every_message f (m ∷ ms) = f m && every_message f ms

every_message_lem : (P : Message → Type 0) (f : Message → Bool) → ((m : Message) → f m ≡ true → P m) → (ms : List Message) → every_message f ms ≡ true → All P ms
unfolding every_message All
every_message_lem P f so [] t = tt
every_message_lem P f so (m ∷ ms) t = (so m (and_left (f m) (every_message f ms) t), every_message_lem P f so ms (and_right (f m) (every_message f ms) t))

unfoldable pub if_some : {A : Type 0} → (A → Bool) → Option A → Bool
if_some f none = true
if_some f (some a) = f a

if_some_lem : {A : Type 0} (f : A → Bool) {o : Option A} {a : A} → if_some f o ≡ true → o ≡ some a → f a ≡ true
unfolding if_some
if_some_lem f t e = rw e at t

-- what was sent was sent by an entry
every_send : (f : Letter → Bool) (h : List Entry) (k : ℕ) {l : Letter} → every_entry (λ i e. if_some f (as_send e.kind)) h ≡ true → sent h k ≡ some l → f l ≡ true
unfolding every_entry sent letter_or if_some
every_send f [] k t e = none_not_some e
every_send f (x ∷ h) k {l} t e = go (as_send x.kind) (and_left _ _ t) e (every_send f h k (and_right (if_some f (as_send x.kind)) _ t))
  where
    go : (o : Option Letter) → if_some f o ≡ true → letter_or o (sends h) k (sent h k) ≡ some l → (sent h k ≡ some l → f l ≡ true) → f l ≡ true
    go none t e r = r e
    go (some m) t e r = elim (true_or_false (eqb (sends h) k)) [
      | inl same ↦ subst (λ l. f l ≡ true) (some_injective (sym (cond_true (some m) (sent h k) same) ∙ e)) t
      | inr other ↦ r (sym (cond_false (some m) (sent h k) other) ∙ e)
    ]

-- ---- controls, sends, messages, queues

unfoldable pub fitting : Example → List ℕ → Bool
fitting x control = good_control x.limits.places (module_arities x.code) control && leb (length control) x.limits.words

fits : (x : Example) (control : List ℕ) → fitting x control ≡ true → SoundControl (state x) control
unfolding fitting state
fits x control t =
    let good = good_control x.limits.places (module_arities x.code) control in
    record { good = and_left good (leb (length control) x.limits.words) t; fits = leb-true (length control) x.limits.words (and_right good (leb (length control) x.limits.words) t) }

-- the target and value of a letter
unfoldable pub same_letter : Letter → ℕ → List ℕ → Bool
same_letter (letter t v) target value = eqb t target && same_list v value

same_letter_lem : (l : Letter) (target : ℕ) (value : List ℕ) → same_letter l target value ≡ true → l ≡ letter target value
unfolding same_letter
same_letter_lem (letter t v) target value e =
    let a = eqb-true t target (and_left (eqb t target) (same_list v value) e) in
    let b = same_list_lem v value (and_right (eqb t target) (same_list v value) e) in
    λ i. letter (a i) (b i)

unfoldable pub saying : Work → Letter → Bool
saying Work.finished l = false
saying Work.stuck l = false
saying (to_seq next) l = false
saying (to_send target value next) l = same_letter l target value
saying (to_receive takes) l = false
saying (to_spawn child next) l = false
saying (to_self next) l = false
saying (to_check number next) l = false

says : (w : Work) (target : ℕ) (value : List ℕ) → saying w (letter target value) ≡ true → (next : List ℕ) × (w ≡ to_send target value next)
unfolding saying
says Work.finished target value t = true_not_false t refl
says Work.stuck target value t = true_not_false t refl
says (to_seq next) target value t = true_not_false t refl
says (to_send target' value' next) target value t =
    let same = same_letter_lem (letter target value) target' value' t in
    let a : target' ≡ target = cc in
    let b : value' ≡ value = cc in
    (next, λ i. to_send (a i) (b i) next)
says (to_receive takes) target value t = true_not_false t refl
says (to_spawn child next) target value t = true_not_false t refl
says (to_self next) target value t = true_not_false t refl
says (to_check number next) target value t = true_not_false t refl

unfoldable pub is_letter : Option Letter → ℕ → List ℕ → Bool
is_letter none target value = false
is_letter (some l) target value = same_letter l target value

is_letter_lem : (o : Option Letter) (target : ℕ) (value : List ℕ) → is_letter o target value ≡ true → o ≡ some (letter target value)
unfolding is_letter
is_letter_lem none target value t = true_not_false t refl
is_letter_lem (some l) target value t = ap some (same_letter_lem l target value t)

unfoldable pub is_message : Message → Message → Bool
is_message m n = eqb m.sender n.sender && (eqb m.count n.count && same_list m.value n.value)

is_message_lem : (m n : Message) → is_message m n ≡ true → m ≡ n
unfolding is_message
is_message_lem m n t =
    let senders = eqb m.sender n.sender in
    let counts = eqb m.count n.count in
    let values = same_list m.value n.value in
    let rest = and_right senders (counts && values) t in
    let a = eqb-true m.sender n.sender (and_left senders (counts && values) t) in
    let b = eqb-true m.count n.count (and_left counts values rest) in
    let c = same_list_lem m.value n.value (and_right counts values rest) in
    λ i. record { sender = a i; count = b i; value = c i }

unfoldable pub begins : List Message → List Message → Bool
begins [] queue = true
begins (m ∷ ms) [] = false
begins (m ∷ ms) (n ∷ queue) = is_message n m && begins ms queue

prefix : (front queue : List Message) → begins front queue ≡ true → Prefix front queue
unfolding begins
prefix [] queue t = record { others = queue; whole = refl }
prefix (m ∷ ms) [] t = true_not_false t refl
prefix (m ∷ ms) (n ∷ queue) t =
    let same = is_message_lem n m (and_left (is_message n m) (begins ms queue) t) in
    let r = prefix ms queue (and_right (is_message n m) (begins ms queue) t) in
    record { others = r.others; whole = λ i. same i ∷ r.whole i }

unfoldable pub flowing : Option Taking → (List Message → Bool) → List Message → Bool
flowing none f queue = f queue
flowing (some (taking a m d)) f queue = begins (a ++ d) queue && f (a ++ (m ∷ d))

unfoldable pub flows_on : List Entry → List Message → Bool
flows_on [] queue = true
flows_on (e ∷ h) queue = flowing (as_rec e.kind) (flows_on h) queue

flows_on_lem : (h : List Entry) (queue : List Message) → flows_on h queue ≡ true → Flows h queue
unfolding flows_on flowing Flows
flows_on_lem [] queue t = tt
flows_on_lem (e ∷ h) queue t = go (as_rec e.kind) refl t (flows_on_lem h)
  where
    go : (o : Option Taking) → as_rec e.kind ≡ o → flowing o (flows_on h) queue ≡ true → ((queue : List Message) → flows_on h queue ≡ true → Flows h queue) → Flows (e ∷ h) queue
    go none i t f = rw (Flows, i) (f queue t)
    go (some (taking a m d)) i t f =
        let front = begins (a ++ d) queue in
        let older = flows_on h (a ++ (m ∷ d)) in
        rw (Flows, i) (prefix (a ++ d) queue (and_left front older t), f (a ++ (m ∷ d)) (and_right front older t))

-- ---- the test of each clause

unfoldable pub is_none : {A : Type 0} → Option A → Bool
is_none none = true
is_none (some a) = false

is_none_lem : {A : Type 0} (o : Option A) → is_none o ≡ true → o ≡ none
unfolding is_none
is_none_lem none t = refl
is_none_lem (some a) t = true_not_false t refl

unfoldable pub is_empty : List Message → Bool
is_empty [] = true
is_empty (m ∷ ms) = false

is_empty_lem : (ms : List Message) → is_empty ms ≡ true → ms ≡ []
unfolding is_empty
is_empty_lem [] t = refl
is_empty_lem (m ∷ ms) t = true_not_false t refl

unfoldable pub is_this : Option ℕ → ℕ → Bool
is_this none q = false
is_this (some c) q = eqb c q

is_this_lem : (o : Option ℕ) (q : ℕ) → is_this o q ≡ true → o ≡ some q
unfolding is_this
is_this_lem none q t = true_not_false t refl
is_this_lem (some c) q t = ap some (eqb-true c q t)

-- the oldest entry of place 0 spawns q; the examples have no other spawn, but for the one that breaks just that
unfoldable pub spawns_this : Option Entry → ℕ → Bool
spawns_this none q = false
spawns_this (some e) q = is_this (as_spawn e.kind) q

first_spawns : (x : Example) (q : ℕ) (o : Option Entry) → entry_at (history_at (state x) 0) 0 ≡ o → spawns_this o q ≡ true → SpawnedBy (state x) q 0 0
unfolding spawns_this
first_spawns x q none i t = true_not_false t refl
first_spawns x q (some e) i t = record { entry = e; stands = i; spawns = is_this_lem (as_spawn e.kind) q t }

unfoldable pub born_test : Example → ℕ → Place → Bool
born_test x q y = not (is_process y.process) || (eqb q 0 || spawns_this (entry_at (history_at (state x) 0) 0) q)

born_by : (x : Example) (q : ℕ) → in_pool (state x) q ≡ true → ¬ (q ≡ 0) → born_test x q (place_at x.places q) ≡ true → (p : ℕ) × (i : ℕ) × SpawnedBy (state x) q p i
unfolding born_test in_pool state
born_by x q live n t =
    let first = entry_at (history_at (state x) 0) 0 in
    elim (or_true (not (in_pool (state x) q)) (eqb q 0 || spawns_this first q) t) [
      | inl d ↦ true_not_false live (not_true (in_pool (state x) q) d)
      | inr d ↦ elim (or_true (eqb q 0) (spawns_this first q) d) [ inl z ↦ absurd (n (eqb-true q 0 z)) | inr z ↦ (0, 0, first_spawns x q first refl z) ]
    ]

-- a letter's target is in the pool; a message was sent to a place
unfoldable pub in_target : Example → Letter → Bool
in_target x (letter target value) = in_pool (state x) target

unfoldable pub was_sent : Example → ℕ → Message → Bool
was_sent x t m = is_letter (sent (history_at (state x) m.sender) m.count) t m.value

was_sent_lem : (x : Example) (t : ℕ) (m : Message) → was_sent x t m ≡ true → SentTo (state x) t m
unfolding was_sent SentTo
was_sent_lem x t m e = is_letter_lem (sent (history_at (state x) m.sender) m.count) t m.value e

-- a spawn stands first at place 0
unfoldable pub is_first : ℕ → ℕ → Entry → Bool
is_first p i e = if_some (λ q. eqb p 0 && eqb i 0) (as_spawn e.kind)

first_alone : (x : Example) → each_entry x is_first ≡ true → (q p i : ℕ) → SpawnedBy (state x) q p i → (p ≡ 0) × (i ≡ 0)
unfolding is_first
first_alone x t q p i b =
    let r = if_some_lem (λ (q : ℕ). eqb p 0 && eqb i 0) (at_entry x is_first t p i b.stands) b.spawns in
    (eqb-true p 0 (and_left (eqb p 0) (eqb i 0) r), eqb-true i 0 (and_right (eqb p 0) (eqb i 0) r))

unfoldable pub test : Example → Clause → Bool
test x sizes_pass = good_sizes x.limits
test x module_passes = is_none (check_module x.code)
test x place_0 = in_pool (state x) 0
test x pool_ends = leb (length x.places) x.limits.places
test x no_queue_elsewhere = each x (λ p y. is_process y.process || is_empty y.queue)
test x history_fits = each x (λ p y. leb (length (history_of y.process)) x.limits.entries)
test x controls = each x (λ p y. if_some (λ a. fitting x a.control) y.process)
test x controls_before = each_entry x (λ p i e. fitting x e.before)
test x check_numbers = each_entry x (λ p i e. if_some (λ number. leb number 255) (as_check e.kind))
test x sends_said = each_entry x (λ p i e. if_some (saying (work x.code e.before)) (as_send e.kind))
test x born = each x (born_test x)
test x born_once = each_entry x is_first
test x place_0_unborn = each_entry x (λ p i e. if_some (λ q. not (eqb q 0)) (as_spawn e.kind))
test x children_in_pool = each_entry x (λ p i e. if_some (in_pool (state x)) (as_spawn e.kind))
test x targets_in_pool = each_entry x (λ p i e. if_some (in_target x) (as_send e.kind))
test x once = each x (λ p y. distinct (y.queue ++ taken (history_of y.process)))
test x nothing_else = each x (λ t y. every_message (was_sent x t) (y.queue ++ taken (history_of y.process)))
test x prefixes = each x (λ p y. flows_on (history_of y.process) y.queue)

past_last : (places : List Place) (p : ℕ) → length places ≤ p → place_at places p ≡ nobody
unfolding place_at
past_last [] p h = refl
past_last (x ∷ places) zero h = absurd (omega arith)
past_last (x ∷ places) (suc p) h = past_last places p (omega arith)

pub holds : (x : Example) (c : Clause) → test x c ≡ true → Holds (state x) c
unfolding Holds test born_test state in_pool history_at is_process is_empty history_of if_some taken distinct every_message flows_on in_target
holds x sizes_pass t = t
holds x module_passes t = is_none_lem (check_module x.code) t
holds x place_0 t = t
holds x pool_ends t = λ p h. ap (λ (y : Place). is_process y.process) (past_last x.places p (let z = leb-true (length x.places) x.limits.places t in omega arith))
holds x no_queue_elsewhere t = λ p n.
    let r = at_place x (λ p y. is_process y.process || is_empty y.queue) t (λ p. refl) p in
    elim (or_true (is_process (place_at x.places p).process) (is_empty (place_at x.places p).queue) r) [ inl live ↦ true_not_false live n | inr e ↦ is_empty_lem (place_at x.places p).queue e ]
holds x history_fits t = λ p. leb-true _ _ (at_place x (λ p y. leb (length (history_of y.process)) x.limits.entries) t (λ p. leb_of 0 x.limits.entries (omega arith)) p)
holds x controls t = λ p a e. fits x a.control (if_some_lem (λ (a : Process). fitting x a.control) (at_place x (λ p y. if_some (λ a. fitting x a.control) y.process) t (λ p. refl) p) e)
holds x controls_before t = λ p i e stands. fits x e.before (at_entry x (λ p i e. fitting x e.before) t p i stands)
holds x check_numbers t = λ p i number e stands is. leb-true number 255 (if_some_lem (λ number. leb number 255) (at_entry x (λ p i e. if_some (λ number. leb number 255) (as_check e.kind)) t p i stands) is)
holds x sends_said t = λ p i target value e stands is.
    let (next, w) = says (work x.code e.before) target value (if_some_lem (saying (work x.code e.before)) (at_entry x (λ p i e. if_some (saying (work x.code e.before)) (as_send e.kind)) t p i stands) is) in
    record { next = next; sends = w }
holds x born t = λ q live n. born_by x q live n (at_place x (born_test x) t (λ p. refl) q)
holds x born_once t = λ q p i p' i' b b'.
    let (a, c) = first_alone x t q p i b in
    let (a', c') = first_alone x t q p' i' b' in
    (a ∙ sym a', c ∙ sym c')
holds x place_0_unborn t = λ p i b. true_not_false (if_some_lem (λ q. not (eqb q 0)) (at_entry x (λ p i e. if_some (λ q. not (eqb q 0)) (as_spawn e.kind)) t p i b.stands) b.spawns) refl
holds x children_in_pool t = λ q p i b. if_some_lem (in_pool (state x)) (at_entry x (λ p i e. if_some (in_pool (state x)) (as_spawn e.kind)) t p i b.stands) b.spawns
holds x targets_in_pool t = λ p k target value e. every_send (in_target x) (history_at (state x) p) k (at_history x (λ p i e. if_some (in_target x) (as_send e.kind)) t p) e
holds x once t = at_place x (λ p y. distinct (y.queue ++ taken (history_of y.process))) t (λ p. refl)
holds x nothing_else t = λ p. every_message_lem (SentTo (state x) p) (was_sent x p) (was_sent_lem x p) _ (at_place x (λ t y. every_message (was_sent x t) (y.queue ++ taken (history_of y.process))) t (λ p. refl) p)
holds x prefixes t = λ p. flows_on_lem _ _ (at_place x (λ p y. flows_on (history_of y.process) y.queue) t (λ p. refl) p)

-- all of this under one name
unfoldable pub tested : ℕ
unfolding every_from each every_entry each_entry every_message if_some fitting same_letter saying is_letter is_message begins flowing flows_on is_none is_empty is_this spawns_this born_test in_target was_sent is_first test Holds place_at state distinct SentTo All Flows good_control keeps_rules module_arities control_shape opened
tested = 0
