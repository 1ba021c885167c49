-- What the rules ask of a state, before and after another accepted command.
use Prim.Native.Nat.{ℕ}
use mathlib.Core.Path.{◌≡◌, refl, sym, ◌∙◌, ap}
use mathlib.Core.Logic.{◌⊎◌, inl, inr}
use mathlib.Core.Bool.{true, false, not}
use mathlib.Core.Option.{Option, none, some}
use mathlib.Core.List.{List, [], ◌∷◌, ◌++◌}
use native.Mathlib.Decide.{ℕ_discrete}
use Rattle.lists.specs.Lists.{any}
use Rattle.lists.specs.Tables.{put}
use Rattle.lists.proofs.Tables.{put_same, put_other}
use Rattle.lists.proofs.Tests.{true_not_false, true_or_false, none_not_some, some_injective, and_left, and_right, and_of, not_true, or_true, or_left, or_right}
use Rattle.rules.specs.State.{Message, Letter, letter, Taking, taking, Kind, as_send, as_rec, as_spawn, Entry, Process, State, history_of, history_at, is_process, in_pool, is_named}
use Rattle.rules.specs.Flight.{sends, sent, also_taken, taken, left, has_come, flies}
use Rattle.rules.specs.Commands.{Deed, undoes, delivers, Beside, Move, set_process, set_queue, set_beside, apply, entry_with}
use Rattle.rules.specs.Rules.{message, InFlight}
use Rattle.rules.specs.Independent.{Apart, actor, if_rec, receiver, spawns_into, unspawns, Unsends}
use Rattle.rules.proofs.Oldest.{pick_is}
use Rattle.demands.proofs.Does.{Makes, alone, by_send, by_receive, by_spawn, undo_alone, undo_send, undo_receive, undo_spawn, Does, forward, backward, sched, unsched}
use Rattle.demands.proofs.Views.{made_alone, alone_rec}
use Rattle.demands.proofs.Messages.{Any, here, any_append, any_left, any_more, any_middle, any_less, any_one, Named, find_named, named_found}
use Rattle.demands.proofs.Histories.{letter_older, letter_which, sent_below, below_not_same, left_older, taken_older, taken_more, taken_which}
use Rattle.demands.proofs.Deeds.{target_of, target, unspawning, spawning}
use Rattle.demands.proofs.Frame.{Turned, same, grown, shrunk, turned, keep_process, in_pool_lem}

-- ---- messages in flight
-- a message with the property has come to t
abbrev pub Among : (Message → Type 0) → State → ℕ → Type 0
Among P s t = Any P (s.queues t) ⊎ Any P (taken (history_at s t))

abbrev pub Came : State → ℕ → ℕ → ℕ → Type 0
Came st s k t = Among (Named s k) st t

pub has_come_lem : (st : State) (s k t : ℕ) → has_come st s k t ≡ true → Came st s k t
unfolding has_come
has_come_lem st s k t e = go (or_true (any (is_named s k) (st.queues t)) (any (is_named s k) (taken (history_at st t))) e)
  where
    go : (any (is_named s k) (st.queues t) ≡ true) ⊎ (any (is_named s k) (taken (history_at st t)) ≡ true) → Came st s k t
    go (inl i) = inl (find_named s k (st.queues t) i)
    go (inr i) = inr (find_named s k (taken (history_at st t)) i)

pub came_has : (st : State) (s k t : ℕ) → Came st s k t → has_come st s k t ≡ true
unfolding has_come
came_has st s k t (inl x) = or_left (any (is_named s k) (taken (history_at st t))) (named_found x)
came_has st s k t (inr x) = or_right (any (is_named s k) (st.queues t)) (named_found x)

pub flies_in_pool : (st : State) (s k t : ℕ) → flies st s k t ≡ true → in_pool st t ≡ true
unfolding flies
flies_in_pool st s k t e = and_left (in_pool st t) (not (has_come st s k t)) e

pub flies_fresh : (st : State) (s k t : ℕ) → flies st s k t ≡ true → ¬ Came st s k t
unfolding flies
flies_fresh st s k t e c = true_not_false (came_has st s k t c) (not_true (has_come st s k t) (and_right (in_pool st t) (not (has_come st s k t)) e))

pub flies_of : (st : State) (s k t : ℕ) → in_pool st t ≡ true → ¬ Came st s k t → flies st s k t ≡ true
unfolding flies
flies_of st s k t live fresh = and_of live (ap not fresh_test)
  where
    fresh_test : has_come st s k t ≡ false
    fresh_test = elim (true_or_false (has_come st s k t)) [ inl e ↦ absurd (fresh (has_come_lem st s k t e)) | inr e ↦ e ]

pub flight_lives : {st : State} {s k t : ℕ} {value : List ℕ} → InFlight st s k t value → in_pool st t ≡ true
flight_lives {st} {s} {k} {t} f = flies_in_pool st s k t f.up

pub flight_fresh : {st : State} {s k t : ℕ} {value : List ℕ} → InFlight st s k t value → ¬ Came st s k t
flight_fresh {st} {s} {k} {t} f = flies_fresh st s k t f.up

pub flight_of : (st : State) (s k t : ℕ) {value : List ℕ} → sent (history_at st s) k ≡ some (letter t value) → in_pool st t ≡ true → ¬ Came st s k t → InFlight st s k t value
flight_of st s k t out live fresh = record { out = out; up = flies_of st s k t live fresh }

-- ---- histories
-- a send stands as long as it is not undone
pub sent_stays : {s : State} {d : Deed} {x : ℕ} (k : ℕ) {h h' : List Entry} {l : Letter} → Turned s d x h h' → ¬ Unsends x k d → sent h k ≡ some l → sent h' k ≡ some l
unfolding sent Unsends
sent_stays k (same i) n e = rw i e
sent_stays k {h} (grown kind c i _ _ _) n e = rw i (letter_older (as_send kind) (sends h) k (sent h k) (inr (λ z. below_not_same (sent_below h k e) (sym z))) ∙ e)
sent_stays {x} k {h} {h'} (shrunk kind c i u) n e = sym (letter_older (as_send kind) (sends h') k (sent h' k) (off (as_send kind) refl (rw u at n))) ∙ (rw i at e)
  where
    off : (o : Option Letter) → as_send kind ≡ o → ¬ Unsends x k (undoes x (sends h') kind) → (o ≡ none) ⊎ ¬ (sends h' ≡ k)
    off none j n = inl refl
    off (some l) j n = inr (λ z. n (refl, sym z, λ q. none_not_some (sym q ∙ j)))

-- a send that stands was there before, or is made now
pub sent_was : {s : State} {d : Deed} {x t : ℕ} (k : ℕ) {h h' : List Entry} {v : List ℕ} → Turned s d x h h' → sent h' k ≡ some (letter t v) → (sent h k ≡ some (letter t v)) ⊎ (target d ≡ some t)
unfolding sent target target_of
sent_was k {h} (same i) e = inl (rw i at e)
sent_was {d} {x} {t} k {h} {v = v} (grown kind c i u _ _) e = go (letter_which (as_send kind) (sends h) k (sent h k) (rw i at e))
  where
    go : (sent h k ≡ some (letter t v)) ⊎ ((as_send kind ≡ some (letter t v)) × (sends h ≡ k)) → (sent h k ≡ some (letter t v)) ⊎ (target d ≡ some t)
    go (inl j) = inl j
    go (inr j) = inr (rw u (ap target_of j.0))
sent_was k {h} {h'} (shrunk kind c i u) e = inl (rw i (letter_older (as_send kind) (sends h') k (sent h' k) (inr (λ z. below_not_same (sent_below h' k e) (sym z))) ∙ e))

pub no_rec : (kind : Kind) (x : ℕ) → Apart (if_rec x (as_rec kind)) (some x) → as_rec kind ≡ none
unfolding Apart if_rec
no_rec kind x a = go (as_rec kind) refl a
  where
    go : (o : Option Taking) → as_rec kind ≡ o → Apart (if_rec x o) (some x) → as_rec kind ≡ none
    go none i a = i
    go (some t) i a = absurd (a refl)

-- what only recs change stays, unless one is made or undone
recs_stay : {A : Type 0} (f : List Entry → A) → ((e : Entry) (h : List Entry) → as_rec e.kind ≡ none → f (e ∷ h) ≡ f h)
    → {s : State} {d : Deed} {x : ℕ} {h h' : List Entry} → Turned s d x h h' → Apart (receiver d) (some x) → f h' ≡ f h
unfolding receiver
recs_stay f only (same i) a = ap f i
recs_stay f only {x} {h} (grown kind c i u _ _) a = ap f i ∙ only (entry_with kind c) h (no_rec kind x (rw u at a))
recs_stay f only {x} {h'} (shrunk kind c i u) a = sym (ap f i ∙ only (entry_with kind c) h' (no_rec kind x (rw u at a)))

-- so does what the newest rec left, ..
pub left_stays : {s : State} {d : Deed} {x : ℕ} {h h' : List Entry} → Turned s d x h h' → Apart (receiver d) (some x) → left h' ≡ left h
unfolding left
left_stays t a = recs_stay left (λ e h i. left_older (as_rec e.kind) (left h) i) t a

-- .. and what the recs took
pub taken_stays : {s : State} {d : Deed} {x : ℕ} {h h' : List Entry} → Turned s d x h h' → Apart (receiver d) (some x) → taken h' ≡ taken h
unfolding taken
taken_stays t a = recs_stay taken (λ e h i. taken_older (as_rec e.kind) (taken h) i) t a

-- the message of a rec stands in the queue
rec_takes : {P : Message → Type 0} {s : State} {x : ℕ} {control next : List ℕ} {kind : Kind} {beside : Beside} {a b : List Message} {m : Message} → Makes s x control kind next beside
    → as_rec kind ≡ some (taking a m b) → P m → Any P (s.queues x)
unfolding as_rec
rec_takes (alone j) e h = none_not_some (sym (alone_rec (made_alone j)) ∙ e)
rec_takes (by_send _ _) e h = none_not_some e
rec_takes {P} {s} {x} {m} (by_receive {takes} {m = n} {older} {newer} _ j) e h = let z : n ≡ m = cc in rw (pick_is takes (s.queues x) j) (any_middle older n newer (rw z h))
rec_takes (by_spawn _ _ _) e h = none_not_some e

-- a message taken was taken before, or is taken now, from the queue
pub taken_was : {s : State} {d : Deed} {x : ℕ} {P : Message → Type 0} {h h' : List Entry} → Turned s d x h h' → Any P (taken h') → Any P (taken h) ⊎ Any P (s.queues x)
unfolding taken
taken_was (same i) e = inl (rw i at e)
taken_was {s} {d} {x} {P} {h} (grown kind c i u _ mk) e = go (taken_which (as_rec kind) (taken h) (rw i at e))
  where
    go : Any P (taken h) ⊎ ((a : List Message) × (m : Message) × (b : List Message) × (as_rec kind ≡ some (taking a m b)) × P m) → Any P (taken h) ⊎ Any P (s.queues x)
    go (inl y) = inl y
    go (inr y) = inr (rec_takes mk y.3 y.4)
taken_was {P} {h'} (shrunk kind c i u) e = inl (rw i (taken_more (as_rec kind) (taken h') e))

-- ---- places
pub at? : (x : ℕ) (o : Option ℕ) → (o ≡ some x) ⊎ Apart o (some x)
unfolding Apart
at? x none = inr tt
at? x (some y) = elim (ℕ_discrete y x) [ yes e ↦ inl (ap some e) | no n ↦ inr n ]

pub actor_live : {s : State} {d : Deed} {w : Move} {x : ℕ} → Does s d w → actor d ≡ some x → in_pool s x ≡ true
unfolding actor
actor_live {s} {x} (forward i _ _ _) e = in_pool_lem s x (ap s.processes (sym (some_injective e)) ∙ i)
actor_live {s} {x} (backward i _) e = in_pool_lem s x (ap s.processes (sym (some_injective e)) ∙ i)
actor_live (sched _ _) e = none_not_some e
actor_live (unsched _ _ _ _) e = none_not_some e

pub unspawns_live : {s : State} {d : Deed} {w : Move} {x : ℕ} → Does s d w → unspawns d ≡ some x → in_pool s x ≡ true
unspawns_live {s} {x} a e = in_pool_lem s x (unspawning a e).new

pub spawns_free : {s : State} {d : Deed} {w : Move} {x : ℕ} → Does s d w → spawns_into d ≡ some x → in_pool s x ≡ false
spawns_free a e = (spawning a e).free

live_put : {p x : ℕ} (a : Process) (f : ℕ → Option Process) → Dec (p ≡ x) → is_process (f x) ≡ true → is_process (put p (some a) f x) ≡ true
unfolding is_process
live_put {p} {x} a f (yes e) i = rw (put_same p (some a) f x e) refl
live_put a f (no n) i = rw put_other i

pub stays_live : {s : State} {d : Deed} {w : Move} (x : ℕ) → Does s d w → in_pool s x ≡ true → Apart (unspawns d) (some x) → in_pool (apply w s) x ≡ true
unfolding apply set_beside set_process set_queue in_pool Apart unspawns as_spawn
stays_live {s} x (forward {p} _ (alone _) _ _) i f = live_put _ s.processes (ℕ_discrete p x) i
stays_live {s} x (forward {p} _ (by_send _ _) _ _) i f = live_put _ s.processes (ℕ_discrete p x) i
stays_live {s} x (forward {p} _ (by_receive _ _) _ _) i f = live_put _ s.processes (ℕ_discrete p x) i
stays_live {s} x (forward {p} _ (by_spawn {f = q} _ _ _) _ _) i f = live_put _ _ (ℕ_discrete q x) (live_put _ s.processes (ℕ_discrete p x) i)
stays_live {s} x (backward {p} _ (undo_alone _)) i f = live_put _ s.processes (ℕ_discrete p x) i
stays_live {s} x (backward {p} _ (undo_send _)) i f = live_put _ s.processes (ℕ_discrete p x) i
stays_live {s} x (backward {p} _ (undo_receive _)) i f = live_put _ s.processes (ℕ_discrete p x) i
stays_live {s} x (backward {p} _ (undo_spawn {q} _ _ _)) i f = rw (put_other q) (live_put _ s.processes (ℕ_discrete p x) i)
stays_live x (sched _ _) i f = i
stays_live x (unsched _ _ _ _) i f = i

pub spawns_live : {s : State} {d : Deed} {w : Move} {x : ℕ} → Does s d w → spawns_into d ≡ some x → in_pool (apply w s) x ≡ true
spawns_live {s} {w} {x} a e = in_pool_lem (apply w s) x (spawning a e).new

-- ---- arrivals
-- d delivers to t a message with the property
pub record Posts (P : Message → Type 0) (st : State) (d : Deed) (t : ℕ) : Type 0 where
  pub s : ℕ
  pub k : ℕ
  pub v : List ℕ
  pub is : d ≡ delivers s k t
  pub flew : InFlight st s k t v
  pub good : P (message s k v)

module _ {P : Message → Type 0} where
  queue_put : {C : Type 0} {p t : ℕ} (b : List Message) (f : ℕ → List Message) → Dec (p ≡ t) → (p ≡ t → Any P b → C) → (Any P (f t) → C) → Any P (put p b f t) → C
  queue_put {p} {t} b f (yes e) y z h = y e (rw (put_same p b f t e) at h)
  queue_put {p} {t} b f (no n) y z h = z (rw (put_other p b f t n) at h)

  queue_was : {s : State} {d : Deed} {w : Move} {t : ℕ} → Does s d w → Any P ((apply w s).queues t) → Among P s t ⊎ Posts P s d t
  unfolding apply set_beside set_process set_queue history_at history_of taken also_taken as_rec
  queue_was (forward _ (alone _) _ _) h = inl (inl h)
  queue_was (forward _ (by_send _ _) _ _) h = inl (inl h)
  queue_was {s} {t} (forward {p} _ (by_receive {takes} {m} {older = a} {newer = b} _ i) _ _) h =
      queue_put _ s.queues (ℕ_discrete p t) (λ e x. inl (inl (rw (← e, pick_is takes (s.queues p) i) (any_more a m b x)))) (λ x. inl (inl x)) h
  queue_was (forward _ (by_spawn _ _ _) _ _) h = inl (inl h)
  queue_was (backward _ (undo_alone _)) h = inl (inl h)
  queue_was (backward _ (undo_send _)) h = inl (inl h)
  queue_was {s} {d} {t} (backward {p} i (undo_receive {m} {older = a} {newer = b} j)) h =
      queue_put (a ++ (m ∷ b)) s.queues (ℕ_discrete p t) (λ e x. inl (elim (any_less a b x) [ inl y ↦ inl (rw (← e, j) y) | inr n ↦ inr (rw (← e, i) (here n)) ])) (λ x. inl (inl x)) h
  queue_was (backward _ (undo_spawn _ _ _)) h = inl (inl h)
  queue_was {s} {t} (sched {sender} {k} {t = u} {value} {queue = b} f i) h =
      queue_put (b ++ (message sender k value ∷ [])) s.queues (ℕ_discrete u t) (λ e x. elim (any_append b x) [
        | inl y ↦ inl (inl (rw (← e, i) y))
        | inr y ↦ inr (record { s = sender; k = k; v = value; is = ap (delivers sender k) e; flew = rw (← e) f; good = any_one y })
      ]) (λ x. inl (inl x)) h
  queue_was {s} {t} (unsched {t = u} m {queue = b} _ i _) h = queue_put b s.queues (ℕ_discrete u t) (λ e x. inl (inl (rw (← e, i) (any_left _ x)))) (λ x. inl (inl x)) h

  pub among_was : {s : State} {d : Deed} {w : Move} {t : ℕ} → Does s d w → Among P (apply w s) t → Among P s t ⊎ Posts P s d t
  among_was a (inl h) = queue_was a h
  among_was {t} a (inr h) = elim (taken_was (turned t a) h) [ inl x ↦ inl (inr x) | inr x ↦ inl (inl x) ]

pub came_was : {st : State} {d : Deed} {w : Move} {s k t : ℕ} → Does st d w → Came (apply w st) s k t → Came st s k t ⊎ (d ≡ delivers s k t)
came_was {s} {k} {t} a h = elim (among_was a h) [ inl x ↦ inl x | inr x ↦ inr (x.is ∙ (let n = x.good.sender in let l = x.good.count in cc)) ]

-- ---- a live place is not spawned into, and a free one neither moves nor is freed
module _ {s : State} {d : Deed} {w : Move} (a : Does s d w) where
  pub live_spawns : (x : ℕ) → in_pool s x ≡ true → Apart (spawns_into d) (some x)
  live_spawns x i = elim (at? x (spawns_into d)) [ inl e ↦ true_not_false i (spawns_free a e) | inr n ↦ n ]

  pub free_acts : (x : ℕ) → in_pool s x ≡ false → Apart (actor d) (some x)
  free_acts x n = elim (at? x (actor d)) [ inl e ↦ true_not_false (actor_live a e) n | inr h ↦ h ]

  pub free_unspawns : (x : ℕ) → in_pool s x ≡ false → Apart (unspawns d) (some x)
  free_unspawns x n = elim (at? x (unspawns d)) [ inl e ↦ true_not_false (unspawns_live a e) n | inr h ↦ h ]

  pub own : {p : ℕ} {m : Process} → s.processes p ≡ some m → Apart (actor d) (some p) → Apart (unspawns d) (some p) → (apply w s).processes p ≡ some m
  own {p} i f g = keep_process p a f (live_spawns p (in_pool_lem s p i)) g ∙ i

  pub stays_free : (p : ℕ) → in_pool s p ≡ false → Apart (spawns_into d) (some p) → in_pool (apply w s) p ≡ false
  unfolding in_pool
  stays_free p i f = ap is_process (keep_process p a (free_acts p i) f (free_unspawns p i)) ∙ i
