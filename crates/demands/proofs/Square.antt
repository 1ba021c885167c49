-- Two independent accepted commands commute.
use Prim.Native.Nat.{ℕ}
use mathlib.Core.Path.{◌≡◌, refl, sym, ◌∙◌, ap, fun_ext}
use mathlib.Core.Logic.{◌⊎◌, inl, inr}
use mathlib.Core.Option.{Option, none, some}
use mathlib.Core.List.{List, []}
use Rattle.lists.specs.Tables.{put}
use Rattle.lists.proofs.Tests.{none_not_some}
use Rattle.rules.specs.State.{letter, Taking, Kind, as_send, as_rec, as_spawn, State, history_at}
use Rattle.rules.specs.Flight.{sent, taken}
use Rattle.rules.specs.Load.{new_process}
use Rattle.rules.specs.Commands.{Deed, makes, undoes, delivers, undelivers, Beside, nothing, own_queue, other, Move, turn, post, set_process, set_queue, set_beside, apply, pick}
use Rattle.rules.specs.Rules.{InFlight}
use Rattle.rules.specs.Independent.{Apart, actor, mailbox, acts_at, if_rec, receiver, spawns_into, unspawns, Unsends, Crossed, IndependentDeeds}
use Rattle.demands.proofs.Does.{Makes, alone, by_send, by_receive, by_spawn, Undoes, undo_alone, undo_send, undo_receive, undo_spawn, Does, forward, backward, sched, unsched}
use Rattle.demands.proofs.Messages.{any_none}
use Rattle.demands.proofs.Frame.{work_after, alone_after, state_path, same_module, same_sizes, turned, keep_process, keep_queue, in_pool_lem, history_of_lem}
use Rattle.demands.proofs.Deeds.{target, target_of, unspawning}
use Rattle.demands.proofs.Questions.{Came, flight_lives, flight_fresh, flight_of, at?, actor_live, unspawns_live, spawns_free, stays_live, stays_free, own, live_spawns, free_acts, free_unspawns, came_was, sent_stays, sent_was, left_stays}

-- What no state that is reached breaks: no send to a place whose spawn is undone, and no place whose spawn is undone twice.
pub record Calm (d e : Deed) : Type 0 where
  pub aim : Apart (unspawns d) (target e)
  pub aimed : Apart (target d) (unspawns e)
  pub unspawn_once : Apart (unspawns d) (unspawns e)

-- ---- what a deed's places say of one another
pub apart_sym : (a b : Option ℕ) → Apart a b → Apart b a
unfolding Apart
apart_sym none none h = tt
apart_sym none (some b) h = tt
apart_sym (some a) none h = tt
apart_sym (some a) (some b) h = λ e. h (sym e)

apart_if_rec : (p : ℕ) (t : Option Taking) (o : Option ℕ) → Apart (some p) o → Apart (if_rec p t) o
unfolding Apart if_rec
apart_if_rec p none o a = tt
apart_if_rec p (some t) o a = a

pub receiver_apart : (d : Deed) (o : Option ℕ) → Apart (actor d) o → Apart (receiver d) o
unfolding Apart actor receiver
receiver_apart (makes p kind) o a = apart_if_rec p _ o a
receiver_apart (undoes p count kind) o a = apart_if_rec p _ o a
receiver_apart (delivers s k t) o a = tt
receiver_apart (undelivers t) o a = tt

pub actor_apart : (d : Deed) (o : Option ℕ) → Apart (acts_at d) o → Apart (actor d) o
unfolding Apart actor acts_at
actor_apart (makes p kind) o a = a
actor_apart (undoes p count kind) o a = a
actor_apart (delivers s k t) o a = tt
actor_apart (undelivers t) o a = tt

pub mailbox_apart : (d : Deed) (o : Option ℕ) → Apart (acts_at d) o → Apart (mailbox d) o
unfolding Apart mailbox acts_at
mailbox_apart (makes p kind) o a = tt
mailbox_apart (undoes p count kind) o a = tt
mailbox_apart (delivers s k t) o a = a
mailbox_apart (undelivers t) o a = a

acts_of_actor : (d : Deed) {x : ℕ} → actor d ≡ some x → acts_at d ≡ some x
unfolding actor acts_at
acts_of_actor (makes p kind) e = e
acts_of_actor (undoes p count kind) e = e
acts_of_actor (delivers s k t) e = none_not_some e
acts_of_actor (undelivers t) e = none_not_some e

of_if_rec : (p : ℕ) (t : Option Taking) {x : ℕ} → if_rec p t ≡ some x → some p ≡ some x
unfolding if_rec
of_if_rec p none e = none_not_some e
of_if_rec p (some t) e = e

actor_of_receiver : (d : Deed) {x : ℕ} → receiver d ≡ some x → actor d ≡ some x
unfolding receiver actor
actor_of_receiver (makes p kind) e = of_if_rec p _ e
actor_of_receiver (undoes p count kind) e = of_if_rec p _ e
actor_of_receiver (delivers s k t) e = none_not_some e
actor_of_receiver (undelivers t) e = none_not_some e

unsends_actor : (d : Deed) (s k : ℕ) → Apart (actor d) (some s) → ¬ Unsends s k d
unfolding Apart actor Unsends
unsends_actor (makes p kind) s k a = λ x. x
unsends_actor (undoes p count kind) s k a = λ x. a (sym x.0)
unsends_actor (delivers _ _ t) s k a = λ x. x
unsends_actor (undelivers t) s k a = λ x. x

pub independent_sym : {d e : Deed} → IndependentDeeds d e → IndependentDeeds e d
independent_sym {d} {e} f = record {
  actors = apart_sym (actor d) (actor e) f.actors;
  mailboxes = apart_sym (mailbox d) (mailbox e) f.mailboxes;
  mail_receive = apart_sym (receiver d) (mailbox e) f.receive_mail;
  receive_mail = apart_sym (mailbox d) (receiver e) f.mail_receive;
  unspawn_acts = apart_sym (acts_at d) (unspawns e) f.acts_unspawn;
  acts_unspawn = apart_sym (unspawns d) (acts_at e) f.unspawn_acts;
  delivery_unsend = f.unsend_delivery;
  unsend_delivery = f.delivery_unsend;
  spawns = apart_sym (spawns_into d) (spawns_into e) f.spawns;
}

pub calm_sym : {d e : Deed} → Calm d e → Calm e d
calm_sym {d} {e} g = record {
  aim = apart_sym (target d) (unspawns e) g.aimed;
  aimed = apart_sym (unspawns d) (target e) g.aim;
  unspawn_once = apart_sym (unspawns d) (unspawns e) g.unspawn_once;
}

-- ---- what is accepted stays accepted
-- a place with a message in flight to it keeps its spawn
flight_unspawns : {st : State} {d : Deed} {w : Move} {s k t : ℕ} {v : List ℕ} → Does st d w → InFlight st s k t v → Apart (unspawns d) (some t)
flight_unspawns {d} {s} {k} {t} {v} a f = elim (at? t (unspawns d)) [ inl e ↦ absurd ((unspawning a e).quiet s k v f) | inr n ↦ n ]

module _ {s : State} {d : Deed} {w : Move} (a : Does s d w) where
  pub flight_stays : {sender k t : ℕ} {v : List ℕ} → ¬ Unsends sender k d → ¬ (d ≡ delivers sender k t) → InFlight s sender k t v → InFlight (apply w s) sender k t v
  flight_stays {sender} {k} {t} x y f =
      flight_of (apply w s) sender k t (sent_stays k (turned sender a) x f.out) (stays_live t a (flight_lives f) (flight_unspawns a f)) (λ c. go (came_was a c))
    where
      go : Came s sender k t ⊎ (d ≡ delivers sender k t) → ⊥
      go (inl c) = flight_fresh f c
      go (inr e) = y e

  makes_stays : {p : ℕ} {control next : List ℕ} {kind : Kind} {beside : Beside} → IndependentDeeds d (makes p kind) → Calm d (makes p kind)
      → Makes s p control kind next beside → Makes (apply w s) p control kind next beside
  unfolding actor receiver mailbox spawns_into target target_of as_send as_spawn as_rec if_rec
  makes_stays f g (alone j) = alone (alone_after s w j)
  makes_stays {control} f g (by_send {target = t} e i) = by_send (work_after s w control ∙ e) (stays_live t a i g.aim)
  makes_stays {p} {control} f g (by_receive {takes} e i) =
      by_receive (work_after s w control ∙ e) (ap (pick takes) (keep_queue p a f.mail_receive (receiver_apart d (some p) f.actors)) ∙ i)
  makes_stays {control} f g (by_spawn {f = q} e below n) = by_spawn {f = q} (work_after s w control ∙ e) (rw (same_sizes w s) below) (stays_free a q n f.spawns)

  quiet_stays : {q : ℕ} {first : List ℕ} → s.processes q ≡ some (new_process first) → s.queues q ≡ [] → Apart (target d) (some q)
      → ((sender k : ℕ) (value : List ℕ) → ¬ InFlight s sender k q value) → (sender k : ℕ) (value : List ℕ) → ¬ InFlight (apply w s) sender k q value
  unfolding taken Apart
  quiet_stays {q} i j g n sender k v f = go (sent_was k (turned sender a) f.out)
    where
      came : Came s sender k q → ⊥
      came (inl h) = any_none h j
      came (inr h) = any_none h (ap taken (history_of_lem s q i))

      go : (sent (history_at s sender) k ≡ some (letter q v)) ⊎ (target d ≡ some q) → ⊥
      go (inl e) = n sender k v (flight_of s sender k q e (in_pool_lem s q i) came)
      go (inr e) = (rw e at g) refl

  undoes_stays : {p n : ℕ} {kind : Kind} {beside : Beside} → IndependentDeeds d (undoes p n kind) → Calm d (undoes p n kind)
      → Undoes s p n kind beside → Undoes (apply w s) p n kind beside
  unfolding actor receiver mailbox acts_at spawns_into unspawns target as_send as_spawn as_rec if_rec Crossed Unsends
  undoes_stays f g (undo_alone i) = undo_alone i
  undoes_stays {p} {n} f g (undo_send {target = t} h) =
      undo_send (flight_stays (unsends_actor d p n f.actors) (λ e. (rw e at f.delivery_unsend) (refl, refl, λ q. none_not_some (sym q))) h)
  undoes_stays {p} f g (undo_receive i) = undo_receive (keep_queue p a f.mail_receive (receiver_apart d (some p) f.actors) ∙ i)
  undoes_stays f g (undo_spawn {q} i j n) =
      let off-acts = actor_apart d (some q) f.acts_unspawn in
      undo_spawn (own a i off-acts g.unspawn_once) (keep_queue q a (mailbox_apart d (some q) f.acts_unspawn) (receiver_apart d (some q) off-acts) ∙ j) (quiet_stays i j g.aimed n)

  pub stays : {e : Deed} {u : Move} → Does s e u → IndependentDeeds d e → Calm d e → Does (apply w s) e u
  unfolding actor receiver mailbox acts_at unspawns Apart Crossed
  stays (forward i mk r h) f g = forward (own a i f.actors f.unspawn_acts) (makes_stays f g mk) (rw (same_sizes w s) r) (rw (same_sizes w s) h)
  stays (backward i un) f g = backward (own a i f.actors f.unspawn_acts) (undoes_stays f g un)
  stays (sched {t} fl i) f g = sched (flight_stays f.unsend_delivery (λ e. (rw e at f.mailboxes) refl) fl) (keep_queue t a f.mailboxes f.receive_mail ∙ i)
  stays (unsched {t} m {queue} n i h) f g =
      unsched m {queue = queue} (stays_live t a n f.unspawn_acts) (keep_queue t a f.mailboxes f.receive_mail ∙ i) (rw (left_stays (turned t a) f.receive_mail) h)

-- ---- the two writes commute
abbrev OffProcess : Deed → ℕ → Type 0
OffProcess d x = Apart (actor d) (some x) × Apart (spawns_into d) (some x) × Apart (unspawns d) (some x)

abbrev OffQueue : Deed → ℕ → Type 0
OffQueue d x = Apart (mailbox d) (some x) × Apart (receiver d) (some x)

-- what stands at a place after a move depends on that place alone
on_process : (w : Move) (s t : State) (x : ℕ) → s.processes x ≡ t.processes x → (apply w s).processes x ≡ (apply w t).processes x
unfolding apply set_beside set_process set_queue put
on_process (turn p new nothing) s t x e = rw e
on_process (turn p new (own_queue queue)) s t x e = rw e
on_process (turn p new (other q o)) s t x e = rw e
on_process (post p queue) s t x e = e

on_queue : (w : Move) (s t : State) (x : ℕ) → s.queues x ≡ t.queues x → (apply w s).queues x ≡ (apply w t).queues x
unfolding apply set_beside set_process set_queue put
on_queue (turn p new nothing) s t x e = e
on_queue (turn p new (own_queue queue)) s t x e = rw e
on_queue (turn p new (other q o)) s t x e = e
on_queue (post p queue) s t x e = rw e

-- o is at x and apart from o', so o' is apart from x
off : {o : Option ℕ} (o' : Option ℕ) {x : ℕ} → o ≡ some x → Apart o o' → Apart o' (some x)
off o' {x} e h = apart_sym (some x) o' (rw e at h)

module _ {s : State} {d e : Deed} {w u : Move} (a : Does s d w) (b : Does s e u) (f : IndependentDeeds d e) (g : Calm d e) where
  -- no place is written by both
  off_process : (x : ℕ) → OffProcess d x ⊎ OffProcess e x
  off_process x = go (at? x (actor d)) (at? x (spawns_into d)) (at? x (unspawns d))
    where
      go : (actor d ≡ some x) ⊎ Apart (actor d) (some x) → (spawns_into d ≡ some x) ⊎ Apart (spawns_into d) (some x) → (unspawns d ≡ some x) ⊎ Apart (unspawns d) (some x)
          → OffProcess d x ⊎ OffProcess e x
      go (inl i) _ _ = inr (off (actor e) i f.actors, live_spawns b x (actor_live a i), off (unspawns e) (acts_of_actor d i) f.acts_unspawn)
      go (inr _) (inl i) _ = inr (free_acts b x (spawns_free a i), off (spawns_into e) i f.spawns, free_unspawns b x (spawns_free a i))
      go (inr _) (inr _) (inl i) = inr (actor_apart e (some x) (off (acts_at e) i f.unspawn_acts), live_spawns b x (unspawns_live a i), off (unspawns e) i g.unspawn_once)
      go (inr i) (inr j) (inr k) = inl (i, j, k)

  off_queue : (x : ℕ) → OffQueue d x ⊎ OffQueue e x
  off_queue x = go (at? x (mailbox d)) (at? x (receiver d))
    where
      go : (mailbox d ≡ some x) ⊎ Apart (mailbox d) (some x) → (receiver d ≡ some x) ⊎ Apart (receiver d) (some x) → OffQueue d x ⊎ OffQueue e x
      go (inl i) _ = inr (off (mailbox e) i f.mailboxes, off (receiver e) i f.mail_receive)
      go (inr _) (inl i) = inr (off (mailbox e) i f.receive_mail, receiver_apart e (some x) (off (actor e) (actor_of_receiver d i) f.actors))
      go (inr i) (inr j) = inl (i, j)

  pub square : Does (apply w s) e u × Does (apply u s) d w × (apply u (apply w s) ≡ apply w (apply u s))
  square = (b', a', state_path same_modules same_size (fun_ext processes) (fun_ext queues))
    where
      b' : Does (apply w s) e u
      b' = stays a b f g

      a' : Does (apply u s) d w
      a' = stays b a (independent_sym f) (calm_sym g)

      same_modules : (apply u (apply w s)).module' ≡ (apply w (apply u s)).module'
      same_modules = same_module u (apply w s) ∙ same_module w s ∙ sym (same_module w (apply u s) ∙ same_module u s)

      same_size : (apply u (apply w s)).sizes ≡ (apply w (apply u s)).sizes
      same_size = same_sizes u (apply w s) ∙ same_sizes w s ∙ sym (same_sizes w (apply u s) ∙ same_sizes u s)

      processes : (x : ℕ) → (apply u (apply w s)).processes x ≡ (apply w (apply u s)).processes x
      processes x = elim (off_process x) [
        | inl h ↦ on_process u (apply w s) s x (keep_process x a h.0 h.1 h.2) ∙ sym (keep_process x a' h.0 h.1 h.2)
        | inr h ↦ keep_process x b' h.0 h.1 h.2 ∙ sym (on_process w (apply u s) s x (keep_process x b h.0 h.1 h.2))
      ]

      queues : (x : ℕ) → (apply u (apply w s)).queues x ≡ (apply w (apply u s)).queues x
      queues x = elim (off_queue x) [
        | inl h ↦ on_queue u (apply w s) s x (keep_queue x a h.0 h.1) ∙ sym (keep_queue x a' h.0 h.1)
        | inr h ↦ keep_queue x b' h.0 h.1 ∙ sym (on_queue w (apply u s) s x (keep_queue x b h.0 h.1))
      ]
