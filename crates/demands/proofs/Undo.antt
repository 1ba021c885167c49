-- In every sound state: what was done can be undone, what was undelivered can be delivered again, and two undos are independent.
use Prim.Native.Nat.{ℕ, ◌<◌}
use mathlib.Core.Path.{◌≡◌, refl, sym, ◌∙◌, ap, fun_ext}
use mathlib.Core.Logic.{◌≢◌, ◌⊎◌, inl, inr}
use mathlib.Core.Bool.{true, false}
use mathlib.Core.Option.{Option, none, some}
use mathlib.Core.List.{List, [], ◌∷◌, ◌++◌, append_assoc}
use native.Mathlib.Decide.{ℕ_discrete}
use native.Mathlib.Omega.{arith}
use lib.ListN.{length, length-append}
use Rattle.lists.specs.Tables.{put}
use Rattle.lists.proofs.Tables.{put_same, put_other, put_back}
use Rattle.lists.proofs.Tests.{true_not_false, none_not_some}
use Rattle.rules.specs.State.{Message, letter, Kind, send, spawn, as_send, as_rec, as_spawn, Entry, State, history_of, history_at, in_pool}
use Rattle.rules.specs.Flight.{sends, sent, taken, left_or, left}
use Rattle.rules.specs.Commands.{Command, deliver, back, undeliver, Deed, makes, undoes, delivers, undelivers, Beside, nothing, Move, turn, post, set_process, set_queue, set_beside, apply, entry_with}
use Rattle.rules.specs.Rules.{process, message, InFlight, command_of}
use Rattle.rules.specs.Independent.{Apart, actor, mailbox, acts_at, if_rec, receiver, spawns_into, unspawns, Unsends, Crossed, IndependentDeeds}
use Rattle.rules.specs.Sound.{SentTo, Sound}
use Rattle.rules.proofs.Oldest.{pick_is}
use Rattle.demands.proofs.Does.{alone, by_send, by_receive, by_spawn, Undoes, undo_alone, undo_send, undo_receive, undo_spawn, Does, forward, backward, sched, unsched}
use Rattle.demands.proofs.Views.{made_alone, alone_rec, alone_spawn}
use Rattle.demands.proofs.Messages.{Any, any_left, any_right, any_middle, Named, once_of, once_out}
use Rattle.demands.proofs.Histories.{sent_below, below_not_same, letter_own}
use Rattle.demands.proofs.Frame.{state_path, turned, no_process_lem, in_pool_lem}
use Rattle.demands.proofs.Deeds.{target, target_of, new_is_other}
use Rattle.demands.proofs.Questions.{Came, flight_of, flight_lives, stays_live, came_was, sent_was}
use Rattle.demands.proofs.Square.{apart_sym, independent_sym}
use Rattle.demands.proofs.SoundFacts.{mail, mail_named, left_fits}

-- ---- two undos
unfoldable pub Backward : Deed → Type 0
Backward (makes p kind) = ⊥
Backward (undoes p count kind) = Unit {0}
Backward (delivers s k t) = ⊥
Backward (undelivers t) = Unit {0}

-- a place whose spawn can be undone has no entries and no queue
unspawned_idle : {s : State} {p n x : ℕ} {kind : Kind} {beside : Beside} {control : List ℕ} {e : Entry} {h : List Entry} → Undoes s p n kind beside
    → s.processes x ≡ some (process control (e ∷ h)) → Apart (as_spawn kind) (some x)
unfolding Apart as_spawn
unspawned_idle {x} (undo_alone a) i = rw (alone_spawn a) tt
unspawned_idle (undo_send _) i = tt
unspawned_idle (undo_receive _) i = tt
unspawned_idle {s} (undo_spawn j _ _) i = new_is_other s i j

unspawned_empty : {s : State} {p n : ℕ} (x : ℕ) {kind : Kind} {beside : Beside} → Undoes s p n kind beside → 0 < length (s.queues x) → Apart (as_spawn kind) (some x)
unfolding Apart as_spawn
unspawned_empty x (undo_alone a) i = rw (alone_spawn a) tt
unspawned_empty x (undo_send _) i = tt
unspawned_empty x (undo_receive _) i = tt
unspawned_empty {s} x (undo_spawn _ j _) i = λ z. omega (arith, ap length j, ap (λ v. length (s.queues v)) z)

-- a rec that can be undone left the queue as it is
undone_left : {s : State} {p : ℕ} (x : ℕ) {kind : Kind} {beside : Beside} {before control : List ℕ} {h : List Entry} → Undoes s p (sends h) kind beside
    → s.processes p ≡ some (process control (entry_with kind before ∷ h)) → length (left (history_at s x)) < length (s.queues x) → Apart (if_rec p (as_rec kind)) (some x)
unfolding Apart if_rec as_rec left left_or history_at history_of
undone_left x (undo_alone a) i g = rw (alone_rec a) tt
undone_left x (undo_send _) i g = tt
undone_left {s} x (undo_receive j) i g = λ z.
    omega (arith, ap length j, ap (λ v. length (s.queues v)) z, ap (λ v. length (left (history_of (s.processes v)))) z, ap (λ o. length (left (history_of o))) i)
undone_left x (undo_spawn _ _ _) i g = tt

pub apart_none : (o : Option ℕ) → Apart o none
unfolding Apart
apart_none none = tt
apart_none (some x) = tt

undo_undeliver : {s : State} {p : ℕ} {kind : Kind} {beside : Beside} {before control : List ℕ} {h : List Entry} (t : ℕ) → s.processes p ≡ some (process control (entry_with kind before ∷ h))
    → Undoes s p (sends h) kind beside → length (left (history_at s t)) < length (s.queues t) → IndependentDeeds (undoes p (sends h) kind) (undelivers t)
unfolding Apart actor mailbox acts_at receiver spawns_into unspawns Crossed Unsends
undo_undeliver t i un g = record {
  actors = tt;
  mailboxes = tt;
  mail_receive = tt;
  receive_mail = undone_left t un i g;
  unspawn_acts = unspawned_empty t un (omega arith);
  acts_unspawn = tt;
  delivery_unsend = λ x. x;
  unsend_delivery = λ x. x;
  spawns = tt;
}

pub undos_independent : {s : State} {d e : Deed} {w u : Move} → Does s d w → Does s e u → Backward d → Backward e → command_of d ≢ command_of e → IndependentDeeds d e
unfolding Backward command_of Apart actor mailbox acts_at receiver spawns_into unspawns Crossed Unsends
undos_independent (forward _ _ _ _) b x y n = absurd x
undos_independent (sched _ _) b x y n = absurd x
undos_independent (backward _ _) (forward _ _ _ _) x y n = absurd y
undos_independent (backward {p} {kind} i un) (backward {kind = kind'} j vn) x y n = record {
  actors = λ e. n (ap back e);
  mailboxes = tt;
  mail_receive = tt;
  receive_mail = apart_none (if_rec p (as_rec kind));
  unspawn_acts = unspawned_idle un j;
  acts_unspawn = apart_sym (as_spawn kind') (some p) (unspawned_idle vn i);
  delivery_unsend = λ x. x;
  unsend_delivery = λ x. x;
  spawns = tt;
}
undos_independent (backward _ _) (sched _ _) x y n = absurd y
undos_independent (backward i un) (unsched {t} m v j g) x y n = undo_undeliver t i un (rw j g)
undos_independent (unsched _ _ _ _) (forward _ _ _ _) x y n = absurd y
undos_independent (unsched {t} m v j g) (backward i un) x y n = independent_sym (undo_undeliver t i un (rw j g))
undos_independent (unsched _ _ _ _) (sched _ _) x y n = absurd y
undos_independent (unsched _ _ _ _) (unsched _ _ _ _) x y n = record {
  actors = tt;
  mailboxes = λ e. n (ap undeliver e);
  mail_receive = tt;
  receive_mail = tt;
  unspawn_acts = tt;
  acts_unspawn = tt;
  delivery_unsend = λ x. x;
  unsend_delivery = λ x. x;
  spawns = tt;
}

-- ---- what was done is undone
-- the deed that undoes a forward one
pub data Undid : Deed → Deed → Type 0 where
  undid_entry : {p n : ℕ} {kind : Kind} → Undid (makes p kind) (undoes p n kind)
  undid_delivery : {sender k t : ℕ} → Undid (delivers sender k t) (undelivers t)

-- a command that takes `after` back to s
pub record Undo (after s : State) (c : Command) : Type 0 where
  pub deed : Deed
  pub move : Move
  pub does : Does after deed move
  pub is : command_of deed ≡ c
  pub gives : apply move after ≡ s

-- p's process is changed and changed back, and so is q's
pub put_back_two : {A : Type 0} (p q : ℕ) (a b c d : A) (f : ℕ → A) → f p ≡ a → f q ≡ c → put q c (put p a (put q d (put p b f))) ≡ f
put_back_two p q a b c d f i j = fun_ext λ x. go x (ℕ_discrete p x) (ℕ_discrete q x)
  where
    go : (x : ℕ) → Dec (p ≡ x) → Dec (q ≡ x) → put q c (put p a (put q d (put p b f))) x ≡ f x
    go x e (yes g) = put_same q c _ x g ∙ cc
    go x (yes e) (no n) = put_other q c _ x n ∙ put_same p a _ x e ∙ cc
    go x (no m) (no n) = simp put_other

module _ {s : State} (sound : Sound s) where
  -- a message just sent is in flight
  flight_new : {p t : ℕ} {v control next : List ℕ} {h : List Entry} → s.processes p ≡ some (process control h) → in_pool s t ≡ true
      → Does s (makes p (send t v)) (turn p (process next (entry_with (send t v) control ∷ h)) nothing)
      → InFlight (apply (turn p (process next (entry_with (send t v) control ∷ h)) nothing) s) p (sends h) t v
  unfolding apply set_beside set_process history_at history_of sent as_send unspawns Apart
  flight_new {p} {t} {v} {control} {next} {h} i live a =
      flight_of (apply (turn p (process next (entry_with (send t v) control ∷ h)) nothing) s) p (sends h) t
      (ap (λ o. sent (history_of o) (sends h)) (put_same p _ s.processes p refl) ∙ letter_own (letter t v) (sends h) (sent h (sends h))) (stays_live t a live tt) (λ x. old (came_was a x))
    where
      old : Came s p (sends h) t ⊎ (makes p (send t v) ≡ delivers p (sends h) t) → ⊥
      old (inl x) = below_not_same (sent_below h (sends h) (ap (λ o. sent (history_of o) (sends h)) (sym i) ∙ (mail_named sound p (sends h) t x).1)) refl
      old (inr e) = let z : ◌≡◌ {A = ℕ} 0 1 = cc in omega arith

  -- nothing is in flight to a child just made
  quiet_new : {p q : ℕ} {w : Move} → in_pool s q ≡ false → Does s (makes p (spawn q)) w → (sender k : ℕ) (value : List ℕ) → ¬ InFlight (apply w s) sender k q value
  unfolding target target_of as_send
  quiet_new {q} n a sender k v f = elim (sent_was k (turned sender a) f.out) [ inl e ↦ true_not_false (sound.targets_in_pool sender k q v e) n | inr e ↦ none_not_some e ]

  pub undo_forward : {p : ℕ} {kind : Kind} {w : Move} → Does s (makes p kind) w → Undo (apply w s) s (back p)
  unfolding apply set_beside set_process set_queue command_of
  undo_forward {p} (forward i (alone j) r z) = record {
    deed = _;
    move = _;
    does = backward (put_same p _ s.processes p refl) (undo_alone (made_alone j));
    is = refl;
    gives = state_path refl refl (put_back p _ _ s.processes i) refl;
  }
  undo_forward {p} (forward i (by_send e live) r z) = record {
    deed = _;
    move = _;
    does = backward (put_same p _ s.processes p refl) (undo_send (flight_new i live (forward i (by_send e live) r z)));
    is = refl;
    gives = state_path refl refl (put_back p _ _ s.processes i) refl;
  }
  undo_forward {p} (forward i (by_receive {takes} e g) r z) = record {
    deed = _;
    move = _;
    does = backward (put_same p _ s.processes p refl) (undo_receive (put_same p _ s.queues p refl));
    is = refl;
    gives = state_path refl refl (put_back p _ _ s.processes i) (put_back p _ _ s.queues (pick_is takes (s.queues p) g));
  }
  undo_forward {p} (forward i (by_spawn {f = q} e below n) r z) = record {
    deed = _;
    move = _;
    does = backward (put_other q _ _ p (λ x. true_not_false (in_pool_lem s p i) (ap (in_pool s) (sym x) ∙ n)) ∙ put_same p _ s.processes p refl)
        (undo_spawn (put_same q _ _ q refl) (sound.no_queue_elsewhere q n) (quiet_new n (forward i (by_spawn e below n) r z)));
    is = refl;
    gives = state_path refl refl (put_back_two p q _ _ _ _ s.processes i (no_process_lem s q n)) refl;
  }

  pub undo_deliver : {sender k t : ℕ} {w : Move} → Does s (delivers sender k t) w → Undo (apply w s) s (undeliver t)
  unfolding apply set_beside set_process set_queue command_of in_pool history_at
  undo_deliver {sender} {k} {t} (sched {value} {queue} f i) = record {
    deed = _;
    move = _;
    does = unsched (message sender k value) {queue = queue} (flight_lives f) (put_same t _ s.queues t refl) long;
    is = refl;
    gives = state_path refl refl refl (put_back t queue _ s.queues i);
  }
    where
      long : length (left (history_at s t)) < length (queue ++ (message sender k value ∷ []))
      long = rw length-append (omega (arith, left_fits sound t, ap length i))

  pub undid_forward : {p : ℕ} {kind : Kind} {w : Move} (a : Does s (makes p kind) w) → Undid (makes p kind) (undo_forward a).deed
  unfolding undo_forward
  undid_forward (forward i (alone j) r z) = undid_entry
  undid_forward (forward i (by_send e live) r z) = undid_entry
  undid_forward (forward i (by_receive e g) r z) = undid_entry
  undid_forward (forward i (by_spawn e below n) r z) = undid_entry

  pub undid_deliver : {sender k t : ℕ} {w : Move} (a : Does s (delivers sender k t) w) → Undid (delivers sender k t) (undo_deliver a).deed
  unfolding undo_deliver
  undid_deliver (sched f i) = undid_delivery

  -- ---- what was undelivered is delivered again
  pub undo_undelivered : {t : ℕ} {w : Move} → Does s (undelivers t) w → (m : Message) × (queue : List Message) × (s.queues t ≡ queue ++ (m ∷ [])) × Undo (apply w s) s (deliver m.sender m.count)
  unfolding apply set_beside set_process set_queue command_of in_pool history_at SentTo
  undo_undelivered {t} (unsched m {queue} v i g) = (
    m,
    queue,
    i,
    record {
      deed = delivers m.sender m.count t;
      move = post t (queue ++ (m ∷ []));
      does = sched fly (put_same t queue s.queues t refl);
      is = refl;
      gives = state_path refl refl refl (put_back t (queue ++ (m ∷ [])) queue s.queues i);
    },
  )
    where
      gone : ¬ Any (Named m.sender m.count) (queue ++ taken (history_at s t))
      gone = (once_out queue m (taken (history_at s t)) (rw (i, append_assoc) at (once_of (s.queues t ++ taken (history_at s t)) (sound.once t)))).1

      fresh : ¬ Came (apply (post t queue) s) m.sender m.count t
      fresh (inl x) = gone (any_left _ (rw (put_same t queue s.queues t refl) at x))
      fresh (inr x) = gone (any_right queue x)

      fly : InFlight (apply (post t queue) s) m.sender m.count t m.value
      fly = flight_of (apply (post t queue) s) m.sender m.count t (mail sound t (inl (rw i (any_middle queue m [] refl)))) v fresh
