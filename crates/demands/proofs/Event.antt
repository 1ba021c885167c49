-- Events: one accepted command takes one event off, or puts one on, its line, and no other line changes.
use Prim.Native.Nat.{ℕ, suc, ◌≤◌}
use mathlib.Core.Path.{◌≡◌, refl, sym, ◌∙◌, ap}
use mathlib.Core.Logic.{◌≢◌, inl, inr}
use mathlib.Core.Option.{none, some}
use mathlib.Core.List.{List, [], ◌∷◌, ◌++◌, append_assoc, append-nil}
use native.Mathlib.Decide.{ℕ_discrete}
use native.Mathlib.Omega.{arith}
use lib.ListN.{length, length-append}
use lib.Seq.{drop-length}
use Rattle.lists.specs.Tables.{put}
use Rattle.lists.proofs.Tables.{put_same, put_other}
use Rattle.lists.proofs.Tests.{true_not_false, none_not_some, some_injective}
use Rattle.rules.specs.State.{Message, Kind, as_rec, Entry, State, history_of, history_at, in_pool}
use Rattle.rules.specs.Flight.{taken}
use Rattle.rules.specs.Commands.{Deed, makes, undoes, delivers, undelivers, Move, set_process, set_queue, set_beside, apply, entry_with}
use Rattle.rules.specs.Rules.{process, message, InFlight}
use Rattle.rules.specs.Independent.{Apart, mailbox, if_rec, receiver}
use Rattle.rules.specs.Sound.{Sound}
use Rattle.rules.specs.Depends.{arrivals, Series, entries_of, deliveries_to, level}
use Rattle.rules.specs.Standing.{Suffix, whole, older, come}
use Rattle.rules.proofs.Oldest.{pick_is}
use Rattle.demands.proofs.Does.{alone, by_send, by_receive, by_spawn, undo_alone, undo_send, undo_receive, undo_spawn, Does, forward, backward, sched, unsched}
use Rattle.demands.proofs.Views.{made_alone, alone_rec}
use Rattle.demands.proofs.Messages.{once_of}
use Rattle.demands.proofs.Histories.{suffix_length, suffix_top}
use Rattle.demands.proofs.Frame.{Turned, same, grown, shrunk, turned, keep_queue, in_pool_lem}
use Rattle.demands.proofs.Deeds.{new_is_other}
use Rattle.demands.proofs.Questions.{at?, no_rec}
use Rattle.demands.proofs.Undo.{Backward}
use Rattle.demands.proofs.SoundFacts.{left_fits}
use Rattle.demands.proofs.Arrival.{come_none, come_rec, come_more, arrivals_are}

abbrev pub come_at : State → ℕ → List Message
come_at s q = come (history_at s q) (s.queues q)

pub arrivals_at : {s : State} → Sound s → (q : ℕ) → arrivals s q ≡ come_at s q
arrivals_at {s} sound q = arrivals_are s q (sound.prefixes q) (once_of (s.queues q ++ taken (history_at s q)) (sound.once q))

-- ---- the line of a deed
unfoldable pub line_of : Deed → Series
line_of (makes p kind) = entries_of p
line_of (undoes p count kind) = entries_of p
line_of (delivers s k t) = deliveries_to t
line_of (undelivers t) = deliveries_to t

unfoldable pub Forward : Deed → Type 0
Forward (makes p kind) = Unit {0}
Forward (undoes p count kind) = ⊥
Forward (delivers s k t) = Unit {0}
Forward (undelivers t) = ⊥

pub line? : (x y : Series) → Dec (x ≡ y)
line? (entries_of p) (entries_of q) = elim (ℕ_discrete p q) [ yes e ↦ yes (ap entries_of e) | no n ↦ no λ e. n (cc) ]
line? (entries_of p) (deliveries_to q) = no λ e. let z : ◌≡◌ {A = ℕ} 0 1 = cc in omega arith
line? (deliveries_to p) (entries_of q) = no λ e. let z : ◌≡◌ {A = ℕ} 0 1 = cc in omega arith
line? (deliveries_to p) (deliveries_to q) = elim (ℕ_discrete p q) [ yes e ↦ yes (ap deliveries_to e) | no n ↦ no λ e. n (cc) ]

-- ---- less history, fewer arrivals
pub record Under (t s : State) : Type 0 where
  pub suffixes : (x : ℕ) → Suffix (history_at t x) (history_at s x)
  pub firsts : (x : ℕ) → (y : List Message) × (arrivals s x ≡ arrivals t x ++ y)

pub suffix_trans : {f g h : List Entry} → Suffix f g → Suffix g h → Suffix f h
suffix_trans s whole = s
suffix_trans s (older r) = older (suffix_trans s r)

pub under_refl : {s : State} → Under s s
under_refl = record { suffixes = λ x. whole; firsts = λ x. ([], sym (append-nil _)) }

pub under_trans : {r s t : State} → Under r s → Under s t → Under r t
under_trans {r} u v = record {
  suffixes = λ x. suffix_trans (u.suffixes x) (v.suffixes x);
  firsts = λ x.
      let a = u.firsts x in
      let b = v.firsts x in
      (a.0 ++ b.0, b.1 ∙ ap (λ z. z ++ b.0) a.1 ∙ append_assoc (arrivals r x) a.0 b.0);
}

pub low : {t s : State} → Under t s → (x : Series) → level t x ≤ level s x
unfolding level
low u (entries_of p) = suffix_length (u.suffixes p)
low {t} u (deliveries_to q) = omega (arith, ap length (u.firsts q).1, length-append (arrivals t q) (u.firsts q).0)

-- t is s with the newest event of a line gone
pub record Down (s t : State) (x : Series) : Type 0 where
  pub under : Under t s
  pub at : level s x ≡ suc (level t x)
  pub off : (y : Series) → x ≢ y → level t y ≡ level s y

-- ---- only deliver and undeliver change the arrivals
come_stays : {s : State} {d : Deed} {x : ℕ} {h h' : List Entry} (queue : List Message) → Turned s d x h h' → Apart (receiver d) (some x) → come h' queue ≡ come h queue
unfolding receiver
come_stays queue (same i) a = ap (λ h. come h queue) i
come_stays {x} {h} queue (grown kind c i u _ _) a = ap (λ h. come h queue) i ∙ come_none (entry_with kind c) h queue (no_rec kind x (rw u at a))
come_stays {x} {h'} queue (shrunk kind c i u) a = sym (ap (λ h. come h queue) i ∙ come_none (entry_with kind c) h' queue (no_rec kind x (rw u at a)))

-- a rec takes from the queue, and no arrival goes
pub come_taken : (a : List Message) (m : Message) (b : List Message) (c : List ℕ) (h : List Entry) → come (entry_with (Kind.rec a m b) c ∷ h) (a ++ b) ≡ come h (a ++ (m ∷ b))
unfolding as_rec
come_taken a m b c h = come_rec (entry_with (Kind.rec a m b) c) h (a ++ b) refl ∙ ap (λ z. come h (a ++ (m ∷ b)) ++ z) (drop-length (a ++ b)) ∙ append-nil _

pub come_kept : {s : State} {d : Deed} {w : Move} (x : ℕ) → Does s d w → Apart (mailbox d) (some x) → come_at (apply w s) x ≡ come_at s x
unfolding apply set_beside set_process set_queue history_at history_of receiver if_rec as_rec
come_kept {s} {d} {w} x a n = elim (at? x (receiver d)) [
  | inl e ↦ took a e
  | inr f ↦ ap (come (history_at (apply w s) x)) (keep_queue x a n f) ∙ come_stays (s.queues x) (turned x a) f
]
  where
    took : {d : Deed} {w : Move} → Does s d w → receiver d ≡ some x → come_at (apply w s) x ≡ come_at s x
    took (forward _ (alone j) _ _) e = none_not_some (rw (alone_rec (made_alone j)) at e)
    took (forward _ (by_send _ _) _ _) e = none_not_some e
    took (forward {p} {control} {history = h} i (by_receive {takes} {m} {older = a} {newer = b} _ j) _ _) e =
        rw (put_same p _ s.processes x (some_injective e), put_same p _ s.queues x (some_injective e), ← some_injective e, i, pick_is takes (s.queues p) j) (come_taken a m b control h)
    took (forward _ (by_spawn _ _ _) _ _) e = none_not_some e
    took (backward _ (undo_alone a)) e = none_not_some (rw (alone_rec a) at e)
    took (backward _ (undo_send _)) e = none_not_some e
    took (backward {p} {before} {older = h} i (undo_receive {m} {older = a} {newer = b} j)) e =
        rw (put_same p _ s.processes x (some_injective e), put_same p _ s.queues x (some_injective e), ← some_injective e, i, j) (sym (come_taken a m b before h))
    took (backward _ (undo_spawn _ _ _)) e = none_not_some e
    took (sched _ _) e = none_not_some e
    took (unsched _ _ _ _) e = none_not_some e

-- ---- the entry that is made or undone
onto : {e : Entry} {g h : List Entry} → g ≡ h → e ∷ g ≡ e ∷ h
onto {e} i = ap (λ z. e ∷ z) i

pub topped : {s : State} {p : ℕ} {kind : Kind} {w : Move} → Does s (makes p kind) w → (c : List ℕ) × (history_at (apply w s) p ≡ entry_with kind c ∷ history_at s p)
unfolding apply set_beside set_process set_queue history_at history_of
topped {s} {p} (forward {control} i (alone _) _ _) = (control, ap history_of (put_same p _ s.processes p refl) ∙ onto (sym (ap history_of i)))
topped {s} {p} (forward {control} i (by_send _ _) _ _) = (control, ap history_of (put_same p _ s.processes p refl) ∙ onto (sym (ap history_of i)))
topped {s} {p} (forward {control} i (by_receive _ _) _ _) = (control, ap history_of (put_same p _ s.processes p refl) ∙ onto (sym (ap history_of i)))
topped {s} {p} (forward {control} i (by_spawn {f} _ _ n) _ _) = (
  control,
  ap history_of (put_other f _ _ p (λ y. true_not_false (in_pool_lem s p i) (ap (in_pool s) (sym y) ∙ n)) ∙ put_same p _ s.processes p refl) ∙ onto (sym (ap history_of i)),
)

pub popped : {s : State} {p n : ℕ} {kind : Kind} {w : Move} → Does s (undoes p n kind) w → (c : List ℕ) × (history_at s p ≡ entry_with kind c ∷ history_at (apply w s) p)
unfolding apply set_beside set_process set_queue history_at history_of
popped {s} {p} (backward {before} {older} i (undo_alone _)) = (before, ap history_of i ∙ onto (sym (ap history_of (put_same p (some (process before older)) s.processes p refl))))
popped {s} {p} (backward {before} {older} i (undo_send _)) = (before, ap history_of i ∙ onto (sym (ap history_of (put_same p (some (process before older)) s.processes p refl))))
popped {s} {p} (backward {before} {older} i (undo_receive _)) = (before, ap history_of i ∙ onto (sym (ap history_of (put_same p (some (process before older)) s.processes p refl))))
popped {s} {p} (backward {before} {older} i (undo_spawn {q} j _ _)) = (
  before,
  ap history_of i ∙ onto (sym (ap history_of (put_other q none (put p (some (process before older)) s.processes) p (new_is_other s i j) ∙ put_same p (some (process before older)) s.processes p refl))),
)

-- ---- the message that comes or goes
pub undelivered_last : {s : State} {t : ℕ} {w : Move} → Does s (undelivers t) w
    → (m : Message) × (queue : List Message) × (s.queues t ≡ queue ++ (m ∷ [])) × (come_at s t ≡ come_at (apply w s) t ++ (m ∷ []))
unfolding apply set_queue history_at
undelivered_last {s} {t} (unsched m {queue} n i g) = (
  m,
  queue,
  i,
  ap (come (history_at s t)) i ∙ come_more (history_at s t) queue (m ∷ []) (omega (arith, g, length-append queue (m ∷ []))) ∙ ap (λ q. come (history_at s t) q ++ (m ∷ [])) (sym (put_same t queue s.queues t refl)),
)

pub delivered_last : {s : State} {sender k t : ℕ} {w : Move} → Sound s → Does s (delivers sender k t) w
    → (v : List ℕ) × InFlight s sender k t v × (come_at (apply w s) t ≡ come_at s t ++ (message sender k v ∷ []))
unfolding apply set_queue history_at
delivered_last {s} {sender} {k} {t} sound (sched {value} {queue} f i) = (
  value,
  f,
  ap (come (history_at s t)) (put_same t _ s.queues t refl) ∙ come_more (history_at s t) queue (message sender k value ∷ []) (omega (arith, left_fits sound t, ap length i))
      ∙ ap (λ q. come (history_at s t) q ++ (message sender k value ∷ [])) (sym i),
)

-- ---- off its line, a command changes no level
off_mailbox : (d : Deed) {x : ℕ} → line_of d ≢ deliveries_to x → Apart (mailbox d) (some x)
unfolding line_of mailbox Apart
off_mailbox (makes p kind) n = tt
off_mailbox (undoes p count kind) n = tt
off_mailbox (delivers s k t) n = λ e. n (ap deliveries_to e)
off_mailbox (undelivers t) n = λ e. n (ap deliveries_to e)

module _ {s : State} {d : Deed} {w : Move} (sound : Sound s) (after : Sound (apply w s)) (a : Does s d w) where
  pub arrivals_kept : (x : ℕ) → Apart (mailbox d) (some x) → arrivals (apply w s) x ≡ arrivals s x
  arrivals_kept x n = arrivals_at after x ∙ come_kept x a n ∙ sym (arrivals_at sound x)

  level_off : (x : Series) → line_of d ≢ x → level (apply w s) x ≡ level s x
  unfolding level line_of
  level_off (entries_of x) n = go (turned x a)
    where
      go : {h h' : List Entry} → Turned s d x h h' → length h' ≡ length h
      go (same i) = ap length i
      go (grown kind c i u _ _) = absurd (n (ap line_of u))
      go (shrunk kind c i u) = absurd (n (ap line_of u))
  level_off (deliveries_to x) n = ap length (arrivals_kept x (off_mailbox d n))

last_length : {a : List Message} (b : List Message) (m : Message) → a ≡ b ++ (m ∷ []) → length a ≡ suc (length b)
last_length b m e = omega (arith, ap length e, length-append b (m ∷ []))

pub suffix_back : {s : State} {d : Deed} {x : ℕ} {h h' : List Entry} → Turned s d x h h' → Backward d → Suffix h' h
unfolding Backward
suffix_back (same i) b = suffix_top (sym i)
suffix_back (grown kind c i u _ _) b = absurd (rw u at b)
suffix_back (shrunk kind c i u) b = rw i (older whole)

pub suffix_forth : {s : State} {d : Deed} {x : ℕ} {h h' : List Entry} → Turned s d x h h' → Forward d → Suffix h h'
unfolding Forward
suffix_forth (same i) b = suffix_top i
suffix_forth (grown kind c i u _ _) b = rw i (older whole)
suffix_forth (shrunk kind c i u) b = absurd (rw u at b)

module _ {s : State} {w : Move} (sound : Sound s) (after : Sound (apply w s)) where
  pub arrivals_last : {t : ℕ} → (a : Does s (undelivers t) w) → arrivals s t ≡ arrivals (apply w s) t ++ ((undelivered_last a).0 ∷ [])
  arrivals_last {t} a = arrivals_at sound t ∙ (undelivered_last a).3 ∙ ap (λ z. z ++ ((undelivered_last a).0 ∷ [])) (sym (arrivals_at after t))

  pub arrivals_new : {sender k t : ℕ} → (a : Does s (delivers sender k t) w) → arrivals (apply w s) t ≡ arrivals s t ++ (message sender k (delivered_last sound a).0 ∷ [])
  arrivals_new {sender} {k} {t} a = arrivals_at after t ∙ (delivered_last sound a).2 ∙ ap (λ z. z ++ (message sender k (delivered_last sound a).0 ∷ [])) (sym (arrivals_at sound t))

  -- an undo takes the newest event off its line
  pub down : (d : Deed) → Does s d w → Backward d → Down s (apply w s) (line_of d)
  unfolding Backward line_of mailbox Apart level
  down (makes p kind) a b = absurd b
  down (undoes p n kind) a b = record {
    under = record { suffixes = λ x. suffix_back (turned x a) b; firsts = λ x. ([], sym (append-nil _ ∙ arrivals_kept sound after a x tt)) };
    at = ap length (popped a).1;
    off = level_off sound after a;
  }
  down (delivers sender k t) a b = absurd b
  down (undelivers t) a b = record {
    under = record {
      suffixes = λ x. suffix_back (turned x a) b;
      firsts = λ x. elim (ℕ_discrete t x) [
        | yes e ↦ rw (← e) (((undelivered_last a).0 ∷ []), arrivals_last a)
        | no n ↦ ([], sym (append-nil _ ∙ arrivals_kept sound after a x n))
      ];
    };
    at = last_length (arrivals (apply w s) t) (undelivered_last a).0 (arrivals_last a);
    off = level_off sound after a;
  }

  -- a step or a delivery puts one on
  pub up : (d : Deed) → Does s d w → Forward d → Down (apply w s) s (line_of d)
  unfolding Forward line_of mailbox Apart level
  up (makes p kind) a b = record {
    under = record { suffixes = λ x. suffix_forth (turned x a) b; firsts = λ x. ([], arrivals_kept sound after a x tt ∙ sym (append-nil _)) };
    at = ap length (topped a).1;
    off = λ x n. sym (level_off sound after a x n);
  }
  up (undoes p n kind) a b = absurd b
  up (delivers sender k t) a b = record {
    under = record {
      suffixes = λ x. suffix_forth (turned x a) b;
      firsts = λ x. elim (ℕ_discrete t x) [
        | yes e ↦ rw (← e) ((message sender k (delivered_last sound a).0 ∷ []), arrivals_new a)
        | no n ↦ ([], arrivals_kept sound after a x n ∙ sym (append-nil _))
      ];
    };
    at = last_length (arrivals s t) (message sender k (delivered_last sound a).0) (arrivals_new a);
    off = λ x n. sym (level_off sound after a x n);
  }
  up (undelivers t) a b = absurd b
