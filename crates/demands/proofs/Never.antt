-- After a load the set of a rollback can always be removed: a reached state has a run that only goes forward, and along it a step that
-- depends on nothing that goes is independent of the undos.
use Prim.Native.Nat.{ℕ, suc, ◌<◌, ◌≤◌, min}
use mathlib.Core.Path.{◌≡◌, refl, sym, ◌∙◌, ap, subst}
use mathlib.Core.Logic.{inl, inr}
use mathlib.Core.Bool.{true}
use mathlib.Core.Option.{Option, none, some}
use mathlib.Core.List.{List, [], ◌∷◌, ◌++◌}
use native.Mathlib.Decide.{dec_lt}
use native.Mathlib.Omega.{arith}
use Rattle.lists.proofs.Tables.{put_same}
use Rattle.lists.proofs.Tests.{none_not_some, some_injective}
use Rattle.rules.specs.State.{Message, Letter, Taking, taking, Kind, as_send, as_rec, as_spawn, State, history_of, history_at}
use Rattle.rules.specs.Flight.{sends, taken, also_taken}
use Rattle.rules.specs.Commands.{Deed, makes, undoes, delivers, undelivers, Move, set_process, set_queue, set_beside, apply, entry_with}
use Rattle.rules.specs.Rules.{message}
use Rattle.rules.specs.Independent.{Apart, actor, mailbox, acts_at, if_rec, receiver, spawns_into, unspawns, Unsends, Crossed, IndependentDeeds}
use Rattle.rules.specs.Reverse.{is_forward}
use Rattle.rules.specs.Sound.{Sound}
use Rattle.rules.specs.Depends.{arrivals, Series, entries_of, deliveries_to, level, depends_at_once, event}
use Rattle.rules.specs.Standing.{Stands, Arrives}
use Rattle.rules.specs.Rollback.{Cut, is_undo}
use Rattle.rules.proofs.Oldest.{pick_is}
use Rattle.demands.proofs.Does.{alone, by_send, by_receive, by_spawn, undo_alone, undo_send, undo_receive, undo_spawn, Does, forward, backward}
use Rattle.demands.proofs.Views.{made_alone, alone_rec, alone_send}
use Rattle.demands.proofs.Messages.{Any, here, there, any_less, any_middle, Named}
use Rattle.demands.proofs.Histories.{suffix_top}
use Rattle.demands.proofs.Questions.{Came, flight_fresh}
use Rattle.demands.proofs.Square.{square}
use Rattle.demands.proofs.Undo.{Backward, undo_forward, undo_deliver, apart_none}
use Rattle.demands.proofs.Knows.{calm}
use Rattle.demands.proofs.Reached.{Reached, reached_after}
use Rattle.demands.proofs.Event.{line_of, line?, Forward, Under, low, suffix_trans, Down, up, topped, popped, arrivals_kept, undelivered_last, delivered_last, arrivals_last, arrivals_new}
use Rattle.demands.proofs.EventSound.{sound_undone}
use Rattle.demands.proofs.EventDepends.{Like, on_spawn_entry, on_spawn_delivery, on_queue, on_since, on_send, closed_under}
use Rattle.demands.proofs.Removal.{Back, halt, took, back_under, lower, backward_of}
use Rattle.demands.proofs.Cut.{Closed, later_depends}

-- ---- a step and an undo that are not independent: what the step does depends on what the undo would take
-- the entry that an undo takes, seen from above
top_stands : {s t : State} {p n : ℕ} {kind : Kind} {u : Move} → Under s t → (b : Does s (undoes p n kind) u)
    → Stands t p (level (apply u s) (entries_of p)) (entry_with kind (popped b).0) (history_at (apply u s) p)
unfolding level
top_stands {p} under b = record { at = suffix_trans (suffix_top (popped b).1) (under.suffixes p); index = refl }

-- the message just delivered is neither in the queue before the newest rec nor taken by an older one
undone_lacks : {s : State} {p n sender k : ℕ} {kind : Kind} {a d : List Message} {m : Message} {u : Move} → Does s (undoes p n kind) u → as_rec kind ≡ some (taking a m d) → ¬ Came s sender k p
    → ¬ Any (Named sender k) (a ++ (m ∷ d)) × ¬ Any (Named sender k) (taken (history_at (apply u s) p))
unfolding as_rec taken also_taken history_at history_of apply set_beside set_process set_queue
undone_lacks (backward i (undo_alone al)) is f = none_not_some (sym (alone_rec al) ∙ is)
undone_lacks (backward i (undo_send _)) is f = none_not_some is
undone_lacks {s} {p} {sender = sender} {k} {a = a} {d} {m} (backward {older = h} i (undo_receive {m = m'} {older = a'} {newer = d'} j)) is f =
    let same : taking a' m' d' ≡ taking a m d = some_injective is in (
      λ x. f (elim (any_less a' d' (subst (Any (Named sender k)) (queues same) x)) [ inl y ↦ inl (rw j y) | inr y ↦ inr (rw i (here y)) ]),
      λ x. f (inr (rw i (there (rw (put_same p _ s.processes p refl) at x)))),
    )
  where
    queues : taking a' m' d' ≡ taking a m d → a ++ (m ∷ d) ≡ a' ++ (m' ∷ d')
    queues e = cc
undone_lacks (backward i (undo_spawn _ _ _)) is f = none_not_some is

undone_count : {s : State} {p n : ℕ} {kind : Kind} {l : Letter} {u : Move} → Does s (undoes p n kind) u → as_send kind ≡ some l → sends (history_at (apply u s) p) ≡ n
unfolding history_at history_of apply set_beside set_process set_queue as_send
undone_count (backward i (undo_alone al)) is = none_not_some (sym (alone_send al) ∙ is)
undone_count {s} {p} (backward i (undo_send _)) is = ap (λ o. sends (history_of o)) (put_same p _ s.processes p refl)
undone_count (backward i (undo_receive _)) is = none_not_some is
undone_count (backward i (undo_spawn _ _ _)) is = none_not_some is

made_queue : {s : State} {p : ℕ} {kind : Kind} {a d : List Message} {m : Message} {w : Move} → Does s (makes p kind) w → as_rec kind ≡ some (taking a m d) → s.queues p ≡ a ++ (m ∷ d)
unfolding as_rec
made_queue (forward _ (alone j) _ _) is = none_not_some (sym (alone_rec (made_alone j)) ∙ is)
made_queue (forward _ (by_send _ _) _ _) is = none_not_some is
made_queue {s} {p} {a = a} {d} {m} (forward _ (by_receive {takes} {m = m'} {older = a'} {newer = d'} _ e) _ _) is = pick_is takes (s.queues p) e ∙ queues (some_injective is)
  where
    queues : taking a' m' d' ≡ taking a m d → a' ++ (m' ∷ d') ≡ a ++ (m ∷ d)
    queues e = cc
made_queue (forward _ (by_spawn _ _ _) _ _) is = none_not_some is

-- apart, unless there is a fact
apart_rec : (p x : ℕ) (o : Option Taking) → ((a : List Message) (m : Message) (d : List Message) → o ≡ some (taking a m d) → p ≡ x → ⊥) → Apart (if_rec p o) (some x)
unfolding Apart if_rec
apart_rec p x none f = tt
apart_rec p x (some (taking a m d)) f = λ e. f a m d refl e

apart_rec' : (x p : ℕ) (o : Option Taking) → ((a : List Message) (m : Message) (d : List Message) → o ≡ some (taking a m d) → x ≡ p → ⊥) → Apart (some x) (if_rec p o)
unfolding Apart if_rec
apart_rec' x p none f = tt
apart_rec' x p (some (taking a m d)) f = λ e. f a m d refl e

apart_spawn : (x : ℕ) (o : Option ℕ) → (o ≡ some x → ⊥) → Apart (some x) o
unfolding Apart
apart_spawn x none f = tt
apart_spawn x (some q) f = λ e. f (ap some (sym e))

-- the two do not depend at once on each other
abbrev Bears : State → Move → Deed → Move → Deed → Type 0
Bears s w d u e = depends_at_once (apply w s) (event (line_of d) (level s (line_of d))) (event (line_of e) (level (apply u s) (line_of e))) ≡ true

module _ {s : State} {w u : Move} (sound : Sound s) (after : Sound (apply w s)) where
  free_unless : (d e : Deed) → Does s d w → Forward d → Does s e u → Backward e → ¬ Bears s w d u e → IndependentDeeds d e
  unfolding line_of Forward Backward Apart actor mailbox acts_at receiver spawns_into unspawns Crossed Unsends level
  free_unless (makes p kind) (undoes p' n kind') a f b y no_on = record {
    actors = λ e. no_on (subst (λ z. depends_at_once (apply w s) (event (entries_of p) (level s (entries_of p))) (event (entries_of z) (level (apply u s) (entries_of p'))) ≡ true) e
        (later_depends (apply w s) (entries_of p) (omega (arith, (lower sound b y).at, ap (λ z. level s (entries_of z)) e)) (omega (arith, D.at))));
    mailboxes = tt;
    mail_receive = tt;
    receive_mail = apart_none (if_rec p (as_rec kind));
    unspawn_acts = tt;
    acts_unspawn = apart_spawn p (as_spawn kind') (λ e. no_on (on_spawn_entry (omega (arith, D.at)) (top_stands D.under b) e));
    delivery_unsend = λ x. x;
    unsend_delivery = λ x. x;
    spawns = apart_none (as_spawn kind);
  }
    where
      D : Down (apply w s) s (entries_of p)
      D = up sound after (makes p kind) a f
  free_unless (makes p kind) (undelivers t) a f b y no_on = record {
    actors = tt;
    mailboxes = tt;
    mail_receive = tt;
    receive_mail = apart_rec p t (as_rec kind) took_it;
    unspawn_acts = tt;
    acts_unspawn = tt;
    delivery_unsend = λ x. x;
    unsend_delivery = λ x. x;
    spawns = apart_none (as_spawn kind);
  }
    where
      took_it : (x : List Message) (m : Message) (z : List Message) → as_rec kind ≡ some (taking x m z) → p ≡ t → ⊥
      took_it x m z is e =
          let (n, c, i, j) = undelivered_last b in
          no_on (subst (λ o. depends_at_once (apply w s) (event (entries_of p) (level s (entries_of p))) (event (deliveries_to o) (level (apply u s) (deliveries_to t))) ≡ true) e
          (on_queue {n = n} (record { at = suffix_top (topped a).1; index = refl }) is
          (record { before = arrivals (apply u s) t; after = []; at = arrivals_kept sound after a p tt ∙ ap (arrivals s) e ∙ arrivals_last sound (sound_undone sound b y) b; index = refl })
          (subst (Any (Like n)) (sym i ∙ ap s.queues (sym e) ∙ made_queue a is) (any_middle c n [] (record { sender = refl; count = refl })))))
  free_unless (delivers sender k t) (undoes p n kind') a f b y no_on = record {
    actors = tt;
    mailboxes = tt;
    mail_receive = apart_rec' t p (as_rec kind') since;
    receive_mail = tt;
    unspawn_acts = tt;
    acts_unspawn = apart_spawn t (as_spawn kind') (λ e. no_on (on_spawn_delivery (omega (arith, D.at)) (top_stands D.under b) e));
    delivery_unsend = λ x. sent_it (as_send kind') refl x;
    unsend_delivery = λ x. x;
    spawns = tt;
  }
    where
      D : Down (apply w s) s (deliveries_to t)
      D = up sound after (delivers sender k t) a f

      came : Message
      came = message sender k (delivered_last sound a).0

      new : Arrives (apply w s) t (level s (deliveries_to t)) came
      new = record { before = arrivals s t; after = []; at = arrivals_new sound after a; index = refl }

      At : ℕ → Type 0
      At o = depends_at_once (apply w s) (event (deliveries_to t) (level s (deliveries_to t))) (event (entries_of o) (level (apply u s) (entries_of p))) ≡ true

      top : Stands (apply w s) p (level (apply u s) (entries_of p)) (entry_with kind' (popped b).0) (history_at (apply u s) p)
      top = top_stands D.under b

      since : (x : List Message) (m : Message) (z : List Message) → as_rec kind' ≡ some (taking x m z) → t ≡ p → ⊥
      since x m z is e =
          let q = undone_lacks {sender = sender} {k = k} b is (λ c. flight_fresh (delivered_last sound a).1 (subst (Came s sender k) (sym e) c)) in
          no_on (subst At e (on_since new (subst (λ o. Stands (apply w s) o (level (apply u s) (entries_of p)) (entry_with kind' (popped b).0) (history_at (apply u s) p)) (sym e) top) is q.0 q.1))

      sent_it : (o : Option Letter) → as_send kind' ≡ o → (sender ≡ p) × (k ≡ n) × ¬ (as_send kind' ≡ none) → ⊥
      sent_it none is (e, i, x) = x is
      sent_it (some l) is (e, i, x) =
          no_on (subst At e (on_send {n = came} new (subst (λ o. Stands (apply w s) o (level (apply u s) (entries_of p)) (entry_with kind' (popped b).0) (history_at (apply u s) p)) (sym e) top) is (undone_count b is ∙ sym i)))
  free_unless (delivers sender k t) (undelivers t') a f b y no_on = record {
    actors = tt;
    mailboxes = λ e. no_on (subst (λ z. depends_at_once (apply w s) (event (deliveries_to t) (level s (deliveries_to t))) (event (deliveries_to z) (level (apply u s) (deliveries_to t'))) ≡ true) e
        (later_depends (apply w s) (deliveries_to t) (omega (arith, (lower sound b y).at, ap (λ z. level s (deliveries_to z)) e)) (omega (arith, (up sound after (delivers sender k t) a f).at))));
    mail_receive = tt;
    receive_mail = tt;
    unspawn_acts = tt;
    acts_unspawn = tt;
    delivery_unsend = λ x. x;
    unsend_delivery = λ x. x;
    spawns = tt;
  }
  free_unless (undoes _ _ _) e a f b y no_on = absurd f
  free_unless (undelivers _) e a f b y no_on = absurd f
  free_unless (makes _ _) (makes _ _) a f b y no_on = absurd y
  free_unless (makes _ _) (delivers _ _ _) a f b y no_on = absurd y
  free_unless (delivers _ _ _) (makes _ _) a f b y no_on = absurd y
  free_unless (delivers _ _ _) (delivers _ _ _) a f b y no_on = absurd y

back_reached : {s t : State} {n : ℕ} → Reached s → Back s t n → Reached t
back_reached r halt = r
back_reached r (took a b q) = back_reached (reached_after r a) q

-- ---- a step on which nothing that goes bears is still accepted after the undos, and they after it
carry : (k : Cut) {s s₁ : State} {d : Deed} {w : Move} {n : ℕ} → Reached s → Does s d w → Forward d → Closed (apply w s) k → level s (line_of d) < k (line_of d) → Back s s₁ n
    → ((x : Series) → min (k x) (level s x) ≤ level s₁ x) → Does s₁ d w × Back (apply w s) (apply w s₁) n
carry k r a f closed h halt g = (a, halt)
carry k {s} {s₁} {d} {w} r a f closed h (took {d = e} {w = u} {n} b y rest) g =
    let sound = r.sound in
    let after = (reached_after r a).sound in
    let undone = reached_after r b in
    let no_on : ¬ Bears s w d u e = λ o. let z = closed.keeps (line_of d) (line_of e) (level s (line_of d)) (level (apply u s) (line_of e)) o h in
    omega (arith, z, g (line_of e), low (back_under undone.sound rest) (line_of e), (lower sound b y).at) in
    let free = free_unless sound after d e a f b y no_on in
    let (b', a', same) = square a b free (calm r.laws sound r.learnt a b free) in
    let (a₁, rest₁) = carry k undone a' f (subst (λ z. Closed z k) same (closed_under (lower after b' y).under closed)) (omega (arith, h, low (lower sound b y).under (line_of d))) rest
    (λ x. omega (arith, g x, low (lower sound b y).under x)) in
    (a₁, took b' y (subst (λ z. Back z (apply w s₁) n) (sym same) rest₁))

-- ---- reached by forward steps alone
pub data Ahead (root : State) : State → Type 0 where
  start : Ahead root root
  went : {s : State} {d : Deed} {w : Move} → Ahead root s → Does s d w → Forward d → Ahead root (apply w s)

pub ahead_reached : {root s : State} → Reached root → Ahead root s → Reached s
ahead_reached r start = r
ahead_reached r (went h a f) = reached_after (ahead_reached r h) a

-- the undo of a step
record Unstepped (s after : State) : Type 0 where
  by : Deed
  move : Move
  does : Does after by move
  undoes_it : Backward by
  gives : apply move after ≡ s

unstep : {s : State} {w : Move} (d : Deed) → Sound s → Does s d w → Forward d → Unstepped s (apply w s)
unfolding Forward is_undo is_forward
unstep (makes p kind) sound a f = let u = undo_forward sound a in record { by = u.deed; move = u.move; does = u.does; undoes_it = backward_of u.deed (ap is_undo u.is); gives = u.gives }
unstep (delivers sender k t) sound a f = let u = undo_deliver sound a in record { by = u.deed; move = u.move; does = u.does; undoes_it = backward_of u.deed (ap is_undo u.is); gives = u.gives }
unstep (undoes _ _ _) sound a f = absurd f
unstep (undelivers _) sound a f = absurd f

-- ---- so what is closed can be kept, and the rest undone
module _ {root : State} (good : Reached root) (empty : (x : Series) → level root x ≡ 0) (k : Cut) where
  abbrev Kept : State → Type 0
  Kept s = (t : State) × (n : ℕ) × Back s t n × ((x : Series) → level t x ≡ min (k x) (level s x))

  pub never : {s : State} → Ahead root s → Closed s k → Kept s
  never start closed = (root, 0, halt, λ x. omega (arith, empty x))
  never (went {s} {d} {w} h a f) closed =
      let r = ahead_reached good h in
      let step = up r.sound (reached_after r a).sound d a f in
      go r step (dec_lt (level s (line_of d)) (k (line_of d))) (never h (closed_under step.under closed))
    where
      go : Reached s → Down (apply w s) s (line_of d) → Dec (level s (line_of d) < k (line_of d)) → Kept s → Kept (apply w s)
      go r step (yes i) (t, n, q, g) =
          let (a₁, q₁) = carry k r a f closed i q (λ x. omega (arith, g x)) in
          let t-reached = back_reached r q in
          let step₁ = up t-reached.sound (reached_after t-reached a₁).sound d a₁ f in (
            apply w t,
            n,
            q₁,
            λ x. elim (line? (line_of d) x) [
              | yes e ↦ subst (λ z. level (apply w t) z ≡ min (k z) (level (apply w s) z)) e (omega (arith, g (line_of d), step.at, step₁.at, i))
              | no z ↦ omega (arith, g x, step.off x z, step₁.off x z)
            ],
          )
      go r step (no i) (t, n, q, g) =
          let u = unstep d r.sound a f in (
            t,
            suc n,
            took u.does u.undoes_it (subst (λ z. Back z t n) (sym u.gives) q),
            λ x. elim (line? (line_of d) x) [
              | yes e ↦ subst (λ z. level t z ≡ min (k z) (level (apply w s) z)) e (omega (arith, g (line_of d), step.at, i))
              | no z ↦ omega (arith, g x, step.off x z)
            ],
          )
