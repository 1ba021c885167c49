-- Messages of a sound state stay sound: each stands once at most, was sent, and queues keep what recs left as prefixes.
use Prim.Native.Nat.{ℕ, ◌<◌}
use mathlib.Core.Path.{◌≡◌, refl, sym, ◌∙◌, ap, subst, subst₂}
use mathlib.Core.Logic.{◌⊎◌, inl, inr}
use mathlib.Core.Bool.{true, false}
use mathlib.Core.Option.{Option, none, some}
use mathlib.Core.List.{List, [], ◌∷◌, ◌++◌, append-nil, append_assoc}
use native.Mathlib.Omega.{arith}
use lib.ListN.{length}
use Rattle.lists.specs.Lists.{All}
use Rattle.lists.proofs.Tables.{put_same}
use Rattle.lists.proofs.Tests.{true_not_false, true_or_false, none_not_some, some_injective}
use Rattle.rules.specs.State.{Message, letter, Taking, taking, as_send, as_rec, Entry, State, history_of, history_at, in_pool}
use Rattle.rules.specs.Flight.{sends, sent, also_taken, taken, left_or, left}
use Rattle.rules.specs.Commands.{Deed, makes, undoes, delivers, undelivers, Move, set_process, set_queue, set_beside, apply}
use Rattle.rules.specs.Rules.{process, message}
use Rattle.rules.specs.Independent.{Apart, mailbox, if_rec, receiver, unspawns, Unsends}
use Rattle.rules.specs.Sound.{distinct, SentTo, Prefix, Flows, Sound}
use Rattle.rules.proofs.Oldest.{pick_is}
use Rattle.demands.proofs.Does.{alone, by_send, by_receive, by_spawn, undo_alone, undo_send, undo_receive, undo_spawn, Does, forward, backward, sched, unsched}
use Rattle.demands.proofs.Views.{made_alone, alone_send, alone_rec}
use Rattle.demands.proofs.Messages.{Is, any_append, any_map, any_none, all_of, Named, Once, once_of, of_once, once_in, once_out, once_take, once_give}
use Rattle.demands.proofs.Frame.{Turned, same, grown, shrunk, turned, keep_queue, in_pool_lem, history_of_lem}
use Rattle.demands.proofs.Deeds.{target, unspawning, sending}
use Rattle.demands.proofs.Questions.{Among, Came, Posts, flight_of, flight_lives, flight_fresh, at?, among_was, stays_live, free_acts, sent_stays, sent_was, taken_stays, no_rec}
use Rattle.demands.proofs.Square.{receiver_apart}
use Rattle.demands.proofs.SoundFacts.{FlowsBy, mail}

-- ---- the flow of recs
flows_none : (o : Option Taking) (h : List Entry) (queue : List Message) → o ≡ none → FlowsBy o h queue ≡ Flows h queue
flows_none o h queue e = rw e refl

-- a longer queue
flows_longer : (h : List Entry) (queue others : List Message) → Flows h queue → Flows h (queue ++ others)
unfolding Flows
flows_longer [] queue others f = tt
flows_longer (e ∷ h) queue others f = go (as_rec e.kind) f (flows_longer h queue others)
  where
    go : (o : Option Taking) → FlowsBy o h queue → (Flows h queue → Flows h (queue ++ others)) → FlowsBy o h (queue ++ others)
    go none f r = r f
    go (some (taking before m after)) f r = (record { others = f.0.others ++ others; whole = ap (λ q. q ++ others) f.0.whole ∙ append_assoc (before ++ after) f.0.others others }, f.1)

-- a list that is longer than its front has its last element behind the front
prefix_shorter : (front queue others : List Message) (m : Message) → queue ++ (m ∷ []) ≡ front ++ others → length front < length (queue ++ (m ∷ [])) → Prefix front queue
prefix_shorter [] queue others m e h = record { others = queue; whole = refl }
prefix_shorter (x ∷ front) [] others m e h = absurd (omega arith)
prefix_shorter (x ∷ front) (y ∷ queue) others m e h =
    let tails : queue ++ (m ∷ []) ≡ front ++ others = cc in
    let heads : y ≡ x = cc in
    let r = prefix_shorter front queue others m tails (omega arith) in
    record { others = r.others; whole = let z = r.whole in cc }

-- a shorter queue that is still as long as the newest rec left it
flows_shorter : (h : List Entry) (queue : List Message) (m : Message) → length (left h) < length (queue ++ (m ∷ [])) → Flows h (queue ++ (m ∷ [])) → Flows h queue
unfolding Flows left left_or
flows_shorter [] queue m l f = tt
flows_shorter (e ∷ h) queue m l f = go (as_rec e.kind) l f (flows_shorter h queue m)
  where
    go : (o : Option Taking) → length (left_or o (left h)) < length (queue ++ (m ∷ [])) → FlowsBy o h (queue ++ (m ∷ []))
        → (length (left h) < length (queue ++ (m ∷ [])) → Flows h (queue ++ (m ∷ [])) → Flows h queue) → FlowsBy o h queue
    go none l f r = r l f
    go (some (taking before n after)) l f r = (prefix_shorter (before ++ after) queue f.0.others m f.0.whole l, f.1)

-- an entry that is no rec
flows_stays : {s : State} {d : Deed} {x : ℕ} {h h' : List Entry} (queue : List Message) → Turned s d x h h' → Apart (receiver d) (some x) → Flows h queue → Flows h' queue
unfolding Flows receiver
flows_stays queue (same i) a f = rw i f
flows_stays {x} {h} queue (grown kind c i u _ _) a f = rw i (subst (λ t. t) (sym (flows_none (as_rec kind) h queue (no_rec kind x (rw u at a)))) f)
flows_stays {x} {h'} queue (shrunk kind c i u) a f = subst (λ t. t) (flows_none (as_rec kind) h' queue (no_rec kind x (rw u at a))) (rw i at f)

-- a send undoes no spawn
sender_keeps : (d : Deed) {t : ℕ} → target d ≡ some t → Apart (unspawns d) (some t)
unfolding target unspawns Apart
sender_keeps (makes p kind) e = tt
sender_keeps (undoes p count kind) e = none_not_some e
sender_keeps (delivers sender k u) e = tt
sender_keeps (undelivers u) e = tt

-- ---- once, and the flow
abbrev Well : List Message → List Entry → Type 0
Well queue h = Once (queue ++ taken h) × Flows h queue

module _ {s : State} (sound : Sound s) where
  well_now : (t : ℕ) → Well (s.queues t) (history_at s t)
  well_now t = (once_of (s.queues t ++ taken (history_at s t)) (sound.once t), sound.prefixes t)

  well_at : {t : ℕ} {control : List ℕ} {h : List Entry} {queue : List Message} → s.processes t ≡ some (process control h) → s.queues t ≡ queue → Well queue h
  well_at {t} i j = rw (history_of_lem s t i, j) at (well_now t)

  well_receiver : {d : Deed} {w : Move} {t : ℕ} → Does s d w → receiver d ≡ some t → Well ((apply w s).queues t) (history_at (apply w s) t)
  unfolding apply set_beside set_process set_queue history_at history_of receiver if_rec as_rec taken also_taken Flows
  well_receiver (forward _ (alone j) _ _) e = none_not_some (rw (alone_rec (made_alone j)) at e)
  well_receiver (forward _ (by_send _ _) _ _) e = none_not_some e
  well_receiver {t} (forward {p} {history = h} i (by_receive {takes} {m} {older = a} {newer = b} _ j) _ _) e =
      let r = well_at i (pick_is takes (s.queues p) j) in
      rw (put_same p _ s.processes t (some_injective e), put_same p _ s.queues t (some_injective e))
      (once_take a m b (taken h) r.0, (record { others = []; whole = sym (append-nil (a ++ b)) }, r.1))
  well_receiver (forward _ (by_spawn _ _ _) _ _) e = none_not_some e
  well_receiver (backward _ (undo_alone a)) e = none_not_some (rw (alone_rec a) at e)
  well_receiver (backward _ (undo_send _)) e = none_not_some e
  well_receiver {t} (backward {p} {older = h} i (undo_receive {m} {older = a} {newer = b} j)) e =
      let r = well_at i j in
      rw (put_same p _ s.processes t (some_injective e), put_same p _ s.queues t (some_injective e)) (once_give a m b (taken h) r.0, r.1.1)
  well_receiver (backward _ (undo_spawn _ _ _)) e = none_not_some e
  well_receiver (sched _ _) e = none_not_some e
  well_receiver (unsched _ _ _ _) e = none_not_some e

  well_mailbox : {d : Deed} {w : Move} {t : ℕ} → Does s d w → mailbox d ≡ some t → Well ((apply w s).queues t) (history_at (apply w s) t)
  unfolding apply set_beside set_process set_queue history_at mailbox
  well_mailbox (forward _ _ _ _) e = none_not_some e
  well_mailbox (backward _ _) e = none_not_some e
  well_mailbox {t} (sched {sender} {k} {t = u} {value} {queue = b} f i) e = rw (put_same u _ s.queues t (some_injective e), ← some_injective e) (once_new, flows_longer (history_at s u) b (m ∷ []) now.1)
    where
      m : Message
      m = message sender k value

      now : Well b (history_at s u)
      now = rw i at (well_now u)

      once_new : Once ((b ++ (m ∷ [])) ++ taken (history_at s u))
      once_new = rw append_assoc (once_in b m (taken (history_at s u)) now.0 (λ x. flight_fresh f (elim (any_append b x) [ inl y ↦ inl (rw i y) | inr y ↦ inr y ])))
  well_mailbox {t} (unsched {t = u} m {queue = b} _ i g) e = rw (put_same u _ s.queues t (some_injective e), ← some_injective e)
      ((once_out b m (taken (history_at s u)) (rw append_assoc at now.0)).0, flows_shorter (history_at s u) b m g now.1)
    where
      now : Well (b ++ (m ∷ [])) (history_at s u)
      now = rw i at (well_now u)

  well : {d : Deed} {w : Move} (t : ℕ) → Does s d w → Well ((apply w s).queues t) (history_at (apply w s) t)
  well {d} {w} t a = go (at? t (receiver d)) (at? t (mailbox d))
    where
      go : (receiver d ≡ some t) ⊎ Apart (receiver d) (some t) → (mailbox d ≡ some t) ⊎ Apart (mailbox d) (some t) → Well ((apply w s).queues t) (history_at (apply w s) t)
      go (inl e) z = well_receiver a e
      go (inr x) (inl e) = well_mailbox a e
      go (inr x) (inr y) = rw (keep_queue t a y x, taken_stays (turned t a) x) ((well_now t).0, flows_stays (s.queues t) (turned t a) x (sound.prefixes t))

  -- ---- every message was sent
  -- a message that has come is not in flight, so its send is not undone
  pub not_unsent : {d : Deed} {w : Move} {m : Message} {t : ℕ} → Does s d w → Among (Is m) s t → SentTo s t m → ¬ Unsends m.sender m.count d
  unfolding Unsends SentTo as_send
  not_unsent (forward _ _ _ _) am z u = u
  not_unsent (backward _ (undo_alone a)) am z u = u.2 (alone_send a)
  not_unsent {m} {t} (backward {p} {older = h} i (undo_send {target = t'} {value} f)) am z u = flight_fresh f (came am)
    where
      same_target : t ≡ t'
      same_target =
          let said : sent (history_at s p) (sends h) ≡ some (letter t m.value) = subst₂ (λ a b. sent (history_at s a) b ≡ some (letter t m.value)) u.0 u.1 z in
          let both : some (letter t m.value) ≡ some (letter t' value) = sym said ∙ f.out in
          cc

      named : (n : Message) → n ≡ m → Named p (sends h) n
      named n j = record { sender = ap (λ x. x.sender) j ∙ u.0; count = ap (λ x. x.count) j ∙ u.1 }

      came : Among (Is m) s t → Came s p (sends h) t'
      came (inl x) = rw (← same_target) (inl (any_map named x))
      came (inr x) = rw (← same_target) (inr (any_map named x))
  not_unsent (backward _ (undo_receive _)) am z u = u.2 refl
  not_unsent (backward _ (undo_spawn _ _ _)) am z u = u.2 refl
  not_unsent (sched _ _) am z u = u
  not_unsent (unsched _ _ _ _) am z u = u

  pub mail_stays : {d : Deed} {w : Move} {m : Message} (t : ℕ) → Does s d w → Among (Is m) (apply w s) t → SentTo (apply w s) t m
  unfolding SentTo Unsends
  mail_stays {d} {w} {m} t a am = go (among_was a am)
    where
      go : Among (Is m) s t ⊎ Posts (Is m) s d t → sent (history_at (apply w s) m.sender) m.count ≡ some (letter t m.value)
      go (inl x) = sent_stays m.count (turned m.sender a) (not_unsent a x (mail sound t x)) (mail sound t x)
      go (inr x) = subst (λ n. sent (history_at (apply w s) n.sender) n.count ≡ some (letter t n.value)) x.good
          (sent_stays x.k (turned x.s a) (λ u. rw x.is at u) x.flew.out)

  -- ---- targets and queues
  -- a place that a standing send aims at keeps its spawn
  target_stays : {d : Deed} {w : Move} {t : ℕ} {value : List ℕ} (sender k : ℕ) → Does s d w → sent (history_at s sender) k ≡ some (letter t value) → Apart (unspawns d) (some t)
  unfolding taken
  target_stays {d} {t} {value} sender k a out = elim (at? t (unspawns d)) [ inl e ↦ absurd (stands e) | inr n ↦ n ]
    where
      stands : unspawns d ≡ some t → ⊥
      stands e =
          let un = unspawning a e in
          un.quiet sender k value (flight_of s sender k t out (in_pool_lem s t un.new) (λ c. elim c [
            | inl x ↦ any_none x un.empty
            | inr x ↦ any_none x (ap taken (history_of_lem s t un.new))
          ]))

  mailbox_live : {d : Deed} {w : Move} {x : ℕ} → Does s d w → mailbox d ≡ some x → in_pool s x ≡ true
  unfolding mailbox
  mailbox_live (forward _ _ _ _) e = none_not_some e
  mailbox_live (backward _ _) e = none_not_some e
  mailbox_live (sched f _) e = ap (in_pool s) (sym (some_injective e)) ∙ flight_lives f
  mailbox_live (unsched _ i _ _) e = ap (in_pool s) (sym (some_injective e)) ∙ i

  module _ {d : Deed} {w : Move} (a : Does s d w) where
    pub targets_after : (p k t : ℕ) (value : List ℕ) → sent (history_at (apply w s) p) k ≡ some (letter t value) → in_pool (apply w s) t ≡ true
    targets_after p k t value e = elim (sent_was k (turned p a) e) [
      | inl i ↦ stays_live t a (sound.targets_in_pool p k t value i) (target_stays p k a i)
      | inr i ↦ stays_live t a (sending a i).live (sender_keeps d i)
    ]

    pub no_queue_after : (p : ℕ) → in_pool (apply w s) p ≡ false → (apply w s).queues p ≡ []
    no_queue_after q e = go (true_or_false (in_pool s q)) (at? q (unspawns d)) (at? q (mailbox d))
      where
        go : (in_pool s q ≡ true) ⊎ (in_pool s q ≡ false) → (unspawns d ≡ some q) ⊎ Apart (unspawns d) (some q) → (mailbox d ≡ some q) ⊎ Apart (mailbox d) (some q) → (apply w s).queues q ≡ []
        go (inr i) z (inl y) = true_not_false (mailbox_live a y) i
        go (inr i) z (inr y) = keep_queue q a y (receiver_apart d (some q) (free_acts a q i)) ∙ sound.no_queue_elsewhere q i
        go (inl i) (inl z) y = (unspawning a z).empty_after
        go (inl i) (inr z) y = true_not_false (stays_live q a i z) e

    pub once_after : (t : ℕ) → distinct ((apply w s).queues t ++ taken (history_at (apply w s) t)) ≡ true
    once_after t = of_once ((apply w s).queues t ++ taken (history_at (apply w s) t)) (well t a).0

    pub nothing_else_after : (t : ℕ) → All (SentTo (apply w s) t) ((apply w s).queues t ++ taken (history_at (apply w s) t))
    nothing_else_after t = all_of (SentTo (apply w s) t) ((apply w s).queues t ++ taken (history_at (apply w s) t)) (λ m x. mail_stays t a (any_append ((apply w s).queues t) x))

    pub prefixes_after : (p : ℕ) → Flows (history_at (apply w s) p) ((apply w s).queues p)
    prefixes_after p = (well p a).1
