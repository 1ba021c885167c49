-- A backward command accepted before and after a forward one, and independent of its reverse there, is independent of it.
use Prim.Native.Nat.{ℕ}
use mathlib.Core.Path.{◌≡◌, refl, sym, ◌∙◌, ap, subst₂}
use mathlib.Core.Logic.{inl}
use mathlib.Core.Option.{Option, none, some}
use mathlib.Core.List.{[], ◌∷◌, ◌++◌}
use native.Mathlib.Omega.{arith}
use Rattle.lists.proofs.Tables.{put_same}
use Rattle.rules.specs.State.{letter, as_send, as_spawn, State, history_at}
use Rattle.rules.specs.Flight.{sends, sent}
use Rattle.rules.specs.Commands.{Command, step, spawn_into, deliver, back, undeliver, Deed, makes, undoes, delivers, undelivers, Move, post, set_queue, apply, entry_with}
use Rattle.rules.specs.Rules.{message, command_of}
use Rattle.rules.specs.Independent.{Apart, actor, mailbox, acts_at, receiver, spawns_into, unspawns, Unsends, Crossed, IndependentDeeds}
use Rattle.demands.proofs.Does.{undo_alone, undo_send, undo_receive, undo_spawn, Does, forward, backward, sched, unsched}
use Rattle.demands.proofs.Views.{alone_send}
use Rattle.demands.proofs.Messages.{any_middle}
use Rattle.demands.proofs.Deeds.{process_history}
use Rattle.demands.proofs.Questions.{Came, flight_fresh}
use Rattle.demands.proofs.Undo.{Backward, apart_none, Undid, undid_entry, undid_delivery}

-- ---- an undo is the same deed at two states that have the same process there
pub same_undo : {s a : State} {d e : Deed} {w u : Move} → Does s d w → Does a e u → Backward d → Backward e → command_of d ≡ command_of e
    → ((p : ℕ) → actor d ≡ some p → a.processes p ≡ s.processes p) → d ≡ e
unfolding Backward command_of actor
same_undo (forward _ _ _ _) b x y c keep = absurd x
same_undo (sched _ _) b x y c keep = absurd x
same_undo (backward _ _) (forward _ _ _ _) x y c keep = absurd y
same_undo {s} {a} (backward {p} {before} {older} {kind} i un) (backward {p = p'} {before = before'} {older = older'} {kind = kind'} j vn) x y c keep =
    let same_place : p ≡ p' = cc in
    let entries : entry_with kind before ∷ older ≡ entry_with kind' before' ∷ older' = process_history (sym i ∙ sym (keep p refl) ∙ ap a.processes same_place ∙ j) in
    let tops : entry_with kind before ≡ entry_with kind' before' = cc in
    let rests : older ≡ older' = cc in
    λ l. undoes (same_place l) (sends (rests l)) (tops l).kind
same_undo (backward _ _) (sched _ _) x y c keep = absurd y
same_undo (backward _ _) (unsched _ _ _ _) x y c keep = let z : ◌≡◌ {A = ℕ} 0 1 = cc in absurd (omega arith)
same_undo (unsched _ _ _ _) (forward _ _ _ _) x y c keep = absurd y
same_undo (unsched _ _ _ _) (backward _ _) x y c keep = let z : ◌≡◌ {A = ℕ} 0 1 = cc in absurd (omega arith)
same_undo (unsched _ _ _ _) (sched _ _) x y c keep = absurd y
same_undo (unsched {t} _ _ _ _) (unsched {t = t'} _ _ _ _) x y c keep = let same_place : t ≡ t' = cc in ap undelivers same_place

-- a forward step undoes no spawn
pub forward_unspawns : (d : Deed) (o : Option ℕ) → ¬ Backward d → Apart (unspawns d) o
unfolding Backward unspawns Apart
forward_unspawns (makes p kind) o n = tt
forward_unspawns (undoes p count kind) o n = absurd (n tt)
forward_unspawns (delivers sender k t) o n = tt
forward_unspawns (undelivers t) o n = absurd (n tt)

backward_spawns : (d : Deed) → Backward d → spawns_into d ≡ none
unfolding Backward spawns_into
backward_spawns (makes p kind) x = absurd x
backward_spawns (undoes p count kind) x = refl
backward_spawns (delivers sender k t) x = absurd x
backward_spawns (undelivers t) x = refl

backward_crossed : (d e : Deed) → Backward d → ¬ Crossed d e
unfolding Backward Crossed
backward_crossed (makes p kind) e x c = absurd x
backward_crossed (undoes p count kind) e x c = c
backward_crossed (delivers sender k t) e x c = absurd x
backward_crossed (undelivers t) e x c = c

-- a message just delivered has come, so its send is not undone
delivered_stays : {s : State} {sender k t : ℕ} {w u : Move} {e : Deed} → Does s (delivers sender k t) w → Does (apply w s) e u → ¬ Unsends sender k e
unfolding Unsends as_send apply set_queue history_at
delivered_stays a (forward _ _ _ _) x = x
delivered_stays a (backward _ (undo_alone b)) x = x.2 (alone_send b)
delivered_stays {s} {sender} {k} {t} (sched {value} {queue} f i) (backward {p} {older = h} j (undo_send {target} {value = value'} g)) x = flight_fresh g came
  where
    same_target : t ≡ target
    same_target =
        let out : sent (history_at s p) (sends h) ≡ some (letter t value) = subst₂ (λ a b. sent (history_at s a) b ≡ some (letter t value)) x.0 x.1 f.out in
        let both : some (letter t value) ≡ some (letter target value') = sym out ∙ g.out in
        cc

    came : Came (apply (post t (queue ++ (message sender k value ∷ []))) s) p (sends h) target
    came = inl (rw (put_same t (queue ++ (message sender k value ∷ [])) s.queues target same_target) (any_middle queue (message sender k value) [] (record { sender = x.0; count = x.1 })))
delivered_stays a (backward _ (undo_receive _)) x = x.2 refl
delivered_stays a (backward _ (undo_spawn _ _ _)) x = x.2 refl
delivered_stays a (sched _ _) x = x
delivered_stays a (unsched _ _ _ _) x = x

pub undid_actor : {d r : Deed} → Undid d r → actor r ≡ actor d
unfolding actor
undid_actor undid_entry = refl
undid_actor undid_delivery = refl

-- an undo's process by its command
unfoldable pub undoer : Command → Option ℕ
undoer (step p) = none
undoer (spawn_into p f) = none
undoer (deliver sender k) = none
undoer (back p) = some p
undoer (undeliver p) = none

pub undo_actor : (d : Deed) → Backward d → actor d ≡ undoer (command_of d)
unfolding Backward actor command_of undoer
undo_actor (makes p kind) x = absurd x
undo_actor (undoes p count kind) x = refl
undo_actor (delivers sender k t) x = absurd x
undo_actor (undelivers t) x = refl

pub corner : {s : State} {d r e : Deed} {w u : Move} → Undid d r → Does s d w → Does (apply w s) e u → Backward e → IndependentDeeds r e → IndependentDeeds d e
unfolding Apart actor mailbox acts_at receiver spawns_into unspawns Crossed
corner {e} (undid_entry {p} {kind}) a b x f = record {
  actors = f.actors;
  mailboxes = tt;
  mail_receive = tt;
  receive_mail = f.receive_mail;
  unspawn_acts = tt;
  acts_unspawn = f.acts_unspawn;
  delivery_unsend = λ y. y;
  unsend_delivery = backward_crossed e (makes p kind) x;
  spawns = rw (backward_spawns e x) (apart_none (as_spawn kind));
}
corner {e} (undid_delivery {sender} {k} {t}) a b x f = record {
  actors = tt;
  mailboxes = f.mailboxes;
  mail_receive = f.mail_receive;
  receive_mail = tt;
  unspawn_acts = tt;
  acts_unspawn = f.acts_unspawn;
  delivery_unsend = delivered_stays a b;
  unsend_delivery = backward_crossed e (delivers sender k t) x;
  spawns = tt;
}
