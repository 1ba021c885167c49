-- What `run` accepts is a rule's, and by the command of its deed.
use Prim.Native.Nat.{ℕ}
use mathlib.Core.Path.{◌≡◌, refl, ◌∙◌}
use mathlib.Core.Bool.{not, ◌&&◌}
use mathlib.Core.Option.{Option, none, some}
use mathlib.Core.List.{List, [], ◌∷◌, ◌++◌}
use lib.Dec.{leb, ltb}
use lib.ListN.{length}
use Rattle.lists.specs.Lists.{but_last}
use Rattle.lists.proofs.Tests.{leb-true, ltb-true, not_true, and_left, and_right}
use Rattle.lists.proofs.Lists.{last_of}
use Rattle.machine.specs.Work.{Work, to_seq, to_send, to_receive, to_spawn, to_self, to_check, work}
use Rattle.rules.specs.Answers.{stuck, place_taken, too_large, history_full, no_message, held}
use Rattle.rules.specs.State.{Message, Letter, letter, Kind, seq, send, rec, spawn, self, check, as_send, Entry, Process, State, history_at, in_pool, same_queue}
use Rattle.rules.specs.Flight.{sends, sent, left, flies, awaited}
use Rattle.rules.specs.Commands.{Command, step, spawn_into, deliver, back, undeliver, Deed, Beside, Move, accept, Picked, picked, pick, entry_with, making, receiving, stepping, spawning, undone, is_new, untouched, undoing, backing, undelivering, delivering, at_process, run}
use Rattle.rules.specs.Rules.{process, making_of, command_of}
use Rattle.demands.proofs.Does.{by_seq, by_self, by_check, Makes, alone, by_send, by_receive, by_spawn, seq_alone, self_alone, check_alone, Undoes, undo_alone, undo_send, undo_receive, undo_spawn, Does, forward, backward, sched, unsched}
use Rattle.demands.proofs.Messages.{same_queue_lem}
use Rattle.demands.proofs.Histories.{suffix_top, suffix_sent}
use Rattle.demands.proofs.Frame.{in_pool_lem, history_of_lem}
use Rattle.demands.proofs.Plans.{refused, accepted, needed, PoolEnds, quiet_of, new_of}

-- the rules allow it, by that command
abbrev pub By : State → Deed → Move → Command → Type 0
By s d w c = Does s d w × (command_of d ≡ c)

module _ (s : State) (p : ℕ) (control : List ℕ) (h : List Entry) {d : Deed} {w : Move} (i : s.processes p ≡ some (process control h)) where
  made : {kind : Kind} {next : List ℕ} {beside : Beside} → Makes s p control kind next beside → making s p (process control h) kind next beside ≡ accept d w
      → By s d w (making_of p kind)
  unfolding making command_of
  made {kind} {next} {beside} mk e =
      let (size, e₁) = needed (leb (length next) s.sizes.words) too_large e in
      let (room, e₂) = needed (ltb (length h) s.sizes.entries) history_full e₁ in
      accepted (λ d w. By s d w (making_of p kind)) e₂
      (forward i mk (ltb-true (length h) s.sizes.entries room) (leb-true (length next) s.sizes.words size), refl)

  stepped : (o : Work) → work s.module' control ≡ o → stepping s p (process control h) o ≡ accept d w → By s d w (step p)
  unfolding stepping receiving making_of
  stepped Work.finished u e = refused e
  stepped Work.stuck u e = refused e
  stepped (to_seq next) u e = made (alone (by_seq u)) e
  stepped (to_send target value next) u e = let (live, e₁) = needed (in_pool s target) stuck e in made (by_send u live) e₁
  stepped (to_receive takes) u e = take (pick takes (s.queues p)) refl e
    where
      take : (o : Option Picked) → pick takes (s.queues p) ≡ o → receiving s p (process control h) o ≡ accept d w → By s d w (step p)
      take none j e = refused e
      take (some (picked older m newer next)) j e = made (by_receive u j) e
  stepped (to_spawn child next) u e = refused e
  stepped (to_self next) u e = made (alone (by_self u)) e
  stepped (to_check number next) u e = made (alone (by_check u)) e

  spawned : (f : ℕ) (o : Work) → work s.module' control ≡ o → spawning s p (process control h) f o ≡ accept d w → By s d w (spawn_into p f)
  unfolding spawning making_of
  spawned f Work.finished u e = refused e
  spawned f Work.stuck u e = refused e
  spawned f (to_seq next) u e = refused e
  spawned f (to_send target value next) u e = refused e
  spawned f (to_receive takes) u e = refused e
  spawned f (to_spawn child next) u e =
      let (below, e₁) = needed (ltb f s.sizes.places) place_taken e in
      let (free, e₂) = needed (not (in_pool s f)) place_taken e₁ in
      made (by_spawn u (ltb-true f s.sizes.places below) (not_true (in_pool s f) free)) e₂
  spawned f (to_self next) u e = refused e
  spawned f (to_check number next) u e = refused e

module _ (s : State) (ends : PoolEnds s) {d : Deed} {w : Move} where
  undone_by : {p : ℕ} {control before : List ℕ} {older : List Entry} (kind : Kind) {beside : Beside} → s.processes p ≡ some (process control (entry_with kind before ∷ older))
      → Undoes s p (sends older) kind beside → undone p (entry_with kind before) older beside ≡ accept d w → By s d w (back p)
  unfolding undone command_of
  undone_by {p} kind i un e = accepted (λ d w. By s d w (back p)) e (backward i un, refl)

  undoing_by : {p : ℕ} {control before : List ℕ} {older : List Entry} (kind : Kind) → s.processes p ≡ some (process control (entry_with kind before ∷ older))
      → undoing s p (entry_with kind before) older kind ≡ accept d w → By s d w (back p)
  unfolding undoing untouched as_send
  undoing_by seq i e = undone_by seq i (undo_alone seq_alone) e
  undoing_by {p} {older} (send target value) i e =
      let (up, e₁) = needed (flies s p (sends older) target) held e in
      undone_by (send target value) i (undo_send (record { out = suffix_sent (suffix_top (history_of_lem s p i)) refl; up = up })) e₁
  undoing_by {p} (rec before m after) i e =
      let (same, e₁) = needed (same_queue (s.queues p) (before ++ after)) held e in
      undone_by (rec before m after) i (undo_receive (same_queue_lem (s.queues p) (before ++ after) same)) e₁
  undoing_by (spawn q) i e =
      let (un, e₁) = needed (is_new (s.processes q) && same_queue (s.queues q) [] && not (awaited s q)) held e in
      let new = new_of (s.processes q) (and_left (is_new (s.processes q)) (same_queue (s.queues q) []) (and_left (is_new (s.processes q) && same_queue (s.queues q) []) (not (awaited s q)) un)) in
      let empty = and_right (is_new (s.processes q)) (same_queue (s.queues q) []) (and_left (is_new (s.processes q) && same_queue (s.queues q) []) (not (awaited s q)) un) in
      let still = not_true (awaited s q) (and_right (is_new (s.processes q) && same_queue (s.queues q) []) (not (awaited s q)) un) in
      undone_by (spawn q) i (undo_spawn new.1 (same_queue_lem (s.queues q) [] empty) (quiet_of s q ends still)) e₁
  undoing_by self i e = undone_by self i (undo_alone self_alone) e
  undoing_by (check number) i e = undone_by (check number) i (undo_alone check_alone) e

  backed : {p : ℕ} {control : List ℕ} (h : List Entry) → s.processes p ≡ some (process control h) → backing s p h ≡ accept d w → By s d w (back p)
  unfolding backing
  backed [] i e = refused e
  backed (x ∷ older) i e = undoing_by x.kind i e

  undelivered : {p : ℕ} {control : List ℕ} {h : List Entry} (queue : List Message) → s.processes p ≡ some (process control h) → s.queues p ≡ queue
      → undelivering s p (process control h) queue ≡ accept d w → By s d w (undeliver p)
  unfolding undelivering command_of
  undelivered [] i j e = refused e
  undelivered {p} {h} (m ∷ queue) i j e =
      let (longer, e₁) = needed (ltb (length (left h)) (length (m ∷ queue))) held e in
      let (last, whole) = last_of m queue in
      let long = ltb-true (length (left h)) (length (m ∷ queue)) longer in
      accepted (λ d w. By s d w (undeliver p)) e₁
      (unsched last {queue = but_last (m ∷ queue)} (in_pool_lem s p i) (j ∙ whole) (rw (history_of_lem s p i, ← whole) long), refl)

  delivered : {sender k : ℕ} (o : Option Letter) → sent (history_at s sender) k ≡ o → delivering s sender k o ≡ accept d w → By s d w (deliver sender k)
  unfolding delivering command_of
  delivered none i e = refused e
  delivered {sender} {k} (some (letter t value)) i e =
      let (up, e₁) = needed (flies s sender k t) no_message e in
      accepted (λ d w. By s d w (deliver sender k)) e₁ (sched (record { out = i; up = up }) refl, refl)

  pub run_sound : (c : Command) → run c s ≡ accept d w → By s d w c
  unfolding run at_process
  run_sound (step p) e = go (s.processes p) refl e
    where
      go : (o : Option Process) → s.processes p ≡ o → at_process o (λ a. stepping s p a (work s.module' a.control)) ≡ accept d w → By s d w (step p)
      go none i e = refused e
      go (some a) i e = stepped s p a.control a.history i (work s.module' a.control) refl e
  run_sound (spawn_into p f) e = go (s.processes p) refl e
    where
      go : (o : Option Process) → s.processes p ≡ o → at_process o (λ a. spawning s p a f (work s.module' a.control)) ≡ accept d w → By s d w (spawn_into p f)
      go none i e = refused e
      go (some a) i e = spawned s p a.control a.history i f (work s.module' a.control) refl e
  run_sound (deliver sender k) e = delivered (sent (history_at s sender) k) refl e
  run_sound (back p) e = go (s.processes p) refl e
    where
      go : (o : Option Process) → s.processes p ≡ o → at_process o (λ a. backing s p a.history) ≡ accept d w → By s d w (back p)
      go none i e = refused e
      go (some a) i e = backed a.history i e
  run_sound (undeliver p) e = go (s.processes p) refl e
    where
      go : (o : Option Process) → s.processes p ≡ o → at_process o (λ a. undelivering s p a (s.queues p)) ≡ accept d w → By s d w (undeliver p)
      go none i e = refused e
      go (some a) i e = undelivered (s.queues p) i refl e
