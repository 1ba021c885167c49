-- What a rule allows is accepted by `run`.
use Prim.Native.Nat.{ℕ, ◌<◌, ◌≤◌}
use mathlib.Core.Path.{◌≡◌, refl, ◌∙◌, ap}
use mathlib.Core.Bool.{not}
use mathlib.Core.Option.{some}
use mathlib.Core.List.{List, [], ◌∷◌, ◌++◌}
use native.Mathlib.Omega.{arith}
use lib.ListN.{length, length-append}
use Rattle.lists.specs.Lists.{but_last}
use Rattle.lists.proofs.Tests.{leb_of, ltb_of, and_of}
use Rattle.lists.proofs.Lists.{but_last_before}
use Rattle.rules.specs.Answers.{stuck, place_taken, too_large, history_full, no_message, held}
use Rattle.rules.specs.State.{Message, Kind, Entry, Process, State}
use Rattle.rules.specs.Flight.{left}
use Rattle.rules.specs.Commands.{Deed, makes, delivers, undelivers, Beside, Move, turn, post, accept, entry_with, making, receiving, stepping, spawning, undone, untouched, undoing, backing, undelivering, delivering, at_process, run}
use Rattle.rules.specs.Rules.{process, message, making_of, command_of}
use Rattle.demands.proofs.Does.{by_seq, by_self, by_check, Makes, alone, by_send, by_receive, by_spawn, seq_alone, self_alone, check_alone, undo_alone, undo_send, undo_receive, undo_spawn, Does, forward, backward, sched, unsched}
use Rattle.demands.proofs.Messages.{queue_same}
use Rattle.demands.proofs.Frame.{process_of, history_of_lem}
use Rattle.demands.proofs.Plans.{need_true, of_quiet, of_new}

allowed : (s : State) (p : ℕ) (control : List ℕ) (h : List Entry) {kind : Kind} {next : List ℕ} (beside : Beside) → length h < s.sizes.entries → length next ≤ s.sizes.words
    → making s p (process control h) kind next beside ≡ accept (makes p kind) (turn p (process next (entry_with kind control ∷ h)) beside)
unfolding making
allowed s p control h {next} beside room size =
    need_true too_large _ (leb_of (length next) s.sizes.words size) ∙ need_true history_full _ (ltb_of (length h) s.sizes.entries room)

-- a rule that p could take is what its command comes to
pub run_making : {s : State} {p : ℕ} {control next : List ℕ} {history : List Entry} {kind : Kind} {beside : Beside} → s.processes p ≡ some (process control history)
    → Makes s p control kind next beside → run (making_of p kind) s ≡ making s p (process control history) kind next beside
unfolding run making_of at_process stepping receiving spawning
run_making i (alone (by_seq e)) = rw (i, e) refl
run_making i (alone (by_self e)) = rw (i, e) refl
run_making i (alone (by_check e)) = rw (i, e) refl
run_making i (by_send e live) = rw (i, e) (need_true stuck _ live)
run_making i (by_receive e g) = rw (i, e, g) refl
run_making {s} i (by_spawn {f} e below free) = rw (i, e) (need_true place_taken _ (ltb_of f s.sizes.places below) ∙ need_true place_taken _ (ap not free))

pub run_complete : {s : State} {d : Deed} {w : Move} → Does s d w → run (command_of d) s ≡ accept d w
unfolding run command_of at_process backing undoing undone untouched undelivering delivering
run_complete {s} (forward {p} {control} {history} {beside} i mk r z) = run_making i mk ∙ allowed s p control history beside r z
run_complete (backward i (undo_alone seq_alone)) = rw i refl
run_complete (backward i (undo_alone self_alone)) = rw i refl
run_complete (backward i (undo_alone check_alone)) = rw i refl
run_complete (backward i (undo_send f)) = rw i (need_true held _ f.up)
run_complete (backward i (undo_receive j)) = rw i (need_true held _ (queue_same j))
run_complete {s} (backward i (undo_spawn {q} j empty quiet)) = rw i (need_true held _ (and_of (and_of (of_new j) (queue_same empty)) (ap not (of_quiet s q quiet))))
run_complete {s} (sched {sender} {k} {t} {value} f i) =
    rw f.out (need_true no_message _ f.up ∙ ap (λ queue. accept (delivers sender k t) (post t (queue ++ (message sender k value ∷ [])))) i)
run_complete {s} (unsched {t} m {queue} live i long) = let (a, stands) = process_of s t live in rw stands (go a stands (s.queues t) i)
  where
    go : (a : Process) → s.processes t ≡ some a → (q : List Message) → q ≡ queue ++ (m ∷ []) → undelivering s t a q ≡ accept (undelivers t) (post t queue)
    go a stands [] e = absurd (omega (arith, simp length-append at (ap length e)))
    go a stands (x ∷ c) e =
        need_true held _ (ltb_of (length (left a.history)) (length (x ∷ c)) (omega (arith, long, ap length e, ap (λ h. length (left h)) (history_of_lem s t stands))))
        ∙ ap (λ q. accept (undelivers t) (post t q)) (ap but_last e ∙ but_last_before queue m)
