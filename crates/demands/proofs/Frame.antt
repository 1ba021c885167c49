-- What an accepted command leaves as it was, and how a history changes.
use Prim.Native.Nat.{ℕ}
use mathlib.Core.Path.{◌≡◌, refl, sym, ◌∙◌, ap, subst}
use mathlib.Core.Bool.{true, false}
use mathlib.Core.Option.{Option, none, some}
use mathlib.Core.List.{List, [], ◌∷◌}
use native.Mathlib.Decide.{ℕ_discrete}
use Rattle.lists.specs.Tables.{put}
use Rattle.lists.proofs.Tables.{put_same, put_other}
use Rattle.lists.proofs.Tests.{true_not_false}
use Rattle.machine.specs.Work.{work}
use Rattle.rules.specs.State.{Kind, as_rec, as_spawn, Entry, Process, State, history_of, history_at, is_process, in_pool}
use Rattle.rules.specs.Flight.{sends}
use Rattle.rules.specs.Commands.{Deed, makes, undoes, Beside, nothing, own_queue, other, Move, turn, post, set_process, set_queue, set_beside, apply, entry_with}
use Rattle.rules.specs.Rules.{process}
use Rattle.rules.specs.Independent.{Apart, actor, mailbox, if_rec, receiver, spawns_into, unspawns}
use Rattle.demands.proofs.Does.{MakesAlone, by_seq, by_self, by_check, Makes, alone, by_send, by_receive, by_spawn, undo_alone, undo_send, undo_receive, undo_spawn, Does, forward, backward, sched, unsched}

pub state_path : {s t : State} → s.module' ≡ t.module' → s.sizes ≡ t.sizes → s.processes ≡ t.processes → s.queues ≡ t.queues → s ≡ t
state_path a b c d = λ i. record { module' = a i; sizes = b i; processes = c i; queues = d i }

pub same_module : (w : Move) (s : State) → (apply w s).module' ≡ s.module'
unfolding apply set_beside set_process set_queue
same_module (turn p new nothing) s = refl
same_module (turn p new (own_queue queue)) s = refl
same_module (turn p new (other q o)) s = refl
same_module (post t queue) s = refl

pub same_sizes : (w : Move) (s : State) → (apply w s).sizes ≡ s.sizes
unfolding apply set_beside set_process set_queue
same_sizes (turn p new nothing) s = refl
same_sizes (turn p new (own_queue queue)) s = refl
same_sizes (turn p new (other q o)) s = refl
same_sizes (post t queue) s = refl

-- what a control is about to do stays
pub work_after : (s : State) (w : Move) (control : List ℕ) → work (apply w s).module' control ≡ work s.module' control
work_after s w control = ap (λ module'. work module' control) (same_module w s)

pub alone_after : (s : State) (w : Move) {p : ℕ} {control next : List ℕ} {kind : Kind} → MakesAlone s p control kind next → MakesAlone (apply w s) p control kind next
alone_after s w {control} (by_seq e) = by_seq (work_after s w control ∙ e)
alone_after s w {control} (by_self e) = by_self (work_after s w control ∙ e)
alone_after s w {control} (by_check e) = by_check (work_after s w control ∙ e)

pub keep_process : {s : State} {w : Move} {d : Deed} (x : ℕ) → Does s d w → Apart (actor d) (some x) → Apart (spawns_into d) (some x) → Apart (unspawns d) (some x)
    → (apply w s).processes x ≡ s.processes x
unfolding apply set_beside set_process set_queue Apart actor spawns_into unspawns as_spawn
keep_process x (forward i (alone _) _ _) a b c = simp put_other
keep_process x (forward i (by_send _ _) _ _) a b c = simp put_other
keep_process x (forward i (by_receive _ _) _ _) a b c = simp put_other
keep_process x (forward i (by_spawn _ _ _) _ _) a b c = simp put_other
keep_process x (backward i (undo_alone _)) a b c = simp put_other
keep_process x (backward i (undo_send _)) a b c = simp put_other
keep_process x (backward i (undo_receive _)) a b c = simp put_other
keep_process x (backward i (undo_spawn _ _ _)) a b c = simp put_other
keep_process x (sched _ _) a b c = refl
keep_process x (unsched _ _ _ _) a b c = refl

pub keep_queue : {s : State} {w : Move} {d : Deed} (x : ℕ) → Does s d w → Apart (mailbox d) (some x) → Apart (receiver d) (some x) → (apply w s).queues x ≡ s.queues x
unfolding apply set_beside set_process set_queue Apart mailbox receiver if_rec as_rec
keep_queue x (forward i (alone _) _ _) a b = refl
keep_queue x (forward i (by_send _ _) _ _) a b = refl
keep_queue x (forward i (by_receive _ _) _ _) a b = simp put_other
keep_queue x (forward i (by_spawn _ _ _) _ _) a b = refl
keep_queue x (backward i (undo_alone _)) a b = refl
keep_queue x (backward i (undo_send _)) a b = refl
keep_queue x (backward i (undo_receive _)) a b = simp put_other
keep_queue x (backward i (undo_spawn _ _ _)) a b = refl
keep_queue x (sched _ _) a b = simp put_other
keep_queue x (unsched _ _ _ _) a b = simp put_other

-- ---- in the pool
pub free_place : (o : Option Process) → is_process o ≡ false → o ≡ none
unfolding is_process
free_place none e = refl
free_place (some a) e = true_not_false refl e

pub no_process_lem : (s : State) (p : ℕ) → in_pool s p ≡ false → s.processes p ≡ none
unfolding in_pool
no_process_lem s p e = free_place (s.processes p) e

pub live_place : (o : Option Process) → is_process o ≡ true → (a : Process) × (o ≡ some a)
unfolding is_process
live_place none e = true_not_false e refl
live_place (some a) e = (a, refl)

pub process_of : (s : State) (p : ℕ) → in_pool s p ≡ true → (a : Process) × (s.processes p ≡ some a)
unfolding in_pool
process_of s p e = live_place (s.processes p) e

pub in_pool_lem : (s : State) (p : ℕ) {a : Process} → s.processes p ≡ some a → in_pool s p ≡ true
unfolding in_pool is_process
in_pool_lem s p e = rw e refl

pub not_in_pool : (s : State) (p : ℕ) → s.processes p ≡ none → in_pool s p ≡ false
unfolding in_pool is_process
not_in_pool s p e = rw e refl

pub history_of_lem : (s : State) (p : ℕ) {control : List ℕ} {history : List Entry} → s.processes p ≡ some (process control history) → history_at s p ≡ history
unfolding history_at history_of
history_of_lem s p e = rw e refl

-- ---- how a place's history changes
pub data Turned (s : State) (d : Deed) (x : ℕ) (h h' : List Entry) : Type 0 where
  same : h' ≡ h → Turned s d x h h'
  grown : {next : List ℕ} {beside : Beside} (kind : Kind) (control : List ℕ) → h' ≡ entry_with kind control ∷ h → d ≡ makes x kind → s.processes x ≡ some (process control h)
      → Makes s x control kind next beside → Turned s d x h h'
  shrunk : (kind : Kind) (before : List ℕ) → h ≡ entry_with kind before ∷ h' → d ≡ undoes x (sends h') kind → Turned s d x h h'

grown_at : {s : State} {x p : ℕ} {control next : List ℕ} {h : List Entry} {kind : Kind} {beside : Beside} → p ≡ x → s.processes p ≡ some (process control h)
    → Makes s p control kind next beside → Turned s (makes p kind) x h (entry_with kind control ∷ h)
grown_at {s} {control} {next} {kind} {beside} e i mk = grown kind control refl (ap (λ z. makes z kind) e) (ap s.processes (sym e) ∙ i) (subst (λ z. Makes s z control kind next beside) e mk)

-- the process at p is set
set : {s : State} {d : Deed} {h h' : List Entry} {control : List ℕ} {x p : ℕ} (next : List ℕ) (f : ℕ → Option Process) → Dec (p ≡ x) → f p ≡ some (process control h)
    → (p ≡ x → Turned s d x h h') → Turned s d x (history_of (f x)) (history_of (put p (some (process next h')) f x))
unfolding history_of
set {x} {p} next f (yes e) i t = rw (put_same p, ← ap f e, i) (t e)
set next f (no n) i t = rw put_other (same refl)

-- and then a place with no history
set_other : {s : State} {d : Deed} {h : List Entry} {x q : ℕ} (o : Option Process) (f : ℕ → Option Process) → Dec (q ≡ x) → history_of o ≡ [] → (q ≡ x → h ≡ [])
    → Turned s d x h (history_of (f x)) → Turned s d x h (history_of (put q o f x))
set_other {x} {q} o f (yes e) i n t = same (ap history_of (put_same q o f x e) ∙ i ∙ sym (n e))
set_other o f (no n) i m t = rw put_other t

pub turned : {s : State} {w : Move} {d : Deed} (x : ℕ) → Does s d w → Turned s d x (history_at s x) (history_at (apply w s) x)
unfolding apply set_beside set_process set_queue history_at history_of
turned {s} x (forward {p} i (alone j) _ _) = set _ s.processes (ℕ_discrete p x) i λ e. grown_at e i (alone j)
turned {s} x (forward {p} i (by_send j g) _ _) = set _ s.processes (ℕ_discrete p x) i λ e. grown_at e i (by_send j g)
turned {s} x (forward {p} i (by_receive j g) _ _) = set _ s.processes (ℕ_discrete p x) i λ e. grown_at e i (by_receive j g)
turned {s} x (forward {p} i (by_spawn {f} j n g) _ _) =
    set_other _ _ (ℕ_discrete f x) refl (λ e. ap history_of (ap s.processes (sym e) ∙ no_process_lem s f g)) (set _ s.processes (ℕ_discrete p x) i λ e. grown_at e i (by_spawn j n g))
turned {s} x (backward {p} {before} {kind} i (undo_alone _)) = set _ s.processes (ℕ_discrete p x) i λ e. shrunk kind before refl (cc)
turned {s} x (backward {p} {before} {kind} i (undo_send _)) = set _ s.processes (ℕ_discrete p x) i λ e. shrunk kind before refl (cc)
turned {s} x (backward {p} {before} {kind} i (undo_receive _)) = set _ s.processes (ℕ_discrete p x) i λ e. shrunk kind before refl (cc)
turned {s} x (backward {p} {before} {kind} i (undo_spawn {q} n _ _)) =
    set_other _ _ (ℕ_discrete q x) refl (λ e. ap history_of (ap s.processes (sym e) ∙ n)) (set _ s.processes (ℕ_discrete p x) i λ e. shrunk kind before refl (cc))
turned x (sched _ _) = same refl
turned x (unsched _ _ _ _) = same refl
