-- What holds in every state reached from a load, and what follows of an accepted command there: it can be reversed by its reverse.
use Prim.Native.Nat.{ℕ}
use mathlib.Core.Path.{◌≡◌, refl, sym, ◌∙◌, ap, subst}
use mathlib.Core.Bool.{true, not}
use mathlib.Core.Option.{none}
use mathlib.Core.List.{List, [], ◌∷◌, ◌++◌}
use Rattle.term.specs.Module.{check_module}
use Rattle.machine.specs.Laws.{WorkLaws}
use Rattle.rules.specs.State.{Message, Kind, seq, send, rec, spawn, self, check, Sizes, State}
use Rattle.rules.specs.Load.{loaded, good_sizes}
use Rattle.rules.specs.Commands.{Command, deliver, back, undeliver, Deed, undelivers, Move, apply}
use Rattle.rules.specs.Rules.{making_of, command_of}
use Rattle.rules.specs.Reverse.{undeliver_of, retake, redeliver, reverse, is_forward}
use Rattle.rules.specs.Sound.{Sound}
use Rattle.demands.proofs.Does.{Does, forward, backward, sched, unsched}
use Rattle.demands.proofs.Histories.{nil_cons, no_suffix}
use Rattle.demands.proofs.Frame.{history_of_lem}
use Rattle.demands.proofs.Undo.{Undo, undo_forward, undo_deliver, undo_undelivered, Backward}
use Rattle.demands.proofs.SoundControls.{LawsAt, laws_after}
use Rattle.demands.proofs.SoundStep.{sound_after}
use Rattle.demands.proofs.SoundLoad.{loaded_sound, load_had, load_history}
use Rattle.demands.proofs.Knows.{Learnt}
use Rattle.demands.proofs.Learn.{learnt_after}
use Rattle.demands.proofs.Replay.{Told, told_after, redo}

pub record Reached (s : State) : Type 0 where
  pub laws : LawsAt s
  pub sound : Sound s
  pub learnt : Learnt s
  pub told : Told s

pub reached_after : {s : State} {d : Deed} {w : Move} → Reached s → Does s d w → Reached (apply w s)
reached_after {s} {w} r a = record {
  laws = laws_after s w r.laws;
  sound = sound_after r.laws r.sound a;
  learnt = learnt_after r.laws r.sound r.learnt a;
  told = told_after r.sound r.told a;
}

module _ (module' : List ℕ) (sizes : Sizes) (laws : WorkLaws module' sizes.places) where
  load_learnt : Learnt (loaded module' sizes)
  unfolding Learnt
  load_learnt x q control g h n = absurd (laws.first_pids q (rw (load_had module' sizes h).0 at n))

  load_told : Told (loaded module' sizes)
  load_told = record {
    steps = λ h. nil_cons (sym (load_had module' sizes h).1);
    first = λ x st h. no_suffix st (load_history module' sizes x);
  }

  pub reached_load : good_sizes sizes ≡ true → check_module module' ≡ none → Reached (loaded module' sizes)
  unfolding loaded
  reached_load good passes = record { laws = laws; sound = loaded_sound module' sizes good passes laws; learnt = load_learnt; told = load_told }

-- ---- reverses
pub makes_forward : (p : ℕ) (kind : Kind) → is_forward (making_of p kind) ≡ true
unfolding is_forward making_of
makes_forward p seq = refl
makes_forward p (send target value) = refl
makes_forward p (rec older m newer) = refl
makes_forward p (spawn f) = refl
makes_forward p self = refl
makes_forward p (check number) = refl

pub making_reverse : (s : State) (p : ℕ) (kind : Kind) → reverse s (making_of p kind) ≡ back p
unfolding reverse making_of
making_reverse s p seq = refl
making_reverse s p (send target value) = refl
making_reverse s p (rec older m newer) = refl
making_reverse s p (spawn f) = refl
making_reverse s p self = refl
making_reverse s p (check number) = refl

redeliver_last : (refused : Command) (queue : List Message) (m : Message) → redeliver refused (queue ++ (m ∷ [])) ≡ deliver m.sender m.count
unfolding redeliver
redeliver_last refused [] m = refl
redeliver_last refused (n ∷ queue) m = redeliver_last (deliver n.sender n.count) queue m

-- the reverse of an accepted command goes the other way, ..
pub reverse_opposite : {s : State} {d : Deed} {w : Move} → Does s d w → is_forward (reverse s (command_of d)) ≡ not (is_forward (command_of d))
unfolding command_of reverse is_forward undeliver_of retake
reverse_opposite {s} (forward {p} {kind} _ _ _ _) = ap is_forward (making_reverse s p kind) ∙ ap not (sym (makes_forward p kind))
reverse_opposite {s} (backward {p} {kind} i _) = rw (history_of_lem s p i) (makes_forward p kind)
reverse_opposite (sched f _) = rw f.out refl
reverse_opposite {s} (unsched {t} m {queue} _ i _) = ap is_forward (ap (redeliver (undeliver t)) i ∙ redeliver_last (undeliver t) queue m)

-- .. and takes the state back: what was done, in every sound state, ..
pub reverse_forward : {s : State} {d : Deed} {w : Move} → Sound s → Does s d w → ¬ Backward d → Undo (apply w s) s (reverse s (command_of d))
unfolding command_of reverse undeliver_of Backward
reverse_forward {s} sound (forward {p} {kind} i mk room size) n = subst (Undo _ s) (sym (making_reverse s p kind)) (undo_forward sound (forward i mk room size))
reverse_forward sound (backward _ _) n = absurd (n tt)
reverse_forward sound (sched f i) n = rw f.out (undo_deliver sound (sched f i))
reverse_forward sound (unsched _ _ _ _) n = absurd (n tt)

-- .. what was undelivered, in every sound state, ..
pub reverse_undelivered : {s : State} {t : ℕ} {w : Move} → Sound s → Does s (undelivers t) w → Undo (apply w s) s (reverse s (undeliver t))
unfolding reverse
reverse_undelivered {s} {t} sound a =
    let (m, queue, j, undo) = undo_undelivered sound a in
    subst (Undo _ s) (sym (ap (redeliver (undeliver t)) j ∙ redeliver_last (undeliver t) queue m)) undo

-- .. and what was undone, in every state reached from a load
pub reversed : {s : State} {d : Deed} {w : Move} → Reached s → Does s d w → Undo (apply w s) s (reverse s (command_of d))
unfolding command_of reverse retake Backward
reversed r (forward i mk room size) = reverse_forward r.sound (forward i mk room size) (λ x. x)
reversed {s} r (backward {p} i un) = rw (history_of_lem s p i) (redo r.sound r.told (backward i un))
reversed r (sched f i) = reverse_forward r.sound (sched f i) (λ x. x)
reversed r (unsched m {queue} v i g) = reverse_undelivered r.sound (unsched m {queue = queue} v i g)
