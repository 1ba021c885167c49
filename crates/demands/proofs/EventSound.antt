-- An undo takes a sound state to a sound state, whatever one process step does: nothing of the machine is asked for.
use Prim.Native.Nat.{ℕ, ◌≤◌}
use mathlib.Core.Path.{◌≡◌, sym, ◌∙◌, ap, subst}
use mathlib.Core.Bool.{true}
use mathlib.Core.Option.{none, some}
use mathlib.Core.List.{List, ◌∷◌}
use native.Mathlib.Decide.{ℕ_discrete}
use lib.ListN.{length}
use Rattle.lists.specs.Tables.{put}
use Rattle.lists.proofs.Tables.{put_same, put_other}
use Rattle.lists.proofs.Tests.{none_not_some, some_injective}
use Rattle.term.specs.Module.{check_module}
use Rattle.term.specs.Control.{good_control, module_arities}
use Rattle.machine.specs.Work.{work}
use Rattle.rules.specs.State.{Kind, Entry, State, history_at, entry_at}
use Rattle.rules.specs.Load.{good_sizes}
use Rattle.rules.specs.Commands.{Deed, Move, set_process, set_queue, set_beside, apply, entry_with}
use Rattle.rules.specs.Rules.{process}
use Rattle.rules.specs.Sound.{SoundControl, Sound}
use Rattle.demands.proofs.Does.{undo_alone, undo_send, undo_receive, undo_spawn, Does, forward, backward, sched, unsched}
use Rattle.demands.proofs.Histories.{suffix_top, suffix_entry, entry_suffix}
use Rattle.demands.proofs.Frame.{turned, same_module, same_sizes, history_of_lem}
use Rattle.demands.proofs.Undo.{Backward}
use Rattle.demands.proofs.SoundMail.{targets_after, no_queue_after, once_after, nothing_else_after, prefixes_after}
use Rattle.demands.proofs.SoundSpawns.{place_0_after, pool_ends_after, history_fits_after, born_after, born_once_after, place_0_unborn_after, children_after}
use Rattle.demands.proofs.Positions.{Had, now, past}
use Rattle.demands.proofs.Event.{suffix_trans, suffix_back}

-- ---- what a process has after an undo it had before
returned : {s : State} {p x : ℕ} {kind : Kind} {before top control : List ℕ} {h g : List Entry} → s.processes p ≡ some (process top (entry_with kind before ∷ h))
    → Dec (p ≡ x) → put p (some (process before h)) s.processes x ≡ some (process control g) → Had s x control g
returned {s} {p} {x} {kind} {before} {h = h} i (yes u) e =
    let f = some_injective (sym (put_same p (some (process before h)) s.processes x u) ∙ e) in
    past {kind = kind} (suffix_top (history_of_lem s x (ap s.processes (sym u) ∙ i) ∙ (λ l. entry_with kind (f l).control ∷ (f l).history)))
returned {s} {p} {x} i (no n) e = now (sym (put_other p _ s.processes x n) ∙ e)

had_before : {s : State} {d : Deed} {w : Move} {x : ℕ} {control : List ℕ} {g : List Entry} → Does s d w → Backward d → (apply w s).processes x ≡ some (process control g) → Had s x control g
unfolding apply set_beside set_process set_queue Backward
had_before (forward _ _ _ _) b e = absurd b
had_before {s} {x} (backward {p} i (undo_alone _)) b e = returned i (ℕ_discrete p x) e
had_before {s} {x} (backward {p} i (undo_send _)) b e = returned i (ℕ_discrete p x) e
had_before {s} {x} (backward {p} i (undo_receive _)) b e = returned i (ℕ_discrete p x) e
had_before {s} {x} {control} {g} (backward {p} {before} {older} i (undo_spawn {q} j _ _)) b e = go (ℕ_discrete q x)
  where
    go : Dec (q ≡ x) → Had s x control g
    go (yes u) = none_not_some (sym (put_same q none _ x u) ∙ e)
    go (no u) = returned i (ℕ_discrete p x) (sym (put_other q none _ x u) ∙ e)
had_before (sched _ _) b e = absurd b
had_before (unsched _ _ _ _) b e = now e

pub had_undone : {s : State} {d : Deed} {w : Move} {x : ℕ} {control : List ℕ} {g : List Entry} → Does s d w → Backward d → Had (apply w s) x control g → Had s x control g
had_undone a b (now i) = had_before a b i
had_undone {x} a b (past st) = past (suffix_trans st (suffix_back (turned x a) b))

module _ {s : State} (sound : Sound s) {d : Deed} {w : Move} (a : Does s d w) (b : Backward d) where
  entry_before : (x i : ℕ) {e : Entry} → entry_at (history_at (apply w s) x) i ≡ some e → (j : ℕ) × (entry_at (history_at s x) j ≡ some e)
  entry_before x i stands =
      let (g, st, n) = entry_suffix (history_at (apply w s) x) i stands in
      (length g, suffix_entry (suffix_trans st (suffix_back (turned x a) b)))

  had_sound : {x : ℕ} {control : List ℕ} {g : List Entry} → Had s x control g → SoundControl s control
  had_sound {x} {control} {g} (now i) = sound.controls x (process control g) i
  had_sound {x} {control} {g} (past {kind} st) = sound.controls_before x (length g) (entry_with kind control) (suffix_entry st)

  control_after : {control : List ℕ} → SoundControl s control → SoundControl (apply w s) control
  control_after {control} c = record {
    good = subst (λ sizes. good_control sizes.places (module_arities (apply w s).module') control ≡ true) (sym (same_sizes w s))
        (subst (λ module'. good_control s.sizes.places (module_arities module') control ≡ true) (sym (same_module w s)) c.good);
    fits = subst (λ sizes. length control ≤ sizes.words) (sym (same_sizes w s)) c.fits;
  }

  pub sound_undone : Sound (apply w s)
  sound_undone = record {
    sizes_pass = ap good_sizes (same_sizes w s) ∙ sound.sizes_pass;
    module_passes = ap check_module (same_module w s) ∙ sound.module_passes;
    place_0 = place_0_after sound a;
    pool_ends = pool_ends_after sound a;
    no_queue_elsewhere = no_queue_after sound a;
    history_fits = history_fits_after sound a;
    controls = λ p process' i. control_after (had_sound (had_before a b i));
    controls_before = λ p i e stands. let o = entry_before p i stands in control_after (sound.controls_before p o.0 e o.1);
    check_numbers = λ p i number e stands is. let o = entry_before p i stands in sound.check_numbers p o.0 number e o.1 is;
    sends_said = λ p i target value e stands is.
        let o = entry_before p i stands in
        let z = sound.sends_said p o.0 target value e o.1 is in
        record { next = z.next; sends = ap (λ module'. work module' e.before) (same_module w s) ∙ z.sends };
    born = born_after sound a;
    born_once = born_once_after sound a;
    place_0_unborn = place_0_unborn_after sound a;
    children_in_pool = children_after sound a;
    targets_in_pool = targets_after sound a;
    once = once_after sound a;
    nothing_else = nothing_else_after sound a;
    prefixes = prefixes_after sound a;
  }
