-- Positions: the controls that a process has and had, each with the history it had then; and how they change.
use Prim.Native.Nat.{ℕ, ◌<◌, ◌≤◌}
use mathlib.Core.Path.{◌≡◌, refl, sym, ◌∙◌, ap, subst}
use mathlib.Core.Logic.{◌⊎◌, inl, inr}
use mathlib.Core.Bool.{true}
use mathlib.Core.Option.{Option, none, some}
use mathlib.Core.List.{List, [], ◌∷◌}
use native.Mathlib.Decide.{ℕ_discrete}
use native.Mathlib.Omega.{arith}
use lib.ListN.{length}
use Rattle.lists.specs.Tables.{put}
use Rattle.lists.proofs.Tables.{put_same, put_other}
use Rattle.lists.proofs.Tests.{none_not_some, some_injective}
use Rattle.rules.specs.State.{Kind, spawn, as_spawn, Entry, Process, State, history_of, history_at, in_pool}
use Rattle.rules.specs.Flight.{sends}
use Rattle.rules.specs.Load.{new_process}
use Rattle.rules.specs.Commands.{Deed, makes, undoes, Beside, Move, turn, other, set_process, set_queue, set_beside, apply, entry_with}
use Rattle.rules.specs.Rules.{process}
use Rattle.rules.specs.Independent.{spawns_into}
use Rattle.rules.specs.Standing.{Suffix, older}
use Rattle.demands.proofs.Does.{Makes, alone, by_send, by_receive, by_spawn, undo_alone, undo_send, undo_receive, undo_spawn, Does, forward, backward, sched, unsched}
use Rattle.demands.proofs.Histories.{suffix_cons, suffix_top, suffix_length}
use Rattle.demands.proofs.Frame.{Turned, same, grown, shrunk, turned, in_pool_lem, history_of_lem}
use Rattle.demands.proofs.Deeds.{Spawning, spawning}

-- ---- entries
-- an entry that is new: its process had its control before, and the older entries
pub record New (s : State) (d : Deed) (x : ℕ) (e : Entry) (g : List Entry) : Type 0 where
  pub is : d ≡ makes x e.kind
  pub was : s.processes x ≡ some (process e.before g)
  pub next : List ℕ
  pub beside : Beside
  pub makes : Makes s x e.before e.kind next beside

-- an entry that stands after stood before, or is new
pub suffix_was : {s : State} {d : Deed} {x : ℕ} {e : Entry} {g h h' : List Entry} → Turned s d x h h' → Suffix (e ∷ g) h' → Suffix (e ∷ g) h ⊎ New s d x e g
suffix_was (same i) st = inl (rw i at st)
suffix_was {s} {d} {x} {e} {g} {h} (grown {next} {beside} kind control i u w mk) st = go (suffix_cons (rw i at st))
  where
    go : ((e ≡ entry_with kind control) × (g ≡ h)) ⊎ Suffix (e ∷ g) h → Suffix (e ∷ g) h ⊎ New s d x e g
    go (inr r) = inl r
    go (inl (j, f)) =
        let k : kind ≡ e.kind = ap (λ y. y.kind) (sym j) in
        let c : control ≡ e.before = ap (λ y. y.before) (sym j) in
        inr (record {
          is = u ∙ ap (makes x) k;
          was = w ∙ (λ l. some (process (c l) (sym f l)));
          next = next;
          beside = beside;
          makes = subst (λ y. Makes s x y e.kind next beside) c (subst (λ y. Makes s x control y next beside) k mk);
        })
suffix_was (shrunk kind before i u) st = inl (rw i (older st))

-- an entry that stood before stands after, or is undone
pub suffix_stays : {s : State} {d : Deed} {x : ℕ} {e : Entry} {g h h' : List Entry} → Turned s d x h h' → Suffix (e ∷ g) h
    → Suffix (e ∷ g) h' ⊎ ((d ≡ undoes x (sends g) e.kind) × (g ≡ h'))
suffix_stays (same i) st = inl (rw i st)
suffix_stays (grown kind control i u w mk) st = inl (rw i (older st))
suffix_stays {d} {x} {e} {g} {h} {h'} (shrunk kind before i u) st = go (suffix_cons (rw i at st))
  where
    go : ((e ≡ entry_with kind before) × (g ≡ h')) ⊎ Suffix (e ∷ g) h' → Suffix (e ∷ g) h' ⊎ ((d ≡ undoes x (sends g) e.kind) × (g ≡ h'))
    go (inr r) = inl r
    go (inl (j, f)) = inr (u ∙ (λ l. undoes x (sends (sym f l)) (sym j l).kind), f)

-- a place with an entry is in the pool
pub suffix_lives : {e : Entry} {g : List Entry} (s : State) (x : ℕ) → Suffix (e ∷ g) (history_at s x) → in_pool s x ≡ true
unfolding history_at history_of
suffix_lives {e} {g} s x st = go (s.processes x) refl st
  where
    go : (o : Option Process) → s.processes x ≡ o → Suffix (e ∷ g) (history_of o) → in_pool s x ≡ true
    go none i st = let z = suffix_length st in absurd (omega arith)
    go (some a) i st = in_pool_lem s x i

-- ---- positions
-- the control is or was that of x, with the history g
pub data Had (s : State) (x : ℕ) (control : List ℕ) (g : List Entry) : Type 0 where
  now : s.processes x ≡ some (process control g) → Had s x control g
  past : {kind : Kind} → Suffix (entry_with kind control ∷ g) (history_at s x) → Had s x control g

pub had_lives : {s : State} {x : ℕ} {control : List ℕ} {g : List Entry} → Had s x control g → in_pool s x ≡ true
had_lives {s} {x} (now i) = in_pool_lem s x i
had_lives {s} {x} (past st) = suffix_lives s x st

-- a position that is new: p's own after its step, or its child's
pub data Fresh (s after : State) (d : Deed) (x : ℕ) (control : List ℕ) (g : List Entry) : Type 0 where
  made : {kind : Kind} {before : List ℕ} {h : List Entry} {beside : Beside} → Makes s x before kind control beside → s.processes x ≡ some (process before h)
      → g ≡ entry_with kind before ∷ h → length h < s.sizes.entries → length control ≤ s.sizes.words → Fresh s after d x control g
  child : (new : Spawning s after d x) → control ≡ new.child → g ≡ [] → Fresh s after d x control g

split : {p x : ℕ} {n : Process} (m : Process) (f : ℕ → Option Process) → Dec (p ≡ x) → put p (some m) f x ≡ some n → ((p ≡ x) × (m ≡ n)) ⊎ (f x ≡ some n)
split {p} {x} m f (yes i) e = inl (i, some_injective (sym (put_same p (some m) f x i) ∙ e))
split {p} {x} m f (no n) e = inr (sym (put_other p (some m) f x n) ∙ e)

module _ {s : State} {x : ℕ} {control : List ℕ} {g : List Entry} where
  made_at : {after : State} {d : Deed} {p : ℕ} {kind : Kind} {before next : List ℕ} {h : List Entry} {beside : Beside} → s.processes p ≡ some (process before h)
      → Makes s p before kind next beside → length h < s.sizes.entries → length next ≤ s.sizes.words
      → ((p ≡ x) × (process next (entry_with kind before ∷ h) ≡ process control g)) ⊎ (s.processes x ≡ some (process control g)) → Had s x control g ⊎ Fresh s after d x control g
  made_at {p} {kind} {before} {next} {h} {beside} i mk r z (inl (u, f)) =
      let c : next ≡ control = ap (λ y. y.control) f in
      inr (made (subst (λ o. Makes s x before kind o beside) c (subst (λ o. Makes s o before kind next beside) u mk)) (ap s.processes (sym u) ∙ i) (sym (ap (λ y. y.history) f)) r (rw c at z))
  made_at i mk _ _ (inr r) = inl (now r)

  gone_at : {after : State} {d : Deed} {p : ℕ} {kind : Kind} {before top : List ℕ} {h : List Entry} → s.processes p ≡ some (process top (entry_with kind before ∷ h))
      → ((p ≡ x) × (process before h ≡ process control g)) ⊎ (s.processes x ≡ some (process control g)) → Had s x control g ⊎ Fresh s after d x control g
  gone_at {p} {kind} {before} {h} i (inl (u, f)) =
      inl (past {kind = kind} (suffix_top (history_of_lem s x (ap s.processes (sym u) ∙ i) ∙ (λ l. entry_with kind (f l).control ∷ (f l).history))))
  gone_at i (inr r) = inl (now r)

now_was : {s : State} {d : Deed} {w : Move} {x : ℕ} {control : List ℕ} {g : List Entry} → Does s d w → (apply w s).processes x ≡ some (process control g)
    → Had s x control g ⊎ Fresh s (apply w s) d x control g
unfolding apply set_beside set_process set_queue spawns_into as_spawn
now_was {s} {x} (forward {p} i (alone j) r z) e = made_at i (alone j) r z (split _ s.processes (ℕ_discrete p x) e)
now_was {s} {x} (forward {p} i (by_send j v) r z) e = made_at i (by_send j v) r z (split _ s.processes (ℕ_discrete p x) e)
now_was {s} {x} (forward {p} i (by_receive j v) r z) e = made_at i (by_receive j v) r z (split _ s.processes (ℕ_discrete p x) e)
now_was {s} {x} {control} {g} (forward {p} {control = before} {history = h} i (by_spawn {child = first} {next} {f = q} j n v) r z) e = go (split (new_process first) _ (ℕ_discrete q x) e)
  where
    after : State
    after = apply (turn p (process (next q) (entry_with (spawn q) before ∷ h)) (other q (some (new_process first)))) s

    go : ((q ≡ x) × (new_process first ≡ process control g)) ⊎ (put p (some (process (next q) (entry_with (spawn q) before ∷ h))) s.processes x ≡ some (process control g))
        → Had s x control g ⊎ Fresh s after (makes p (spawn q)) x control g
    go (inl (u, y)) =
        let new = spawning {x = x} (forward i (by_spawn j n v) r z) (ap some u) in
        inr (child new (ap (λ a. a.control) (some_injective (sym e ∙ new.new))) (sym (ap (λ a. a.history) y)))
    go (inr o) = made_at i (by_spawn j n v) r z (split _ s.processes (ℕ_discrete p x) o)
now_was {s} {x} (backward {p} i (undo_alone _)) e = gone_at i (split _ s.processes (ℕ_discrete p x) e)
now_was {s} {x} (backward {p} i (undo_send _)) e = gone_at i (split _ s.processes (ℕ_discrete p x) e)
now_was {s} {x} (backward {p} i (undo_receive _)) e = gone_at i (split _ s.processes (ℕ_discrete p x) e)
now_was {s} {x} {control} {g} (backward {p} {before} {older = h} i (undo_spawn {q} j n v)) e = go (ℕ_discrete q x)
  where
    go : Dec (q ≡ x) → Had s x control g ⊎ Fresh s (apply (turn p (process before h) (other q none)) s) (undoes p (sends h) (spawn q)) x control g
    go (yes u) = none_not_some (sym (put_same q none _ x u) ∙ e)
    go (no u) = gone_at i (split _ s.processes (ℕ_discrete p x) (sym (put_other q none _ x u) ∙ e))
now_was (sched _ _) e = inl (now e)
now_was (unsched _ _ _ _) e = inl (now e)

pub had_was : {s : State} {d : Deed} {w : Move} {x : ℕ} {control : List ℕ} {g : List Entry} → Does s d w → Had (apply w s) x control g
    → Had s x control g ⊎ Fresh s (apply w s) d x control g
had_was a (now i) = now_was a i
had_was {x} a (past st) = elim (suffix_was (turned x a) st) [ inl r ↦ inl (past r) | inr n ↦ inl (now n.was) ]
