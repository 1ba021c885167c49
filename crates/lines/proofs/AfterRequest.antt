-- The state after a request on a sound state is sound, and what a reply says of it is what the rules say.
use Prim.Native.Nat.{ℕ}
use mathlib.Core.Path.{◌≡◌, refl, ap}
use mathlib.Core.Bool.{Bool, true, false}
use mathlib.Core.Option.{Option, none, some}
use native.Mathlib.Omega.{arith}
use lib.ListN.{length}
use Rattle.rules.specs.Answers.{done}
use Rattle.rules.specs.State.{State, history_at, in_pool}
use Rattle.rules.specs.Commands.{Command, Plan, refuse, accept, apply, run, after_plan, run_state}
use Rattle.rules.specs.Sound.{Sound}
use Rattle.rules.specs.Depends.{entries_of, event}
use Rattle.rules.specs.Line.{Request, single, rollback_to}
use Rattle.rules.specs.Rollback.{Cut, Rollback, is_done, RolledBack, refused, rolled, rolled_number, rolled_count, rolled_state, newest_check, cut_before, taken_off, undo_all, undo_to, rollback}
use Rattle.rules.specs.Replies.{of_plan, of_rollback, perform}
use Rattle.demands.proofs.Consequences.{consequences}
use Rattle.demands.proofs.Demands.{demand2}
use Rattle.demands.proofs.RollbackDemands.{rollback_demands}

-- ---- soundness

sound_plan : (s : State) (c : Command) (plan : Plan) → Sound s → run c s ≡ plan → Sound (of_plan s plan).after
unfolding of_plan run_state after_plan
sound_plan s c (refuse number) sound e = sound
sound_plan s c (accept deed move) sound e = consequences.sound.stepped s (apply move s) c sound (ap (λ (x : Plan). after_plan x s) e)

sound_rollback : (s : State) (p t : ℕ) (r : RolledBack) → Sound s → Rollback s p t (rolled_number r) (rolled_count r) (rolled_state s r) → Sound (of_rollback s r).after
unfolding of_rollback rolled_number rolled_count rolled_state
sound_rollback s p t (refused number) sound allowed = sound
sound_rollback s p t (rolled count end) sound (is_done x y removes) = rollback_demands.removal.sound s end _ _ sound removes

pub sound_after : (request : Request) (s : State) → Sound s → Sound (perform request s).after
unfolding perform
sound_after (single c) s sound = sound_plan s c (run c s) sound refl
sound_after (rollback_to p t) s sound = sound_rollback s p t (rollback p t s) sound (demand2.rollback_allowed s p t sound)

-- ---- what was undone

pub plan_undone : (s : State) (plan : Plan) → (of_plan s plan).undone ≡ none
unfolding of_plan
plan_undone s (refuse number) = refl
plan_undone s (accept deed move) = refl

-- a rollback that is refused is not answered `done`
abbrev pub NotDone : RolledBack → Type 0
NotDone (refused number) = ¬ (number ≡ done)
NotDone (rolled count end) = Unit {0}

undo_not_done : (s : State) (cut : Cut) (o : Option State) → undo_all (length (taken_off s cut)) s cut ≡ o → NotDone (undo_to s cut)
unfolding undo_to
undo_not_done s cut none e = rw (e, undo_to) (λ z. absurd (omega (arith, z)))
undo_not_done s cut (some end) e = rw (e, undo_to) tt

pub rollback_not_done : (p t : ℕ) (s : State) (b : Bool) (o : Option ℕ) → in_pool s p ≡ b → newest_check t (history_at s p) ≡ o → NotDone (rollback p t s)
unfolding rollback
rollback_not_done p t s false o e n = rw (e, rollback) (λ z. absurd (omega (arith, z)))
rollback_not_done p t s true none e n = rw (e, n, rollback) (λ z. absurd (omega (arith, z)))
rollback_not_done p t s true (some i) e n = rw (e, n, rollback) (undo_not_done s (cut_before s (event (entries_of p) i)) _ refl)
