-- What a request on a state gives, accepted or refused, in words of `run` and of `Rollback`.
use Prim.Native.Nat.{ℕ, ◌<◌}
use mathlib.Core.Path.{◌≡◌, refl, sym, ◌∙◌, ap, subst}
use mathlib.Core.Option.{some}
use mathlib.Core.List.{List, [], ◌∷◌, ◌++◌}
use native.Mathlib.Omega.{arith}
use Rattle.lists.proofs.Tests.{none_not_some, some_injective}
use Rattle.causal.specs.Paths.{done as run_done, more}
use Rattle.causal.proofs.Runs.{run_append}
use Rattle.causal.proofs.Exec.{of_run, to_run}
use Rattle.rules.specs.Answers.{done, not_a_state}
use Rattle.rules.specs.State.{State}
use Rattle.rules.specs.Commands.{Command, Plan, refuse, accept, apply, run, after_plan, run_state}
use Rattle.rules.specs.Sound.{Sound}
use Rattle.rules.specs.Line.{Request, single, rollback_to}
use Rattle.rules.specs.Refusals.{Refused, not_in_pool, is_finished, step_at_spawn, spawn_elsewhere, nothing_matches, is_stuck, target_missing, beyond_places, place_in_pool, too_large_lem, history_full_lem, not_in_flight, no_entry, no_message_queued, entry_held, message_held}
use Rattle.rules.specs.Rollback.{Undos, stop, undo, Rollback, is_done, is_held, no_check, no_process_lem, RolledBack, refused, rolled, rolled_number, rolled_count, rolled_state, rollback}
use Rattle.rules.specs.Replies.{of_plan, of_rollback, perform}
use Rattle.demands.specs.Demands.{Reachable}
use Rattle.demands.proofs.Consequences.{consequences}
use Rattle.demands.proofs.Demands.{demand2}
use Rattle.store.specs.Layout.{image}
use Rattle.store.specs.Loading.{Outcome}
use Rattle.calls.specs.Calls.{outcome, count_in, stored, RequestCall}
use Rattle.calls.specs.Promises.{RollbackStored}

-- the numbers of refusals lie between `done` and 15
pub refused_between : {s : State} {c : Command} {n : ℕ} → Refused s c n → (done < n) × (n < not_a_state)
refused_between (not_in_pool a b) = (omega arith, omega arith)
refused_between (is_finished a b) = (omega arith, omega arith)
refused_between (step_at_spawn a) = (omega arith, omega arith)
refused_between (spawn_elsewhere a b d) = (omega arith, omega arith)
refused_between (nothing_matches a b) = (omega arith, omega arith)
refused_between (is_stuck a) = (omega arith, omega arith)
refused_between (target_missing a b) = (omega arith, omega arith)
refused_between (beyond_places a b) = (omega arith, omega arith)
refused_between (place_in_pool a b d) = (omega arith, omega arith)
refused_between (too_large_lem a b) = (omega arith, omega arith)
refused_between (history_full_lem a b d) = (omega arith, omega arith)
refused_between (not_in_flight a) = (omega arith, omega arith)
refused_between (no_entry a) = (omega arith, omega arith)
refused_between (no_message_queued a b) = (omega arith, omega arith)
refused_between (entry_held a b) = (omega arith, omega arith)
refused_between (message_held a b d) = (omega arith, omega arith)

pub rollback_below : {s end : State} {p t a n : ℕ} → Rollback s p t a n end → a < not_a_state
rollback_below (is_done a b d) = omega arith
rollback_below (is_held a b d) = omega arith
rollback_below (no_check a b) = omega arith
rollback_below (no_process_lem a) = omega arith

-- one more accepted command, or accepted undos, lead on from a state reached from a load
pub reach_on : (s a : State) (c : Command) → Reachable s → run_state c s ≡ some a → Reachable a
reach_on s a c r e = record {
  module' = r.module';
  sizes = r.sizes;
  root = r.root;
  is_load = r.is_load;
  commands = r.commands ++ (c ∷ []);
  lead = to_run run_state (run_append (of_run run_state r.commands r.lead) (more (record { accepted = e }) run_done));
}

reach_undos : {s end : State} {n : ℕ} → Undos s end n → Reachable s → Reachable end
reach_undos stop r = r
reach_undos {s} {end} (undo {m = m} c u e rest) r = reach_undos rest (reach_on s m c r e)

reach_rollback : {s end : State} {p t a n : ℕ} → Rollback s p t a n end → Reachable s → Reachable end
reach_rollback (is_done a b d) r = reach_undos d.undos r
reach_rollback (is_held a b d) r = r
reach_rollback (no_check a b) r = r
reach_rollback (no_process_lem a) r = r

-- what a plan stores
accepted_plan : (a b : State) (rest : List ℕ) (plan : Plan) → after_plan plan a ≡ some b → stored (of_plan a plan) rest ≡ outcome done 0 (image b ++ rest)
unfolding after_plan of_plan stored count_in
accepted_plan a b rest (refuse number) e = none_not_some e
accepted_plan a b rest (accept deed move) e = ap (λ (x : State). outcome done 0 (image x ++ rest)) (some_injective e)

pub accepted_stored : (c : Command) (a b : State) (rest : List ℕ) → run_state c a ≡ some b → stored (perform (single c) a) rest ≡ outcome done 0 (image b ++ rest)
unfolding run_state perform
accepted_stored c a b rest e = accepted_plan a b rest (run c a) e

-- a command that is answered 0 is accepted
done_plan : (s : State) (c : Command) (rest : List ℕ) (plan : Plan) → Sound s → run c s ≡ plan → (stored (of_plan s plan) rest).number ≡ done → (a : State) × (after_plan plan s ≡ some a)
unfolding after_plan of_plan stored
done_plan s c rest (refuse number) sound e h =
    let (above, below) = refused_between ((demand2.refused_is_listed s c number sound).0 e) in
    absurd (omega (arith, h, above))
done_plan s c rest (accept deed move) sound e h = (apply move s, refl)

pub done_accepted : (s : State) (c : Command) (rest : List ℕ) → Sound s → (stored (perform (single c) s) rest).number ≡ done → (a : State) × (run_state c s ≡ some a)
unfolding run_state perform
done_accepted s c rest sound h = done_plan s c rest (run c s) sound refl h

-- a rollback stores what `Rollback` allows
rolled_stored : (s : State) (rest : List ℕ) (r : RolledBack) → stored (of_rollback s r) rest ≡ outcome (rolled_number r) (rolled_count r) (image (rolled_state s r) ++ rest)
unfolding stored of_rollback rolled_number rolled_count rolled_state count_in
rolled_stored s rest (refused number) = refl
rolled_stored s rest (rolled count end) = refl

rolled_after : (s : State) (r : RolledBack) → (of_rollback s r).after ≡ rolled_state s r
unfolding of_rollback rolled_state
rolled_after s (refused number) = refl
rolled_after s (rolled count end) = refl

pub rollback_outcome : (s : State) (rest : List ℕ) (p t : ℕ)
    → stored (perform (rollback_to p t) s) rest ≡ outcome (rolled_number (rollback p t s)) (rolled_count (rollback p t s)) (image (rolled_state s (rollback p t s)) ++ rest)
unfolding perform
rollback_outcome s rest p t = rolled_stored s rest (rollback p t s)

pub rollback_stored : RollbackStored
unfolding RequestCall
rollback_stored = record {
  allowed = λ s rest p t o sound call.
      let e : o ≡ outcome (rolled_number (rollback p t s)) (rolled_count (rollback p t s)) (image (rolled_state s (rollback p t s)) ++ rest) = call.on_image s rest sound refl ∙ rollback_outcome s rest p t in (
        rolled_state s (rollback p t s),
        subst (λ (x : Outcome). Rollback s p t x.number x.value (rolled_state s (rollback p t s))) (sym e) (demand2.rollback_allowed s p t sound),
        ap (λ (x : Outcome). x.left) e,
      );
}

-- the state after any request is reached, and its answer is below 15
reach_plan : (s : State) (c : Command) (plan : Plan) → Reachable s → run c s ≡ plan → Reachable (of_plan s plan).after
unfolding of_plan run_state after_plan
reach_plan s c (refuse number) r e = r
reach_plan s c (accept deed move) r e = reach_on s (apply move s) c r (ap (λ (x : Plan). after_plan x s) e)

pub reach_request : (request : Request) (s : State) → Reachable s → Reachable (perform request s).after
unfolding perform
reach_request (single c) s r = reach_plan s c (run c s) r refl
reach_request (rollback_to p t) s r =
    subst Reachable (sym (rolled_after s (rollback p t s))) (reach_rollback (demand2.rollback_allowed s p t (consequences.sound.reached s r)) r)

below_plan : (s : State) (c : Command) (plan : Plan) → Sound s → run c s ≡ plan → (of_plan s plan).number < not_a_state
unfolding of_plan
below_plan s c (refuse number) sound e = (refused_between ((demand2.refused_is_listed s c number sound).0 e)).1
below_plan s c (accept deed move) sound e = omega arith

pub below_request : (request : Request) (s : State) (rest : List ℕ) → Sound s → (stored (perform request s) rest).number < not_a_state
unfolding perform stored
below_request (single c) s rest sound = below_plan s c (run c s) sound refl
below_request (rollback_to p t) s rest sound =
    subst (λ (x : Outcome). x.number < not_a_state) (sym (rolled_stored s rest (rollback p t s))) (rollback_below (demand2.rollback_allowed s p t sound))
