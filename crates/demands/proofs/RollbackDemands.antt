-- What is demanded of rollback holds.
use Prim.Native.Nat.{ℕ, zero, suc, ◌≤◌, ◌+◌}
use mathlib.Core.Path.{◌≡◌, refl, sym, ◌∙◌, ap, subst}
use mathlib.Core.Logic.{◌⊎◌, inl, inr, ◌↔◌}
use mathlib.Core.Bool.{true, false}
use mathlib.Core.Option.{some}
use mathlib.Core.List.{List, [], ◌∷◌, ◌++◌}
use native.Mathlib.Decide.{ℕ_discrete}
use native.Mathlib.Omega.{arith}
use lib.ListN.{length}
use Rattle.lists.specs.Lists.{keep}
use Rattle.lists.proofs.Tests.{ltb_false, ltb_over}
use Rattle.machine.proofs.WorkLaws.{work_laws}
use Rattle.causal.specs.Directed.{Directed, stay, go}
use Rattle.causal.specs.Exec.{Step}
use Rattle.rules.specs.Answers.{held}
use Rattle.rules.specs.State.{Sizes, Entry, State, history_at}
use Rattle.rules.specs.Load.{loaded}
use Rattle.rules.specs.Commands.{Command, Deed, makes, undoes, delivers, undelivers, entry_with, run_state}
use Rattle.rules.specs.Rules.{process}
use Rattle.rules.specs.Sound.{Sound}
use Rattle.rules.specs.Depends.{queues_shown, shown_in, arrivals, Series, entries_of, deliveries_to, level, happened, WithDependents, event, Event}
use Rattle.rules.specs.Standing.{Suffix, whole, older}
use Rattle.rules.specs.Rollback.{Removes, Rollback, is_done, is_held, no_check, no_process_lem, stays, cut_before, RolledBack, refused, rolled, undo_to}
use Rattle.rules.specs.Reverse.{is_forward}
use Rattle.rules.specs.Reverse
use Rattle.demands.specs.Demands.{Reachable}
use Rattle.demands.specs.RollbackDemands.{DependentsAreACut, gone_at, events_gone, RemovalIsDetermined, AnyEventGoes, NeverHeld, RollbackDemands}
use Rattle.demands.proofs.Undo.{Backward}
use Rattle.demands.proofs.SoundLoad.{sizes_say, Loads, loads_of, load_history}
use Rattle.demands.proofs.Reached.{Reached, reached_load}
use Rattle.demands.proofs.Steps.{taken, goes_forward}
use Rattle.demands.proofs.Consequences.{consequences}
use Rattle.demands.proofs.Positions.{Had, now, past}
use Rattle.demands.proofs.Event.{Forward, low}
use Rattle.demands.proofs.EventSound.{had_undone, sound_undone}
use Rattle.demands.proofs.Removal.{Back, halt, took, back_under, sound_back, in_level, level_in, removes_run, removes_one, greedy, counted, total}
use Rattle.demands.proofs.Cut.{dependents_up, upto, cut_is, cut_below, cut_closed}
use Rattle.demands.proofs.Rollback.{cut_removes, newest_low, Outcome, removed, stands, undo_outcome, rollback_is}
use Rattle.demands.proofs.Never.{Ahead, start, went, ahead_reached, never}

-- ---- the cut
dependents_are_a_cut : DependentsAreACut
unfolding stays
dependents_are_a_cut = record { newest = newest; cut = cut }
  where
    newest : (s : State) (d : Event) (x : Series) (i j : ℕ) → WithDependents s d (event x i) → i ≤ j → happened s (event x j) ≡ true → WithDependents s d (event x j)
    newest s (event y k) x i j d h g = elim (ℕ_discrete i j) [ yes e ↦ subst (λ j. WithDependents s (event y k) (event x j)) e d | no n ↦ upto (dependents_up s y k) x d (omega arith) (in_level s x g) ]

    cut : (s : State) (d e : Event) → Sound s → happened s d ≡ true → happened s e ≡ true → (stays (cut_before s d) e ≡ false) ↔ WithDependents s d e
    cut s (event x i) (event y j) sound h g =
        let c = cut_is sound x i (in_level s x h) in
        (λ e. c.goes y j (in_level s y g) (ltb_false j (cut_before s (event x i) y) e), λ d. ltb_over j (cut_before s (event x i) y) (c.stays_out y j d))

-- ---- removal
newer_of : {g h : List Entry} → Suffix g h → (newer : List Entry) × (h ≡ newer ++ g)
newer_of whole = ([], refl)
newer_of (older {e} s) = let (n, i) = newer_of s in (e ∷ n, ap (λ z. e ∷ z) i)

-- what a process has after undos it had before them
had_back : {s t : State} {n x : ℕ} {control : List ℕ} {g : List Entry} → Sound s → Back s t n → Had t x control g → Had s x control g
had_back sound halt h = h
had_back sound (took a b r) h = had_undone a b (had_back (sound_undone sound a b) r h)

had_newer : {s : State} {x : ℕ} {control : List ℕ} {g : List Entry} → Had s x control g
    → (s.processes x ≡ some (process control g)) ⊎ ((newer : List Entry) × (e : Entry) × (history_at s x ≡ newer ++ (e ∷ g)) × (e.before ≡ control))
had_newer (now i) = inl i
had_newer {control} (past {kind} st) = let (newer, i) = newer_of st in inr (newer, entry_with kind control, i, refl)

module _ {s end : State} {set : Event → Type 0} {n : ℕ} (sound : Sound s) (r : Removes s end set n) where
  below : (x : Series) → level end x ≤ level s x
  below = low (back_under sound (removes_run sound r))

  count_gone : n ≡ events_gone s end
  unfolding events_gone total Reverse.total gone_at
  count_gone = omega (arith, counted sound (removes_run sound r), split s.sizes.places)
    where
      split : (m : ℕ) → total m (level s) ≡ Reverse.total (gone_at s end) m + total m (level end)
      split zero = omega arith
      split (suc m) = omega (arith, split m, below (entries_of m), below (deliveries_to m))

removal_is_determined : RemovalIsDetermined
removal_is_determined = record {
  one_end = λ s end end' set n n' sound r r'. removes_one sound r r';
  count = λ s end set n sound r. count_gone sound r;
  histories = λ s end set n p sound r. newer_of ((back_under sound (removes_run sound r)).suffixes p);
  deliveries = λ s end set n q sound r. (back_under sound (removes_run sound r)).firsts q;
  controls = λ s end set n p process sound r i. had_newer (had_back sound (removes_run sound r) (now i));
  sound = λ s end set n sound r. sound_back sound (removes_run sound r);
  greedy = λ s after end set n x sound r e d. greedy x sound r e d;
}

-- ---- rollback
rolled_same : {m n : ℕ} {a b : State} → rolled m a ≡ rolled n b → (m ≡ n) × (a ≡ b)
rolled_same e = (cc, cc)

rolled_refused : {B : Type 0} {n : ℕ} {end : State} → rolled n end ≡ refused held → B
rolled_refused e = let z : ◌≡◌ {A = ℕ} 0 1 = cc in absurd (omega arith)

module _ {s : State} (sound : Sound s) (x : Series) (i : ℕ) (h : happened s (event x i) ≡ true) where
  abbrev Set : Event → Type 0
  Set = WithDependents s (event x i)

  outcome : Outcome sound (cut_is sound x i (in_level s x h)) (cut_below sound x i (in_level s x h)) (undo_to s (cut_before s (event x i)))
  outcome = undo_outcome sound (cut_is sound x i (in_level s x h)) (cut_below sound x i (in_level s x h))

  removes_event : (end : State) (n : ℕ) → (undo_to s (cut_before s (event x i)) ≡ rolled n end) ↔ Removes s end Set n
  removes_event end n = (there_to (undo_to s (cut_before s (event x i))) outcome, back_to (undo_to s (cut_before s (event x i))) outcome)
    where
      there_to : (r : RolledBack) → Outcome sound (cut_is sound x i (in_level s x h)) (cut_below sound x i (in_level s x h)) r → r ≡ rolled n end → Removes s end Set n
      there_to (rolled m end') (removed q) e = let (a, b) = rolled_same e in subst (λ z. Removes s end Set z) a (subst (λ z. Removes s z Set m) b q)
      there_to (refused _) (stands f) e = rolled_refused (sym e)

      back_to : (r : RolledBack) → Outcome sound (cut_is sound x i (in_level s x h)) (cut_below sound x i (in_level s x h)) r → Removes s end Set n → r ≡ rolled n end
      back_to (rolled m end') (removed q) r = let (a, b) = removes_one sound q r in (λ j. rolled (b j) (a j))
      back_to (refused _) (stands f) r = absurd (f end n r)

  holds_event : (undo_to s (cut_before s (event x i)) ≡ refused held) ↔ ((end : State) (n : ℕ) → ¬ Removes s end Set n)
  holds_event = (there_to (undo_to s (cut_before s (event x i))) outcome, back_to (undo_to s (cut_before s (event x i))) outcome)
    where
      there_to : (r : RolledBack) → Outcome sound (cut_is sound x i (in_level s x h)) (cut_below sound x i (in_level s x h)) r → r ≡ refused held → (end : State) (n : ℕ) → ¬ Removes s end Set n
      there_to (rolled m end') (removed q) e = rolled_refused e
      there_to (refused _) (stands f) e = f

      back_to : (r : RolledBack) → Outcome sound (cut_is sound x i (in_level s x h)) (cut_below sound x i (in_level s x h)) r → ((end : State) (n : ℕ) → ¬ Removes s end Set n) → r ≡ refused held
      back_to (rolled m end') (removed q) f = absurd (f end' m q)
      back_to (refused _) (stands f) g = refl

any_event_goes : AnyEventGoes
any_event_goes = record {
  removes = removes_any;
  holds = holds_any;
}
  where
    removes_any : (s end : State) (d : Event) (n : ℕ) → Sound s → happened s d ≡ true → (undo_to s (cut_before s d) ≡ rolled n end) ↔ Removes s end (WithDependents s d) n
    removes_any s end (event x i) n sound h = removes_event sound x i h end n

    holds_any : (s : State) (d : Event) → Sound s → happened s d ≡ true → (undo_to s (cut_before s d) ≡ refused held) ↔ ((end : State) (n : ℕ) → ¬ Removes s end (WithDependents s d) n)
    holds_any s (event x i) sound h = holds_event sound x i h

-- ---- after a load
forward_of : (d : Deed) → ¬ Backward d → Forward d
unfolding Backward Forward
forward_of (makes p kind) n = tt
forward_of (undoes p count kind) n = absurd (n tt)
forward_of (delivers s k t) n = tt
forward_of (undelivers t) n = absurd (n tt)

directed_ahead : {root s e : State} {ts : List Command} → Reached root → Ahead root s → Directed (Step run_state) is_forward true s ts e → Ahead root e
directed_ahead r h stay = h
directed_ahead {root} {s} {e} r h (go {a} {t} p f rest) =
    let k = taken (ahead_reached r h).sound.pool_ends p.accepted in
    directed_ahead r (subst (Ahead root) (sym k.gives) (went h k.does (forward_of k.deed (goes_forward k.deed (ap is_forward k.is ∙ f))))) rest

root_reached : {module' : List ℕ} {sizes : Sizes} {s : State} → Loads module' sizes s → Reached s
root_reached {module'} {sizes} l =
    let say = sizes_say sizes l.sizes_pass in
    subst Reached l.is (reached_load module' sizes (work_laws module' sizes.places l.module_passes say.some_place (omega (arith, say.few_places))) l.sizes_pass l.module_passes)

-- nothing has happened at a load
pub root_empty : (module' : List ℕ) (sizes : Sizes) (x : Series) → level (loaded module' sizes) x ≡ 0
unfolding level arrivals queues_shown shown_in loaded keep
root_empty module' sizes (entries_of p) = ap length (load_history module' sizes p)
root_empty module' sizes (deliveries_to q) = ap (λ h. length (shown_in [] (queues_shown h []))) (load_history module' sizes q)

module _ {s : State} (r : Reachable s) where
  from_load : Loads r.module' r.sizes r.root
  from_load = loads_of r.module' r.sizes r.is_load

  ahead : Ahead r.root s
  ahead = directed_ahead (root_reached from_load) start (consequences.turn.forward_only r.module' r.sizes r.root s r.commands r.is_load r.lead).forward_part

  reachable_sound : Sound s
  reachable_sound = (ahead_reached (root_reached from_load) ahead).sound

  removable : (d : Event) → happened s d ≡ true → (end : State) × (n : ℕ) × Removes s end (WithDependents s d) n
  removable (event x i) h =
      let sound = reachable_sound in
      let c = cut_is sound x i (in_level s x h) in
      let low_enough = cut_below sound x i (in_level s x h) in
      let (end, n, q, e) = never (root_reached from_load) (λ y. ap (λ z. level z y) (sym from_load.is) ∙ root_empty r.module' r.sizes y) (cut_before s (event x i)) ahead (cut_closed (dependents_up s x i) c) in
      (end, n, cut_removes sound c low_enough q (λ y. omega (arith, e y, low_enough y)))

  never_held : {a n p t : ℕ} {end : State} → a ≡ held → ¬ Rollback s p t a n end
  unfolding level
  never_held e (is_done _ _ _) = omega arith
  never_held {p} e (is_held {i} live c f) = let (end, n, q) = removable (event (entries_of p) i) (level_in s (entries_of p) (newest_low _ (history_at s p) c)) in f end n q
  never_held e (no_check _ _) = omega arith
  never_held e (no_process_lem _) = omega arith

never_held_at_all : NeverHeld
never_held_at_all = record {
  never = λ s end p t n r x. never_held r refl x;
  answers = λ s p t r e. never_held r e (rollback_is (reachable_sound r) p t);
  removable = λ s d r h. removable r d h;
}

pub rollback_demands : RollbackDemands
rollback_demands = record { dependents = dependents_are_a_cut; removal = removal_is_determined; any_event = any_event_goes; never = never_held_at_all }
