-- The laws of reversible systems hold of `run` from a load, so it is causally consistent.
use Prim.Native.Nat.{ℕ, suc}
use mathlib.Core.Path.{◌≡◌, refl, sym, ◌∙◌, ap, subst, subst₂}
use mathlib.Core.Logic.{◌≢◌, inl, inr}
use mathlib.Core.Bool.{true, false, not}
use mathlib.Core.Option.{some}
use mathlib.Core.List.{List, [], ◌∷◌}
use native.Mathlib.Omega.{arith}
use lib.ListN.{length, length-append}
use Rattle.lists.proofs.Tests.{true_or_false}
use Rattle.causal.specs.Laws.{Laws}
use Rattle.causal.specs.Exec.{Step}
use Rattle.causal.specs.RunsAgree.{ConsistencyOfRuns}
use Rattle.causal.proofs.Exec.{consistency_of_runs, exec_deterministic}
use Rattle.rules.specs.State.{Sizes, State}
use Rattle.rules.specs.Load.{loaded}
use Rattle.rules.specs.Commands.{Command, deliver, Deed, Move, apply, run_state}
use Rattle.rules.specs.Rules.{command_of}
use Rattle.rules.specs.Independent.{Apart, actor, IndependentDeeds, Independent}
use Rattle.rules.specs.Sound.{Sound}
use Rattle.rules.specs.Reverse.{undeliver_of, reverse, is_forward, amount_done}
use Rattle.demands.proofs.Does.{Does, forward, backward, sched, unsched}
use Rattle.demands.proofs.Histories.{nil_cons}
use Rattle.demands.proofs.Frame.{keep_process, history_of_lem}
use Rattle.demands.proofs.Questions.{live_spawns, actor_live}
use Rattle.demands.proofs.Square.{independent_sym}
use Rattle.demands.proofs.RunSound.{run_sound}
use Rattle.demands.proofs.Undo.{Undo, Undid, undo_forward, undid_forward, undo_deliver, undid_deliver, Backward}
use Rattle.demands.proofs.Knows.{calm}
use Rattle.demands.proofs.Amount.{amount_grows}
use Rattle.demands.proofs.SoundLoad.{load_history}
use Rattle.demands.proofs.Reached.{Reached, reached_after, making_reverse, reversed, reverse_opposite}
use Rattle.demands.proofs.Corner.{same_undo, forward_unspawns, undid_actor, undoer, undo_actor, corner}
use Rattle.demands.proofs.SameCommand.{same_command?}
use Rattle.demands.proofs.Steps.{Taken, taken, does_runs, undo_runs, goes_back, goes_forward, commuting, same_deed, taken_apart, taken_independent, undos_apart}

abbrev Runs : State → Command → State → Type 0
Runs = Step run_state

took : {s a : State} {t : Command} → Reached s → Runs s t a → Taken s t a
took r p = taken r.sound.pool_ends p.accepted

pub reached_step : {s a : State} {t : Command} → Reached s → Runs s t a → Reached a
reached_step r p = let k = took r p in rw k.gives (reached_after r k.does)

reversible : {s a : State} {t : Command} → Reached s → Runs s t a → Runs a (reverse s t) s
reversible {s} {a} {t} r p =
    let k = took r p in
    record { accepted = undo_runs (subst₂ (λ x c. Undo x s (reverse s c)) (sym k.gives) k.is (reversed r k.does)) }

opposite : {s a : State} {t : Command} → Reached s → Runs s t a → is_forward (reverse s t) ≡ not (is_forward t)
opposite {s} r p = let k = took r p in subst (λ c. is_forward (reverse s c) ≡ not (is_forward c)) k.is (reverse_opposite k.does)

grows : {s a : State} {t : Command} → Reached s → Runs s t a → is_forward t ≡ true → amount_done a ≡ suc (amount_done s)
grows r p f = let k = took r p in ap amount_done k.gives ∙ amount_grows r.sound k.does (goes_forward k.deed (ap is_forward k.is ∙ f))

pub symmetric : {s : State} {t u : Command} → Independent s t u → Independent s u t
symmetric i = record {
  deed = i.deed';
  deed' = i.deed;
  move = i.move';
  move' = i.move;
  accepted = i.accepted';
  accepted' = i.accepted;
  apart = independent_sym i.apart;
}

commute : {s a b : State} {t u : Command} → Reached s → Runs s t a → Runs s u b → t ≢ u → Independent s t u → (d : State) × Runs a u d × Runs b t d
commute r p q n i =
    let k = took r p in
    let l = took r q in
    let apart = taken_apart k l i in
    let c = commuting k l apart (calm r.laws r.sound r.learnt k.does l.does apart) in
    (c.end, record { accepted = c.then_u }, record { accepted = c.then_t })

backward_independent : {s a b : State} {t u : Command} → Reached s → Runs s t a → Runs s u b → is_forward t ≡ false → is_forward u ≡ false → t ≢ u → Independent s t u
backward_independent r p q f g n = let k = took r p in let l = took r q in taken_independent k l (undos_apart k l f g n)

-- ---- the corner
-- the deed of the reverse of a forward deed
record Reversing (s : State) (d : Deed) (w : Move) : Type 0 where
  deed : Deed
  move : Move
  does : Does (apply w s) deed move
  is : command_of deed ≡ reverse s (command_of d)
  undid : Undid d deed

reversing : {s : State} {d : Deed} {w : Move} → Sound s → Does s d w → ¬ Backward d → Reversing s d w
unfolding Backward command_of reverse undeliver_of
reversing {s} sound (forward {p} {kind} i mk room size) n =
    let undo = undo_forward sound (forward i mk room size) in
    record { deed = undo.deed; move = undo.move; does = undo.does; is = undo.is ∙ sym (making_reverse s p kind); undid = undid_forward sound (forward i mk room size) }
reversing sound (backward _ _) n = absurd (n tt)
reversing {s} sound (sched {sender} {k} f i) n =
    let undo = undo_deliver sound (sched f i) in
    record { deed = undo.deed; move = undo.move; does = undo.does; is = undo.is ∙ sym (ap (undeliver_of (deliver sender k)) f.out); undid = undid_deliver sound (sched f i) }
reversing sound (unsched _ _ _ _) n = absurd (n tt)

module _ {s : State} {d e : Deed} {w u : Move} (r : Reached s) (a : Does s d w) (forth : ¬ Backward d) (b : Does s e u) (back-e : Backward e)
    (i : Independent (apply w s) (reverse s (command_of d)) (command_of e)) where
  later : Does (apply w s) i.deed' i.move' × (command_of i.deed' ≡ command_of e)
  later = run_sound (apply w s) (reached_after r a).sound.pool_ends (command_of e) i.accepted'

  later_back : Backward i.deed'
  later_back = goes_back i.deed' (ap is_forward later.1 ∙ back_is (command_of e) refl)
    where
      back_is : (c : Command) → command_of e ≡ c → is_forward c ≡ false
      back_is c j = elim (true_or_false (is_forward c)) [ inl f ↦ absurd (goes_forward e (ap is_forward j ∙ f) back-e) | inr f ↦ f ]

  -- the undo is the same deed before and after
  same_deeds : e ≡ i.deed'
  same_deeds = same_undo b later.0 back-e later_back (sym later.1) kept
    where
      rev : Reversing s d w
      rev = reversing r.sound a forth

      rev_is : i.deed ≡ rev.deed
      rev_is = same_deed (sym i.accepted ∙ does_runs (reverse s (command_of d)) rev.does rev.is)

      kept : (p : ℕ) → actor e ≡ some p → (apply w s).processes p ≡ s.processes p
      kept p j =
          let off : Apart (actor d) (some p) = subst₂ Apart (ap actor rev_is ∙ undid_actor rev.undid) (undo_actor i.deed' later_back ∙ ap undoer later.1 ∙ sym (undo_actor e back-e) ∙ j) i.apart.actors in
          keep_process p a off (live_spawns a p (actor_live b j)) (forward_unspawns d (some p) forth)

  pub cornered_deeds : IndependentDeeds d e
  cornered_deeds =
      let rev = reversing r.sound a forth in
      let rev_is = same_deed (sym i.accepted ∙ does_runs (reverse s (command_of d)) rev.does rev.is) in
      corner rev.undid a (subst (λ x. Does (apply w s) x i.move') (sym same_deeds) later.0) back-e (subst₂ IndependentDeeds rev_is (sym same_deeds) i.apart)

cornered : {s a b d : State} {t u : Command} → Reached s → Runs s t a → Runs s u b → Runs a u d → is_forward t ≡ true → is_forward u ≡ false → Independent a (reverse s t) u → Independent s t u
cornered {s} {a} {b} {t} {u} r p q o f g i =
    let k = took r p in
    let l = took r q in
    let at_after : Independent (apply k.move s) (reverse s t) u = subst (λ x. Independent x (reverse s t) u) k.gives i in
    let in_deeds : Independent (apply k.move s) (reverse s (command_of k.deed)) (command_of l.deed) =
    subst₂ (λ x y. Independent (apply k.move s) (reverse s x) y) (sym k.is) (sym l.is) at_after in
    taken_independent k l (cornered_deeds r k.does (goes_forward k.deed (ap is_forward k.is ∙ f)) l.does (goes_back l.deed (ap is_forward l.is ∙ g)) in_deeds)

-- ---- at the load nothing is undone
module _ (module' : List ℕ) (sizes : Sizes) where
  nothing_undone : {d : Deed} {w : Move} → Does (loaded module' sizes) d w → ¬ Backward d
  unfolding Backward loaded
  nothing_undone (forward _ _ _ _) x = x
  nothing_undone (backward {p} i _) x = nil_cons (sym (load_history module' sizes p) ∙ history_of_lem (loaded module' sizes) p i)
  nothing_undone (sched _ _) x = x
  nothing_undone (unsched m {queue} _ i _) x = omega (arith, ap length i, length-append queue (m ∷ []))

  start : {a : State} {t : Command} → Reached (loaded module' sizes) → Runs (loaded module' sizes) t a → is_forward t ≡ true
  start {t} r p =
      let k = took r p in
      elim (true_or_false (is_forward t)) [ inl f ↦ f | inr f ↦ absurd (nothing_undone k.does (goes_back k.deed (ap is_forward k.is ∙ f))) ]

  pub laws : Reached (loaded module' sizes) → Laws (Step run_state) reverse Independent is_forward amount_done Reached (loaded module' sizes)
  laws r = record {
    equal? = same_command?;
    good_root = r;
    good_step = reached_step;
    deterministic = exec_deterministic run_state;
    reversible = reversible;
    opposite = opposite;
    grows = grows;
    start = start r;
    symmetric = symmetric;
    square = commute;
    backward_independent = backward_independent;
    corner = cornered;
  }

  pub consistent : Reached (loaded module' sizes) → ConsistencyOfRuns run_state reverse Independent is_forward amount_done Reached (loaded module' sizes)
  consistent r = consistency_of_runs (laws r)
