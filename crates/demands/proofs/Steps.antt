-- Steps of `run` as states: what an accepted command did, and that the rules' deeds are accepted.
use mathlib.Core.Path.{◌≡◌, refl, sym, ◌∙◌, ap, subst, subst₂}
use mathlib.Core.Logic.{◌≢◌}
use mathlib.Core.Bool.{true, false}
use mathlib.Core.Option.{some}
use Rattle.lists.proofs.Tests.{true_not_false, none_not_some, some_injective}
use Rattle.rules.specs.State.{State}
use Rattle.rules.specs.Commands.{Command, Deed, makes, undoes, delivers, undelivers, Move, apply, Plan, refuse, accept, run, after_plan, run_state}
use Rattle.rules.specs.Rules.{command_of}
use Rattle.rules.specs.Independent.{IndependentDeeds, Independent}
use Rattle.rules.specs.Reverse.{is_forward}
use Rattle.demands.proofs.Does.{Does}
use Rattle.demands.proofs.Plans.{PoolEnds}
use Rattle.demands.proofs.RunSound.{run_sound}
use Rattle.demands.proofs.RunComplete.{run_complete}
use Rattle.demands.proofs.Square.{Calm, square}
use Rattle.demands.proofs.Undo.{Undo, Backward, undos_independent}
use Rattle.demands.proofs.Reached.{makes_forward}

-- an accepted command, with its deed
pub record Taken (s : State) (c : Command) (after : State) : Type 0 where
  pub deed : Deed
  pub move : Move
  pub ran : run c s ≡ accept deed move
  pub does : Does s deed move
  pub is : command_of deed ≡ c
  pub gives : after ≡ apply move s

pub taken : {s after : State} {c : Command} → PoolEnds s → run_state c s ≡ some after → Taken s c after
unfolding run_state after_plan
taken {s} {after} {c} ends e = go (run c s) refl e
  where
    go : (plan : Plan) → run c s ≡ plan → after_plan plan s ≡ some after → Taken s c after
    go (refuse number) i e = none_not_some e
    go (accept deed move) i e = let (does, is) = run_sound s ends c i in record { deed = deed; move = move; ran = i; does = does; is = is; gives = sym (some_injective e) }

pub accepted_runs : (s : State) (c : Command) {d : Deed} {w : Move} → run c s ≡ accept d w → run_state c s ≡ some (apply w s)
unfolding run_state after_plan
accepted_runs s c e = rw (run_state, e) refl

pub does_runs : {s : State} {d : Deed} {w : Move} (c : Command) → Does s d w → command_of d ≡ c → run c s ≡ accept d w
does_runs {s} {d} {w} c a e = subst (λ x. run x s ≡ accept d w) e (run_complete a)

pub does_step : {s : State} {d : Deed} {w : Move} (c : Command) → Does s d w → command_of d ≡ c → run_state c s ≡ some (apply w s)
does_step {s} c a e = accepted_runs s c (does_runs c a e)

pub undo_runs : {after s : State} {c : Command} → Undo after s c → run_state c after ≡ some s
undo_runs {c} u = does_step c u.does u.is ∙ ap some u.gives

-- ---- which way a deed goes
pub goes_back : (d : Deed) → is_forward (command_of d) ≡ false → Backward d
unfolding Backward command_of is_forward
goes_back (makes p kind) e = true_not_false (makes_forward p kind) e
goes_back (undoes p count kind) e = tt
goes_back (delivers sender k t) e = true_not_false refl e
goes_back (undelivers t) e = tt

pub goes_forward : (d : Deed) → is_forward (command_of d) ≡ true → ¬ Backward d
unfolding Backward command_of is_forward
goes_forward (makes p kind) e x = x
goes_forward (undoes p count kind) e x = true_not_false e refl
goes_forward (delivers sender k t) e x = x
goes_forward (undelivers t) e x = true_not_false e refl

-- ---- two accepted commands that are independent and calm commute
pub record Commuting (s a b : State) (t u : Command) : Type 0 where
  pub end : State
  pub then_u : run_state u a ≡ some end
  pub then_t : run_state t b ≡ some end

pub commuting : {s a b : State} {t u : Command} (k : Taken s t a) (l : Taken s u b) → IndependentDeeds k.deed l.deed → Calm k.deed l.deed → Commuting s a b t u
commuting {s} {t} {u} k l apart calm =
    let (after, before, one) = square k.does l.does apart calm in
    record {
      end = apply l.move (apply k.move s);
      then_u = ap (run_state u) k.gives ∙ does_step u after l.is;
      then_t = ap (run_state t) l.gives ∙ does_step t before k.is ∙ ap some (sym one);
    }

-- two accepted plans of one command are one
pub same_deed : {d d' : Deed} {w w' : Move} → accept d w ≡ accept d' w' → d ≡ d'
same_deed e = cc

-- the deeds of two independent commands are independent
pub taken_apart : {s a b : State} {t u : Command} (k : Taken s t a) (l : Taken s u b) → Independent s t u → IndependentDeeds k.deed l.deed
taken_apart k l i = subst₂ IndependentDeeds (same_deed (sym i.accepted ∙ k.ran)) (same_deed (sym i.accepted' ∙ l.ran)) i.apart

pub taken_independent : {s a b : State} {t u : Command} (k : Taken s t a) (l : Taken s u b) → IndependentDeeds k.deed l.deed → Independent s t u
taken_independent k l apart = record { deed = k.deed; deed' = l.deed; move = k.move; move' = l.move; accepted = k.ran; accepted' = l.ran; apart = apart }

-- two different accepted undos
pub undos_apart : {s a b : State} {t u : Command} (k : Taken s t a) (l : Taken s u b) → is_forward t ≡ false → is_forward u ≡ false → t ≢ u → IndependentDeeds k.deed l.deed
undos_apart k l f g n = undos_independent k.does l.does (goes_back k.deed (ap is_forward k.is ∙ f)) (goes_back l.deed (ap is_forward l.is ∙ g)) (λ e. n (sym k.is ∙ e ∙ l.is))
