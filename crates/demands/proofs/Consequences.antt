-- What is shown of the rules beside the demands, by the laws of one process step.
use Prim.Native.Nat.{ℕ, ◌+◌}
use mathlib.Core.Path.{◌≡◌, refl, sym, ◌∙◌, ap, subst}
use mathlib.Core.Logic.{◌≢◌, ◌↔◌}
use mathlib.Core.Bool.{true, false, not}
use mathlib.Core.Option.{none, some}
use mathlib.Core.List.{List}
use native.Mathlib.Omega.{arith}
use Rattle.term.specs.Module.{check_module}
use Rattle.machine.specs.Laws.{WorkLaws}
use Rattle.machine.proofs.WorkLaws.{work_laws}
use Rattle.causal.specs.Paths.{Run, done, more}
use Rattle.causal.specs.Exec.{Step, run_all}
use Rattle.causal.specs.RunsAgree.{ConsistencyOfRuns}
use Rattle.causal.proofs.Exec.{of_run}
use Rattle.rules.specs.State.{Sizes, State}
use Rattle.rules.specs.Load.{good_sizes, loads, load}
use Rattle.rules.specs.Commands.{Command, undeliver, Deed, makes, undoes, delivers, undelivers, Move, apply, run_state}
use Rattle.rules.specs.Rules.{command_of}
use Rattle.rules.specs.Sound.{Sound}
use Rattle.rules.specs.Independent.{unspawns, IndependentDeeds, Independent}
use Rattle.rules.specs.Reverse.{reverse, is_forward, amount_done}
use Rattle.demands.specs.Demands.{Reachable, TurnsInto}
use Rattle.demands.specs.Consequences.{Commute, Consequences}
use Rattle.demands.proofs.Does.{Does}
use Rattle.demands.proofs.Deeds.{target}
use Rattle.demands.proofs.Square.{Calm, apart_sym}
use Rattle.demands.proofs.Undo.{Undo, Backward, apart_none}
use Rattle.demands.proofs.Amount.{amount_grows}
use Rattle.demands.proofs.Knows.{unspawns_apart, calm}
use Rattle.demands.proofs.SoundControls.{LawsAt}
use Rattle.demands.proofs.SoundStep.{sound_after}
use Rattle.demands.proofs.SoundLoad.{sizes_say, Loads, loads_of}
use Rattle.demands.proofs.ExactlyOnce.{exactly_once}
use Rattle.demands.proofs.Reached.{Reached, reached_load, reversed, reverse_opposite, reverse_forward, reverse_undelivered}
use Rattle.demands.proofs.Steps.{Taken, taken, undo_runs, accepted_runs, goes_back, goes_forward, commuting, taken_apart, taken_independent, undos_apart}
use Rattle.demands.proofs.Causal.{reached_step, consistent}

-- ---- in every sound state
backward_target : (d : Deed) → Backward d → target d ≡ none
unfolding Backward target
backward_target (makes p kind) x = absurd x
backward_target (undoes p count kind) x = refl
backward_target (delivers sender k t) x = absurd x
backward_target (undelivers t) x = refl

undeliver_deed : {d : Deed} {p : ℕ} → Backward d → command_of d ≡ undeliver p → d ≡ undelivers p
unfolding Backward command_of
undeliver_deed {d} {p} x e = go d x e
  where
    go : (d : Deed) → Backward d → command_of d ≡ undeliver p → d ≡ undelivers p
    go (makes q kind) x e = absurd x
    go (undoes q count kind) x e = let z : ◌≡◌ {A = ℕ} 0 1 = cc in absurd (omega arith)
    go (delivers sender k t) x e = absurd x
    go (undelivers t) x e = let z : t ≡ p = cc in ap undelivers z

module _ {s : State} (sound : Sound s) where
  took : {a : State} (c : Command) → run_state c s ≡ some a → Taken s c a
  took c e = taken sound.pool_ends e

  goes_on : {a : State} (c : Command) (e : run_state c s ≡ some a) → is_forward c ≡ true → ¬ Backward (took c e).deed
  goes_on c e f = goes_forward (took c e).deed (ap is_forward (took c e).is ∙ f)

  undone : {a : State} (c : Command) → is_forward c ≡ true → run_state c s ≡ some a → run_state (reverse s c) a ≡ some s
  undone c f e =
      let k = took c e in
      ap (run_state (reverse s c)) k.gives ∙ undo_runs (subst (λ x. Undo (apply k.move s) s (reverse s x)) k.is (reverse_forward sound k.does (goes_on c e f)))

  redelivered : {a : State} (p : ℕ) → run_state (undeliver p) s ≡ some a → run_state (reverse s (undeliver p)) a ≡ some s
  unfolding is_forward
  redelivered p e =
      let k = took (undeliver p) e in
      let is-undelivery = undeliver_deed (goes_back k.deed (ap is_forward k.is)) k.is in
      ap (run_state (reverse s (undeliver p))) k.gives ∙ undo_runs (reverse_undelivered sound (subst (λ x. Does s x k.move) is-undelivery k.does))

  turns_round : {a : State} (c : Command) → is_forward c ≡ true → run_state c s ≡ some a → is_forward (reverse s c) ≡ false
  turns_round c f e = let k = took c e in subst (λ x. is_forward (reverse s x) ≡ not (is_forward x)) k.is (reverse_opposite k.does) ∙ ap not f

  does_one : {a : State} (c : Command) → is_forward c ≡ true → run_state c s ≡ some a → amount_done a ≡ 1 + amount_done s
  does_one c f e = omega (arith, ap amount_done (took c e).gives, amount_grows sound (took c e).does (goes_on c e f))

  -- undos send nothing, and no spawn is undone by two
  undos_calm : {d e : Deed} → Backward d → Backward e → (w u : Move) → Does s d w → Does s e u → IndependentDeeds d e → Calm d e
  undos_calm {d} {e} x y w u a b f = record {
    aim = rw (backward_target e y) (apart_none (unspawns d));
    aimed = rw (backward_target d x) (apart_sym (unspawns e) none (apart_none (unspawns e)));
    unspawn_once = unspawns_apart sound a b f.actors;
  }

  undos_commute : {a b : State} (t u : Command) → is_forward t ≡ false → is_forward u ≡ false → t ≢ u → run_state t s ≡ some a → run_state u s ≡ some b → Commute s t u
  undos_commute {a} {b} t u f g n p q =
      let k = took t p in
      let l = took u q in
      let apart = undos_apart k l f g n in
      let c = commuting k l apart (undos_calm (goes_back k.deed (ap is_forward k.is ∙ f)) (goes_back l.deed (ap is_forward l.is ∙ g)) k.move l.move k.does l.does apart) in
      record { after_t = a; after_u = b; end = c.end; t_first = p; then_u = c.then_u; u_first = q; then_t = c.then_t }

-- ---- in every state reached from a load
module _ (laws_of : (module' : List ℕ) (sizes : Sizes) → good_sizes sizes ≡ true → check_module module' ≡ none → WorkLaws module' sizes.places) where
  load_reached : {module' : List ℕ} {sizes : Sizes} {s : State} → Loads module' sizes s → Reached s
  load_reached {module'} {sizes} l = subst Reached l.is (reached_load module' sizes (laws_of module' sizes l.sizes_pass l.module_passes) l.sizes_pass l.module_passes)

  laws_at : {s : State} → Sound s → LawsAt s
  laws_at {s} sound = laws_of s.module' s.sizes sound.sizes_pass sound.module_passes

  run_reached : {s e : State} {ts : List Command} → Reached s → Run (Step run_state) s ts e → Reached e
  run_reached r done = r
  run_reached r (more p rest) = run_reached (reached_step r p) rest

  reached : {s : State} → Reachable s → Reached s
  reached r = run_reached (load_reached (loads_of r.module' r.sizes r.is_load)) (of_run run_state r.commands r.lead)

  retaken : {s a : State} (c : Command) → Reached s → run_state c s ≡ some a → run_state (reverse s c) a ≡ some s
  retaken {s} c r e =
      let k = took r.sound c e in
      ap (run_state (reverse s c)) k.gives ∙ undo_runs (subst (λ x. Undo (apply k.move s) s (reverse s x)) k.is (reversed r k.does))

  squared : {s : State} (t u : Command) → Reached s → Independent s t u → Commute s t u
  squared {s} t u r i =
      let p = accepted_runs s t i.accepted in
      let q = accepted_runs s u i.accepted' in
      let k = took r.sound t p in
      let l = took r.sound u q in
      let apart = taken_apart k l i in
      let c = commuting k l apart (calm r.laws r.sound r.learnt k.does l.does apart) in
      record { after_t = _; after_u = _; end = c.end; t_first = p; then_u = c.then_u; u_first = q; then_t = c.then_t }

  -- runs from a load
  runs : (module' : List ℕ) (sizes : Sizes) {root : State} → load module' sizes ≡ loads root → ConsistencyOfRuns run_state reverse Independent is_forward amount_done Reached root
  runs module' sizes e =
      let l = loads_of module' sizes e in
      subst (ConsistencyOfRuns run_state reverse Independent is_forward amount_done Reached) l.is (consistent module' sizes (subst Reached (sym l.is) (load_reached l)))

  consequences_by : Consequences
  consequences_by = record {
    sound = record {
      loaded = λ module' sizes s e. (load_reached (loads_of module' sizes e)).sound;
      stepped = λ s a c sound e. let k = took sound c e in subst Sound (sym k.gives) (sound_after (laws_at sound) sound k.does);
      reached = λ s r. (reached r).sound;
      exactly_once = λ st s k t value sound e. exactly_once sound s k t value e;
    };
    reverse = record {
      undone = λ s a c sound f e. undone sound c f e;
      redelivered = λ s a p sound e. redelivered sound p e;
      turns_round = λ s a c sound f e. turns_round sound c f e;
      does_one = λ s a c sound f e. does_one sound c f e;
    };
    commute = record {
      square = λ s t u r i. squared t u (reached r) i;
      undos_independent = λ s a b t u sound f g n p q. taken_independent (took sound t p) (took sound u q) (undos_apart (took sound t p) (took sound u q) f g n);
      undos_commute = λ s a b t u sound f g n p q. undos_commute sound t u f g n p q;
    };
    turn = record {
      turned_alike = λ s ts us r x. (runs r.module' r.sizes r.is_load).turns_keeps (reached r) x;
      parabolic = λ s e ts r p. (runs r.module' r.sizes r.is_load).parabolic ts s e (reached r) p;
      forward_only = λ module' sizes root e ts l p. (runs module' sizes l).forward_only ts e p;
      any_forward = λ s e up r p. (runs r.module' r.sizes r.is_load).any_forward (reached r) p;
    };
  }

-- the laws of one process step hold in every module that loads
laws_of_load : (module' : List ℕ) (sizes : Sizes) → good_sizes sizes ≡ true → check_module module' ≡ none → WorkLaws module' sizes.places
laws_of_load module' sizes good passes =
    let say = sizes_say sizes good in
    work_laws module' sizes.places passes say.some_place (omega (arith, say.few_places))

pub consequences : Consequences
consequences = consequences_by laws_of_load

-- after a load the command that reverses a step, forward or back, is accepted and gives the earlier state
pub reverses : (s a : State) (c : Command) → Reachable s → run_state c s ≡ some a → run_state (reverse s c) a ≡ some s
reverses s a c r e = retaken laws_of_load c (reached laws_of_load r) e

pub sequences_agree : (s a b : State) (ts us : List Command) → Reachable s → run_all run_state ts s ≡ some a → run_all run_state us s ≡ some b → (a ≡ b) ↔ TurnsInto s ts us
sequences_agree s a b ts us r p q = (runs laws_of_load r.module' r.sizes r.is_load).causal r.commands ts us s a b r.lead p q
