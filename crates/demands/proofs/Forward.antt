-- What forward commands alone reach, and how many they are.
use Prim.Native.Nat.{ℕ, zero, suc}
use mathlib.Core.Path.{◌≡◌, refl, sym, ◌∙◌, ap, subst, subst₂}
use mathlib.Core.Bool.{true}
use mathlib.Core.Option.{some}
use mathlib.Core.List.{List, []}
use native.Mathlib.Omega.{arith}
use lib.ListN.{length}
use Rattle.lists.specs.Lists.{All}
use Rattle.lists.proofs.Tests.{none_not_some, some_injective}
use Rattle.causal.specs.Paths.{Run, done, more}
use Rattle.causal.specs.Directed.{Directed, stay, go}
use Rattle.causal.specs.Exec.{Step, run_all}
use Rattle.causal.proofs.Exec.{of_run, to_run}
use Rattle.rules.specs.State.{Sizes, State}
use Rattle.rules.specs.Load.{loads, load, loaded}
use Rattle.rules.specs.Commands.{Command, Plan, refuse, accept, run, after_plan, run_state}
use Rattle.rules.specs.Sound.{Sound}
use Rattle.rules.specs.Depends.{Series, entries_of, deliveries_to, level}
use Rattle.rules.specs.Reverse.{is_forward, done_at, amount_done}
use Rattle.rules.specs.Reverse
use Rattle.demands.specs.Demands.{Reachable}
use Rattle.demands.specs.ForwardAlone.{ForwardAlone, ForwardDemands}
use Rattle.demands.proofs.Frame.{same_module, same_sizes}
use Rattle.demands.proofs.SoundLoad.{loads_of}
use Rattle.demands.proofs.Removal.{sum, total, sum_same}
use Rattle.demands.proofs.SearchNumbers.{level_come}
use Rattle.demands.proofs.Cut.{events_many}
use Rattle.demands.proofs.Consequences.{consequences}
use Rattle.demands.proofs.RollbackDemands.{root_empty}

-- ---- a directed run, and a run of commands that all go forward
all_of : {s e : State} {ts : List Command} → Directed (Step run_state) is_forward true s ts e → All (λ c. is_forward c ≡ true) ts
unfolding All
all_of stay = tt
all_of (go p f r) = (f, all_of r)

run_of : {s e : State} {ts : List Command} → Directed (Step run_state) is_forward true s ts e → Run (Step run_state) s ts e
run_of stay = done
run_of (go p f r) = more p (run_of r)

directed : {s e : State} {ts : List Command} → All (λ c. is_forward c ≡ true) ts → Run (Step run_state) s ts e → Directed (Step run_state) is_forward true s ts e
unfolding All
directed a done = stay
directed a (more p r) = go p a.0 (directed a.1 r)

-- ---- no command changes the module or the sizes
plan_keeps : (plan : Plan) (s a : State) → after_plan plan s ≡ some a → (a.module' ≡ s.module') × (a.sizes ≡ s.sizes)
unfolding after_plan
plan_keeps (refuse number) s a e = none_not_some e
plan_keeps (accept deed move) s a e = (
  ap (λ (x : State). x.module') (sym (some_injective e)) ∙ same_module move s,
  ap (λ (x : State). x.sizes) (sym (some_injective e)) ∙ same_sizes move s,
)

run_keeps : {s e : State} {ts : List Command} → Run (Step run_state) s ts e → (e.module' ≡ s.module') × (e.sizes ≡ s.sizes)
unfolding run_state
run_keeps done = (refl, refl)
run_keeps {s} (more {a} {t} p r) =
    let (m, z) = plan_keeps (run t s) s a p.accepted in
    let (n, y) = run_keeps r in
    (n ∙ m, y ∙ z)

own_load : (module' : List ℕ) (sizes : Sizes) {root s : State} {ts : List Command} → load module' sizes ≡ loads root → Run (Step run_state) root ts s → load s.module' s.sizes ≡ loads root
unfolding loaded
own_load module' sizes {root} l r =
    let is = (loads_of module' sizes l).is in
    let (m, z) = run_keeps r in
    subst₂ (λ x y. load x y ≡ loads root) (ap (λ (x : State). x.module') is ∙ sym m) (ap (λ (x : State). x.sizes) is ∙ sym z) l

-- ---- how much is done, by the levels of the series
sum_total : (n : ℕ) (f : ℕ → ℕ) → sum n f ≡ Reverse.total f n
unfolding Reverse.total
sum_total zero f = refl
sum_total (suc n) f = omega (arith, sum_total n f)

by_levels : (s : State) → Sound s → total s.sizes.places (level s) ≡ amount_done s
unfolding total amount_done done_at level
by_levels s sound = sum_same s.sizes.places _ _ (λ p h. omega (arith, level_come sound p)) ∙ sum_total s.sizes.places (done_at s)

sum_nothing : (n : ℕ) (f : ℕ → ℕ) → ((p : ℕ) → f p ≡ 0) → sum n f ≡ 0
sum_nothing zero f h = refl
sum_nothing (suc n) f h = omega (arith, h n, sum_nothing n f h)

at_load : (module' : List ℕ) (sizes : Sizes) (root : State) → load module' sizes ≡ loads root → amount_done root ≡ 0
unfolding total
at_load module' sizes root l =
    let is = (loads_of module' sizes l).is in
    let none_at : (x : Series) → level root x ≡ 0 = λ x. subst (λ (z : State). level z x ≡ 0) is (root_empty module' sizes x) in
    sym (by_levels root (consequences.sound.loaded module' sizes root l)) ∙ sum_nothing root.sizes.places _ (λ p. omega (arith, none_at (entries_of p), none_at (deliveries_to p)))

-- ---- the state by forward commands alone
meets : (s : State) (r : Reachable s) → (f : ForwardAlone s) × (f.root ≡ r.root)
meets s r =
    let x = consequences.turn.forward_only r.module' r.sizes r.root s r.commands r.is_load r.lead in (
      record {
        root = r.root;
        is_load = own_load r.module' r.sizes r.is_load (of_run run_state r.commands r.lead);
        commands = x.up;
        all_forward = all_of x.forward_part;
        lead = to_run run_state (run_of x.forward_part);
      },
      refl,
    )

counted : (s : State) (f : ForwardAlone s) → length f.commands ≡ amount_done s
unfolding run_all
counted s f =
    let here : Reachable f.root = record { module' = s.module'; sizes = s.sizes; root = f.root; is_load = f.is_load; commands = []; lead = refl } in
    let grown = consequences.turn.any_forward f.root s f.commands here (directed f.all_forward (of_run run_state f.commands f.lead)) in
    omega (arith, grown, at_load s.module' s.sizes f.root f.is_load)

pub forward_demands : ForwardDemands
forward_demands = record { meets = meets; counted = counted; at_load = at_load; events_done = λ s sound. events_many s ∙ by_levels s sound }
