-- The four sham benches fail on the loaded store.
use Prim.Native.Nat.{ℕ}
use mathlib.Core.Path.{◌≡◌, refl, sym, ◌∙◌, ap}
use mathlib.Core.Option.{some}
use mathlib.Core.List.{List, [], ◌++◌}
use native.Mathlib.Omega.{arith}
use lib.ListN.{length}
use Rattle.rules.specs.Answers.{done, no_process}
use Rattle.rules.specs.State.{State, history_at}
use Rattle.rules.specs.Load.{loads, load}
use Rattle.rules.specs.Commands.{step, run_state}
use Rattle.rules.specs.Sound.{Sound}
use Rattle.rules.specs.Line.{Request, single}
use Rattle.rules.specs.Replies.{perform}
use Rattle.rules.specs.Opened.{opened}
use Rattle.rules.specs.Bench.{bench_module, bench_sizes}
use Rattle.demands.proofs.Consequences.{consequences}
use Rattle.store.specs.Layout.{image}
use Rattle.store.specs.Loading.{Outcome}
use Rattle.store.proofs.Laws.{image_laws}
use Rattle.calls.specs.Calls.{outcome, stored, RequestCall}
use Rattle.calls.specs.Promises.{Bench, Meets, loaded_bench, loaded_store, first_step, ShamsCaught}
use Rattle.calls.proofs.Returns.{accepted_call}

-- the states after one step and after two
unfoldable once : State
unfolding opened
once = (perform first_step loaded_bench).after

unfoldable twice : State
unfolding opened once
twice = (perform first_step once).after

bench_loads : load bench_module bench_sizes ≡ loads loaded_bench
unfolding opened
bench_loads = refl

first_accepted : run_state (step 0) loaded_bench ≡ some once
unfolding opened once
first_accepted = refl

second_accepted : run_state (step 0) once ≡ some twice
unfolding opened once twice
second_accepted = refl

-- they are told apart by how many entries place 0 has
unfoldable entries_at0 : State → ℕ
entries_at0 s = length (history_at s 0)

entries_loaded : entries_at0 loaded_bench ≡ 0
unfolding opened entries_at0
entries_loaded = refl

entries_once : entries_at0 once ≡ 1
unfolding opened entries_at0 once
entries_once = refl

entries_twice : entries_at0 twice ≡ 2
unfolding opened entries_at0 once twice
entries_twice = refl

loaded_sound : Sound loaded_bench
loaded_sound = consequences.sound.loaded bench_module bench_sizes loaded_bench bench_loads

once_sound : Sound once
once_sound = consequences.sound.stepped loaded_bench once (step 0) loaded_sound first_accepted

twice_sound : Sound twice
twice_sound = consequences.sound.stepped once twice (step 0) once_sound second_accepted

-- two images that are equal are of one state
one_image : (s s' : State) → Sound s → Sound s' → image s ++ [] ≡ image s' ++ [] → entries_at0 s ≡ entries_at0 s'
one_image s s' sound sound' e = let (same, _) = image_laws.one_state s s' [] [] sound sound' e in ap entries_at0 same

module _ (bench : Bench) (meets : Meets bench) where
  first : bench first_step loaded_store ≡ outcome done 0 (image once ++ [])
  unfolding Meets
  first = accepted_call loaded_bench once [] loaded_store (step 0) (bench first_step loaded_store) loaded_sound refl first_accepted (meets first_step loaded_store)

  first_left : (bench first_step loaded_store).left ≡ image once ++ []
  first_left = ap (λ (y : Outcome). y.left) first

  second : bench first_step (bench first_step loaded_store).left ≡ outcome done 0 (image twice ++ [])
  unfolding Meets
  second =
      accepted_call once twice [] (bench first_step loaded_store).left (step 0) (bench first_step (bench first_step loaded_store).left) once_sound first_left second_accepted
      (meets first_step (bench first_step loaded_store).left)

  -- place 1 has no process after the load
  nobody : bench (single (step 1)) loaded_store ≡ stored (perform (single (step 1)) loaded_bench) []
  unfolding Meets RequestCall
  nobody = (meets (single (step 1)) loaded_store).on_image loaded_bench [] loaded_sound refl

  nobody_answers : (bench (single (step 1)) loaded_store).number ≡ no_process
  unfolding opened stored
  nobody_answers = ap (λ (y : Outcome). y.number) nobody

  stores : ¬ ((bench first_step loaded_store).left ≡ loaded_store)
  stores e =
      let same = one_image once loaded_bench once_sound loaded_sound (sym first_left ∙ e) in
      let a = entries_loaded in
      let b = entries_once in
      absurd (omega (arith, a, b, same))

  goes_on : ¬ ((bench first_step (bench first_step loaded_store).left).left ≡ (bench first_step loaded_store).left)
  goes_on e =
      let left = ap (λ (y : Outcome). y.left) second in
      let same = one_image twice once twice_sound once_sound (sym left ∙ (e ∙ first_left)) in
      let a = entries_twice in
      let b = entries_once in
      absurd (omega (arith, a, b, same))

  varies : (number : ℕ) → ¬ ((request : Request) (l : List ℕ) → (bench request l).number ≡ number)
  varies number constant =
      let a = constant first_step loaded_store in
      let b = constant (single (step 1)) loaded_store in
      let c = ap (λ (y : Outcome). y.number) first in
      let d = nobody_answers in
      absurd (omega (arith, a, b, c, d))

pub shams_caught : ShamsCaught
shams_caught = record {
  refuses_everything = λ bench meets. ap (λ (y : Outcome). y.number) (first bench meets);
  constant_answer = λ bench number meets. varies bench meets number;
  stores_nothing = λ bench meets. stores bench meets;
  true_once = λ bench meets. goes_on bench meets;
}
