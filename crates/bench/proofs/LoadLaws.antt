-- A load's answer as a number.
use Prim.Native.Nat.{ℕ, ◌+◌, ◌*◌, ◌≤◌, ◌<◌}
use mathlib.Core.Path.{◌≡◌, refl, ◌∙◌, ap}
use mathlib.Core.Logic.{inl, inr}
use mathlib.Core.Bool.{true, ◌&&◌}
use mathlib.Core.Option.{Option, none, some}
use mathlib.Core.List.{List}
use native.Mathlib.Omega.{arith}
use lib.Dec.{leb}
use lib.ListN.{length}
use Rattle.lists.proofs.Tests.{true_or_false, and_left}
use Rattle.term.specs.Module.{longest_module, check_module}
use Rattle.rules.specs.State.{Sizes}
use Rattle.rules.specs.Load.{good_sizes}
use Rattle.store.specs.Layout.{needed}
use Rattle.store.specs.Loading.{Outcome, load_number, load_value, after_load, load_into, LoadAnswers}
use Rattle.std.specs.Prelude.{Result, Ok, Err, ⊤}
use Rattle.store.specs.declared.load.LoadError.{LoadError}
use Rattle.store.specs.declared.load.LoadError.TheVariants.{BadSizes, BadModule}
use Rattle.store.proofs.LoadCodeAnswers.{into_short, into_load, load_refused, load_loads}
use Rattle.calls.specs.Calls.{outcome, LoadCall}
use Rattle.calls.specs.Numbers.{value_place}
use Rattle.bench.specs.Exports.{returned}
use Rattle.bench.proofs.Packed.{returned_is}
use Rattle.term.proofs.PositionLaws.{bad_position}

module _ (module' : List ℕ) (sizes : Sizes) (entry exit : List ℕ) (a : Result ⊤ LoadError) (answers : LoadAnswers module' sizes entry exit a) where
  returns_as : (r number value : ℕ) → number < value_place → r ≡ value * value_place + number → number ≡ load_number a → value ≡ load_value a → LoadCall module' sizes entry (returned r exit)
  unfolding LoadCall
  returns_as r number value small e n v = returned_is r number value exit small e ∙ (λ j. outcome ((n ∙ answers.number) j) ((v ∙ answers.value) j) (answers.left j))

  -- the position that a load answers is one of the module check
  into_small : (load_into module' sizes entry).value ≤ longest_module
  unfolding after_load
  into_small = elim (true_or_false (good_sizes sizes && leb (needed sizes) (length entry))) [
    | inl long ↦ go (check_module module') refl (and_left _ _ long) long
    | inr short ↦ omega (arith, ap (λ (o : Outcome). o.value) (into_short module' sizes entry short))
  ]
    where
      go : (checked : Option ℕ) → check_module module' ≡ checked → good_sizes sizes ≡ true → (good_sizes sizes && leb (needed sizes) (length entry)) ≡ true → (load_into module' sizes entry).value ≤ longest_module
      go none e good long =
          let v : (load_into module' sizes entry).value ≡ 0 = ap (λ (o : Outcome). o.value) (into_load module' sizes entry long ∙ ap (after_load entry) (load_loads module' sizes entry good e)) in
          omega arith
      go (some at) e good long =
          let v : (load_into module' sizes entry).value ≡ at = ap (λ (o : Outcome). o.value) (into_load module' sizes entry long ∙ ap (after_load entry) (load_refused module' sizes entry at good e)) in
          omega (arith, bad_position module' at e)

  number_small : (b : Result ⊤ LoadError) → load_number b < value_place
  unfolding load_number
  number_small (Ok t) = omega arith
  number_small (Err BadSizes) = omega arith
  number_small (Err (BadModule bad)) = omega arith

  pub position_small : (at : ℕ) → at ≡ load_value a → at ≤ longest_module
  position_small at is = omega (arith, into_small, answers.value, is)

  pub number_at_most : (number : ℕ) → number ≡ load_number a → number < value_place
  number_at_most number n = omega (arith, n, number_small a)

  pub load_returned : (at number : ℕ) → at ≡ load_value a → number ≡ load_number a → LoadCall module' sizes entry (returned (at * value_place + number) exit)
  load_returned at number v n = returns_as (at * value_place + number) number at (number_at_most number n) refl n v
