-- Answers as numbers: what a number holds is the answer's number and value, and two results that a contract allows are equal.
use Prim.Native.Nat.{ℕ, ◌+◌, ◌*◌, ◌/◌, ◌%◌, ◌<◌}
use mathlib.Core.Path.{◌≡◌, sym, ap, subst}
use mathlib.Core.List.{List}
use native.Mathlib.Omega.{arith}
use Rattle.store.specs.Loading.{Outcome}
use Rattle.calls.specs.Calls.{outcome, RequestCall, LineCall, ListingCall}
use Rattle.calls.specs.Numbers.{Answer, number_of, value_of, Performs, CommandCall, RollbackCall, TextCall, Lists, value_place, packed}
use Rattle.calls.proofs.Determined.{determined}
use Rattle.calls.proofs.AnswerNumbers.{number_below}
use Rattle.rules.specs.Commands.{Command}
use Rattle.rules.specs.Line.{single, rollback_to}
use Rattle.bench.specs.Exports.{returned}
use Rattle.bench.specs.ExportsDetermined.{ExportsDetermined}

number_small : (a : Answer) → number_of a < value_place
number_small a = omega (arith, number_below a)

-- a number and a value, taken out again
pub returned_is : (r number value : ℕ) (left : List ℕ) → number < value_place → r ≡ value * value_place + number → returned r left ≡ outcome number value left
unfolding returned
returned_is r number value left small e =
    let low : r % value_place ≡ number = omega arith in
    let high : r / value_place ≡ value = omega arith in
    λ j. outcome (low j) (high j) left

pub pack_is : (a : Answer) (value number : ℕ) → value ≡ value_of a → number ≡ number_of a → value * value_place + number ≡ packed a
unfolding packed
pack_is a value number v n = λ j. v j * value_place + n j

packed_is : (r : ℕ) (a : Answer) (left : List ℕ) → r ≡ packed a → outcome (number_of a) (value_of a) left ≡ returned r left
unfolding packed
packed_is r a left e = sym (returned_is r (number_of a) (value_of a) left (number_small a) e)

module _ (a : Answer) (r : ℕ) (same : r ≡ packed a) where
  pub command_returns : (c : Command) (entry exit : List ℕ) → CommandCall c entry exit a → RequestCall (single c) entry (returned r exit)
  unfolding CommandCall Performs
  command_returns c entry exit call = subst (RequestCall (single c) entry) (packed_is r a exit same) call

  pub rollback_returns : (p t : ℕ) (entry exit : List ℕ) → RollbackCall p t entry exit a → RequestCall (rollback_to p t) entry (returned r exit)
  unfolding RollbackCall Performs
  rollback_returns p t entry exit call = subst (RequestCall (rollback_to p t) entry) (packed_is r a exit same) call

  pub line_returns : (line entry exit : List ℕ) → TextCall line entry exit a → LineCall line entry (returned r exit)
  unfolding TextCall
  line_returns line entry exit call = subst (LineCall line entry) (packed_is r a exit same) call

  pub listing_returns : (store entry exit : List ℕ) → Lists store entry exit a → ListingCall store entry (returned r exit)
  unfolding Lists
  listing_returns store entry exit call = subst (ListingCall store entry) (packed_is r a exit same) call

-- ---- one result

same_result : (r r' : ℕ) (exit exit' : List ℕ) → returned r exit ≡ returned r' exit' → (r ≡ r') × (exit ≡ exit')
unfolding returned
same_result r r' exit exit' e =
    let low : r % value_place ≡ r' % value_place = ap (λ (o : Outcome). o.number) e in
    let high : r / value_place ≡ r' / value_place = ap (λ (o : Outcome). o.value) e in
    (omega (arith, low, high), ap (λ (o : Outcome). o.left) e)

pub exports_determined : ExportsDetermined
exports_determined = record {
  load = λ module' sizes entry r r' exit exit' a b. same_result r r' exit exit' (determined.load module' sizes entry (returned r exit) (returned r' exit') a b);
  request = λ request entry r r' exit exit' a b. same_result r r' exit exit' (determined.request request entry (returned r exit) (returned r' exit') a b);
  line = λ line entry r r' exit exit' a b. same_result r r' exit exit' (determined.line line entry (returned r exit) (returned r' exit') a b);
  listing = λ store out r r' exit exit' a b. same_result r r' exit exit' (determined.listing store out (returned r exit) (returned r' exit') a b);
}
