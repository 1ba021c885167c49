-- The numbers of answers are small.
use Rattle.std.specs.Prelude.{◌<◌, Ok, Err}
use native.Mathlib.Omega.{arith}
use Rattle.calls.specs.Numbers.{Answer, refusal_number, number_of}
use Rattle.calls.specs.declared.answers.Refusal.{Refusal}
use Rattle.calls.specs.declared.answers.Refusal.TheVariants.{NoProcess}

refusal_below : (refusal : Refusal) → refusal_number refusal < 100
refusal_below NoProcess = omega arith
refusal_below _ = omega arith

-- the greatest number has two digits
pub number_below : (a : Answer) → number_of a < 100
unfolding number_of
number_below (Ok count) = omega arith
number_below (Err refusal) = refusal_below refusal
