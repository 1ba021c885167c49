-- What the code's module check returns, by the tests that it makes.
use Prim.Native.Nat.{ℕ, zero, suc, ◌-◌, ◌≤◌, ◌<◌, min}
use mathlib.Core.Path.{◌≡◌, refl, sym, ap, ◌∙◌}
use mathlib.Core.Bool.{Bool, true, false, ◌||◌}
use mathlib.Core.List.{List, [], ◌∷◌, ◌++◌}
use native.Mathlib.Omega.{arith}
use native.Mathlib.Decide.{ℕ_discrete, dec_lt}
use lib.Dec.{eqb}
use lib.ListN.{length, get_or, take, drop, replicate}
use Rattle.lists.specs.Lists.{member, up_to}
use Rattle.lists.proofs.Tests.{eqb_of, eqb_apart, or_right}
use Rattle.std.proofs.lemmas.List.{length-append, length-replicate, length-take, get_or-replicate, get_or_append_left, get_or-append_right, drop-replicate}
use Rattle.checks.specs.Walking.{Marks, variables}

-- numbers after one are those before it
or_swap : (a b c : Bool) → (a || (b || c)) ≡ (b || (a || c))
or_swap true true c = refl
or_swap true false c = refl
or_swap false b c = refl

member_last : (k v : ℕ) (s : List ℕ) → member k (s ++ (v ∷ [])) ≡ member k (v ∷ s)
unfolding member
member_last k v [] = refl
member_last k v (x ∷ s) = ap (λ (b : Bool). eqb k x || b) (member_last k v s) ∙ or_swap (eqb k x) (eqb k v) (member k s)

first_member : (k v : ℕ) (s : List ℕ) → k ≡ v → member k (v ∷ s) ≡ true
unfolding member
first_member k v s e = rw (eqb_of k v e)

later_member : (k v : ℕ) (s : List ℕ) → member k s ≡ true → member k (v ∷ s) ≡ true
unfolding member
later_member k v s e = rw e (or_right (eqb k v) refl)

member_below : (n k : ℕ) → k < n → member k (up_to n) ≡ true
unfolding up_to
member_below zero k h = absurd (omega arith)
member_below (suc n) k h = member_last k n (up_to n) ∙ go (λ b. member_below n k b) (ℕ_discrete k n)
  where
    go : (k < n → member k (up_to n) ≡ true) → Dec (k ≡ n) → member k (n ∷ up_to n) ≡ true
    go before (yes e) = first_member k n (up_to n) e
    go before (no d) = later_member k n (up_to n) (before (omega arith))

member_above : (n k : ℕ) → n ≤ k → member k (up_to n) ≡ false
unfolding up_to member
member_above zero k h = refl
member_above (suc n) k h = member_last k n (up_to n) ∙ rw (eqb_apart k n (omega arith), member_above n k (omega arith)) refl

-- all that have a place are in scope
module _ (n m : ℕ) (em : m ≡ min n variables) where
  filled : List Bool
  filled = replicate m true ++ replicate (variables - m) false

  filled_at : (k : ℕ) → k < variables → Dec (k < m) → get_or filled k false ≡ member k (up_to n)
  unfolding filled
  filled_at k b (yes h) =
      let lt : k < length (replicate m true) = omega (arith, length-replicate m true) in
      get_or_append_left (replicate m true) (replicate (variables - m) false) false k lt ∙ get_or-replicate m k true false h ∙ sym (member_below n k (omega arith))
  filled_at k b (no d) =
      get_or-append_right (replicate m true) (replicate (variables - m) false) m k false (length-replicate m true) (omega arith)
      ∙ get_or-replicate (variables - m) (k - m) false false (omega arith)
      ∙ sym (member_above n k (omega arith))

  filled_marks : Marks variables filled (up_to n)
  unfolding filled
  filled_marks =
      record {
        long = omega (arith, length-append (replicate m true) (replicate (variables - m) false), length-replicate m true, length-replicate (variables - m) false);
        told = λ k b. filled_at k b (dec_lt k m);
      }

  pub marks_filled : (some : List Bool) → some ≡ replicate (length (take m (replicate variables false))) true → Marks variables (some ++ drop m (replicate variables false)) (up_to n)
  unfolding filled
  marks_filled some e =
      let long : length (take m (replicate variables false)) ≡ m = omega (arith, length-take m (replicate variables false), length-replicate variables false) in
      rw (e, long, drop-replicate) filled_marks
