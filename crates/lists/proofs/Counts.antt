-- How often a number stands in a list; numbers below n that are all different are n at most.
use Prim.Native.Nat.{ℕ, zero, suc, ◌+◌, ◌≤◌}
use mathlib.Core.Path.{◌≡◌, refl, ◌∙◌, ap}
use mathlib.Core.Logic.{◌⊎◌, inl, inr}
use mathlib.Core.Bool.{Bool, true, false}
use mathlib.Core.List.{List, [], ◌∷◌, ◌++◌}
use native.Mathlib.Decide.{ℕ_discrete}
use native.Mathlib.Omega.{arith}
use lib.Dec.{eqb}
use lib.ListN.{length}
use Rattle.lists.proofs.Tests.{true_or_false, eqb_same, eqb_apart}

-- one more where the test holds
unfoldable pub one_if : Bool → ℕ → ℕ
one_if true n = suc n
one_if false n = n

unfoldable pub occurs : ℕ → List ℕ → ℕ
occurs c [] = 0
occurs c (x ∷ xs) = one_if (eqb c x) (occurs c xs)

one_more : (b : Bool) (m n : ℕ) → one_if b (m + n) ≡ one_if b m + n
unfolding one_if
one_more true m n = omega arith
one_more false m n = refl

pub occurs_append : (c : ℕ) (xs ys : List ℕ) → occurs c (xs ++ ys) ≡ occurs c xs + occurs c ys
unfolding occurs
occurs_append c [] ys = omega arith
occurs_append c (x ∷ xs) ys = ap (one_if (eqb c x)) (occurs_append c xs ys) ∙ one_more (eqb c x) (occurs c xs) (occurs c ys)

-- it counts for itself
pub occurs_head : (x : ℕ) (xs : List ℕ) → occurs x (x ∷ xs) ≡ suc (occurs x xs)
unfolding occurs one_if
occurs_head x xs = rw (eqb_same x) refl

-- another does not count
pub occurs_other : (c x : ℕ) (xs : List ℕ) → ¬ (c ≡ x) → occurs c (x ∷ xs) ≡ occurs c xs
unfolding occurs one_if
occurs_other c x xs n = rw (eqb_apart c x n) refl

one_grows : (b : Bool) (m n : ℕ) → m ≤ n → one_if b m ≤ one_if b n
unfolding one_if
one_grows true m n h = omega arith
one_grows false m n h = h

pub one_least : (b : Bool) (n : ℕ) → n ≤ one_if b n
unfolding one_if
one_least true n = omega arith
one_least false n = omega arith

pub occurs_more : (c x : ℕ) (xs : List ℕ) → occurs c xs ≤ occurs c (x ∷ xs)
unfolding occurs
occurs_more c x xs = one_least (eqb c x) (occurs c xs)

-- a list without the elements that are n
unless_same : Bool → ℕ → List ℕ → List ℕ
unless_same true x xs = xs
unless_same false x xs = x ∷ xs

without : ℕ → List ℕ → List ℕ
without n [] = []
without n (x ∷ xs) = unless_same (eqb n x) x (without n xs)

length_without : (n : ℕ) (xs : List ℕ) → length xs ≡ length (without n xs) + occurs n xs
unfolding without occurs unless_same one_if
length_without n [] = omega arith
length_without n (x ∷ xs) = go (eqb n x) (length_without n xs)
  where
    go : (b : Bool) → length xs ≡ length (without n xs) + occurs n xs → suc (length xs) ≡ length (unless_same b x (without n xs)) + one_if b (occurs n xs)
    go true r = omega arith
    go false r = omega arith

occurs_unless : (b : Bool) (c x : ℕ) (xs : List ℕ) → occurs c (unless_same b x xs) ≤ occurs c (x ∷ xs)
unfolding unless_same occurs
occurs_unless true c x xs = one_least (eqb c x) (occurs c xs)
occurs_unless false c x xs = omega arith

occurs_without : (n c : ℕ) (xs : List ℕ) → occurs c (without n xs) ≤ occurs c xs
unfolding without occurs
occurs_without n c [] = omega arith
occurs_without n c (x ∷ xs) =
    let grown = one_grows (eqb c x) (occurs c (without n xs)) (occurs c xs) (occurs_without n c xs) in
    omega (arith, occurs_unless (eqb n x) c x (without n xs))

gone : (n : ℕ) (xs : List ℕ) → occurs n (without n xs) ≡ 0
unfolding without occurs unless_same one_if
gone n [] = refl
gone n (x ∷ xs) = go (true_or_false (eqb n x)) (gone n xs)
  where
    go : (eqb n x ≡ true) ⊎ (eqb n x ≡ false) → occurs n (without n xs) ≡ 0 → occurs n (unless_same (eqb n x) x (without n xs)) ≡ 0
    go (inl e) r = rw e r
    go (inr e) r = rw e (rw e r)

-- numbers below n, none of them twice, are n at most
pub few_below : (n : ℕ) (xs : List ℕ) → ((c : ℕ) → occurs c xs ≤ 1) → ((c : ℕ) → n ≤ c → occurs c xs ≡ 0) → length xs ≤ n
few_below zero [] once high = omega arith
few_below zero (x ∷ xs) once high = absurd (omega (arith, occurs_head x xs, high x (omega arith)))
few_below (suc n) xs once high =
    let others : length (without n xs) ≤ n = few_below n (without n xs) (λ c. omega (arith, occurs_without n c xs, once c)) (λ c h. go c h (ℕ_discrete n c)) in
    omega (arith, length_without n xs, once n)
  where
    go : (c : ℕ) → n ≤ c → Dec (n ≡ c) → occurs c (without n xs) ≡ 0
    go c h (yes e) = rw (← e) (gone n xs)
    go c h (no m) = omega (arith, occurs_without n c xs, high c (omega arith))
