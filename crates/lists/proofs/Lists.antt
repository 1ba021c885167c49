-- Laws of the shared definitions on lists: equal rows, some element, the last element, what is kept, lists of lists.
use Prim.Native.Nat.{ℕ, zero, suc, ◌≤◌, ◌<◌}
use mathlib.Core.Path.{◌≡◌, refl, sym, ◌∙◌, ap}
use mathlib.Core.Bool.{Bool, true, false, ◌||◌}
use mathlib.Core.Logic.{inl, inr}
use mathlib.Core.List.{List, [], ◌∷◌, ◌++◌, map, map-append, append-nil, append_assoc}
use native.Mathlib.Decide.{ℕ_discrete}
use native.Mathlib.Omega.{arith}
use lib.Dec.{eqb}
use lib.ListN.{length}
use Rattle.lists.specs.Lists.{up_to, same_list, any, keep, but_last, joined}
use Rattle.lists.proofs.Tests.{true_not_false, true_or_false, eqb-true, eqb_same, and_left, and_right, and_of, or_false_left, or_false_right, or_false}

pub same_list_lem : (xs ys : List ℕ) → same_list xs ys ≡ true → xs ≡ ys
unfolding same_list
same_list_lem [] [] e = refl
same_list_lem [] (y ∷ ys) e = true_not_false e refl
same_list_lem (x ∷ xs) [] e = true_not_false e refl
same_list_lem (x ∷ xs) (y ∷ ys) e =
    let head = eqb-true x y (and_left (eqb x y) (same_list xs ys) e) in
    let tail = same_list_lem xs ys (and_right (eqb x y) (same_list xs ys) e) in
    cc

pub list_same : (xs : List ℕ) → same_list xs xs ≡ true
unfolding same_list
list_same [] = refl
list_same (x ∷ xs) = and_of (eqb_same x) (list_same xs)

module _ {A : Type 0} where
  pub any_append : (test : A → Bool) (xs ys : List A) → any test (xs ++ ys) ≡ (any test xs || any test ys)
  unfolding any
  any_append test [] ys = refl
  any_append test (x ∷ xs) ys = joined (test x) (any_append test xs ys)
    where
      joined : (b : Bool) → any test (xs ++ ys) ≡ (any test xs || any test ys) → (b || any test (xs ++ ys)) ≡ ((b || any test xs) || any test ys)
      joined true e = refl
      joined false e = e

  -- what stands before a last element is the list without it
  pub but_last_before : (xs : List A) (x : A) → but_last (xs ++ (x ∷ [])) ≡ xs
  unfolding but_last
  but_last_before [] x = refl
  but_last_before (y ∷ []) x = refl
  but_last_before (y ∷ (z ∷ xs)) x = ap (λ rest. y ∷ rest) (but_last_before (z ∷ xs) x)

  -- a list that is not empty is what stands before its last element, and that element
  pub last_of : (x : A) (xs : List A) → (l : A) × (x ∷ xs ≡ but_last (x ∷ xs) ++ (l ∷ []))
  unfolding but_last
  last_of x [] = (x, refl)
  last_of x (y ∷ ys) = let (l, e) = last_of y ys in (l, ap (λ rest. x ∷ rest) e)

-- no number below n passes the test
pub none_below : (test : ℕ → Bool) (n : ℕ) → any test (up_to n) ≡ false → (k : ℕ) → k < n → test k ≡ false
unfolding up_to any
none_below test zero e k h = absurd (omega arith)
none_below test (suc n) e k h = at (ℕ_discrete k n) (λ none-older. none_below test n none-older k)
  where
    parts : (any test (up_to n) || any test (n ∷ [])) ≡ false
    parts = sym (any_append test (up_to n) (n ∷ [])) ∙ e

    at : Dec (k ≡ n) → (any test (up_to n) ≡ false → k < n → test k ≡ false) → test k ≡ false
    at (yes i) older = rw i (or_false_left (test n) false (or_false_right (any test (up_to n)) (any test (n ∷ [])) parts))
    at (no i) older = older (or_false_left (any test (up_to n)) (any test (n ∷ [])) parts) (omega arith)

pub none_of_below : (test : ℕ → Bool) (n : ℕ) → ((k : ℕ) → k < n → test k ≡ false) → any test (up_to n) ≡ false
unfolding up_to any
none_of_below test zero f = refl
none_of_below test (suc n) f =
    any_append test (up_to n) (n ∷ []) ∙ or_false (none_of_below test n (λ k h. f k (omega arith))) (or_false (f n (omega arith)) refl)

-- what is kept, element by element
module _ {A : Type 0} (test : A → Bool) where
  pub keep_nil : keep test [] ≡ []
  unfolding keep
  keep_nil = refl

  pub keep_true : (x : A) (xs : List A) → test x ≡ true → keep test (x ∷ xs) ≡ x ∷ keep test xs
  unfolding keep
  keep_true x xs e = rw (e, keep) refl

  pub keep_false : (x : A) (xs : List A) → test x ≡ false → keep test (x ∷ xs) ≡ keep test xs
  unfolding keep
  keep_false x xs e = rw (e, keep) refl

  pub keep_append : (xs ys : List A) → keep test (xs ++ ys) ≡ keep test xs ++ keep test ys
  keep_append [] ys = sym (ap (λ (r : List A). r ++ keep test ys) keep_nil)
  keep_append (x ∷ xs) ys = elim (true_or_false (test x)) [
    | inl t ↦ keep_true x (xs ++ ys) t ∙ ap (λ (r : List A). x ∷ r) (keep_append xs ys) ∙ sym (ap (λ (r : List A). r ++ keep test ys) (keep_true x xs t))
    | inr f ↦ keep_false x (xs ++ ys) f ∙ keep_append xs ys ∙ sym (ap (λ (r : List A). r ++ keep test ys) (keep_false x xs f))
  ]

  pub keep_fewer : (xs : List A) → length (keep test xs) ≤ length xs
  keep_fewer [] = omega (arith, ap length keep_nil)
  keep_fewer (x ∷ xs) = elim (true_or_false (test x)) [ inl t ↦ omega (arith, ap length (keep_true x xs t), keep_fewer xs) | inr f ↦ omega (arith, ap length (keep_false x xs f), keep_fewer xs) ]

-- lists of lists
module _ {A : Type 0} where
  pub joined_append : (xss yss : List (List A)) → joined (xss ++ yss) ≡ joined xss ++ joined yss
  unfolding joined
  joined_append [] yss = refl
  joined_append (xs ∷ xss) yss = ap (λ (r : List A). xs ++ r) (joined_append xss yss) ∙ sym (append_assoc xs (joined xss) (joined yss))

  pub joined_last : (xss : List (List A)) (xs : List A) → joined (xss ++ (xs ∷ [])) ≡ joined xss ++ xs
  unfolding joined
  joined_last xss xs = joined_append xss (xs ∷ []) ∙ ap (λ (r : List A). joined xss ++ r) (append-nil xs)

  -- one number more
  pub joined_next : (f : ℕ → List A) (n : ℕ) → joined (map f (up_to (suc n))) ≡ joined (map f (up_to n)) ++ f n
  unfolding up_to
  joined_next f n = ap joined (map-append f (up_to n) (n ∷ [])) ∙ joined_last (map f (up_to n)) (f n)
