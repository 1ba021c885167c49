-- Laws of lists filled up to a length.
use Prim.Native.Nat.{ℕ, zero, suc, ◌≤◌, ◌<◌}
use mathlib.Core.Path.{◌≡◌, refl, sym, ap}
use mathlib.Core.List.{List, [], ◌∷◌, ◌++◌, map}
use native.Mathlib.Omega.{arith}
use lib.ListN.{length, take, drop, get_or, set, replicate}
use Rattle.lists.specs.Lists.{All}
use Rattle.lists.specs.Fill.{fill_to}

module _ {A : Type 0} where
  pub length_fill : (n : ℕ) (z : A) (xs : List A) → length (fill_to n z xs) ≡ n
  unfolding fill_to
  length_fill zero z xs = refl
  length_fill (suc n) z [] = ap suc (length_fill n z [])
  length_fill (suc n) z (x ∷ xs) = ap suc (length_fill n z xs)

  -- what was filled up, where it fits
  pub take_fill : (n : ℕ) (z : A) (xs : List A) → length xs ≤ n → take (length xs) (fill_to n z xs) ≡ xs
  unfolding fill_to
  take_fill n z [] h = refl
  take_fill zero z (x ∷ xs) h = absurd (omega arith)
  take_fill (suc n) z (x ∷ xs) h = ap (λ (r : List A). x ∷ r) (take_fill n z xs (omega arith))

  pub all_fill : (P : A → Type 0) (n : ℕ) (z : A) (xs : List A) → P z → All P xs → All P (fill_to n z xs)
  unfolding fill_to All
  all_fill P zero z xs p a = tt
  all_fill P (suc n) z [] p a = (p, all_fill P n z [] p tt)
  all_fill P (suc n) z (x ∷ xs) p a = (a.0, all_fill P n z xs p a.1)

  pub all_unfill : (P : A → Type 0) (n : ℕ) (z : A) (xs : List A) → length xs ≤ n → All P (fill_to n z xs) → All P xs
  unfolding fill_to All
  all_unfill P n z [] h a = tt
  all_unfill P zero z (x ∷ xs) h a = absurd (omega arith)
  all_unfill P (suc n) z (x ∷ xs) h a = (a.0, all_unfill P n z xs (omega arith) a.1)

  -- a list of n elements that are z from the k-th on is its first k elements filled up
  pub fill_again : (n k : ℕ) (z : A) (xs : List A) → length xs ≡ n → All (λ x. x ≡ z) (drop k xs) → fill_to n z (take k xs) ≡ xs
  unfolding fill_to All
  fill_again zero k z [] e a = refl
  fill_again zero k z (x ∷ xs) e a = absurd (omega arith)
  fill_again (suc n) k z [] e a = absurd (omega arith)
  fill_again (suc n) zero z (x ∷ xs) e a = λ i. sym a.0 i ∷ fill_again n zero z xs (omega arith) a.1 i
  fill_again (suc n) (suc k) z (x ∷ xs) e a = ap (λ (r : List A). x ∷ r) (fill_again n k z xs (omega arith) a)

  -- behind what was filled up there is z alone
  pub behind_fill : (n : ℕ) (z : A) (xs : List A) → All (λ x. x ≡ z) (drop (length xs) (fill_to n z xs))
  unfolding fill_to All
  behind_fill zero z [] = tt
  behind_fill zero z (x ∷ xs) = tt
  behind_fill (suc n) z [] = (refl, behind_fill n z [])
  behind_fill (suc n) z (x ∷ xs) = behind_fill n z xs

  -- nothing filled up is z alone
  pub fill_none : (n : ℕ) (z : A) → fill_to n z [] ≡ replicate n z
  unfolding fill_to
  fill_none zero z = refl
  fill_none (suc n) z = ap (λ (r : List A). z ∷ r) (fill_none n z)

  -- element i; past the list it is z
  pub get_d_fill : (n : ℕ) (z : A) (xs : List A) (i : ℕ) → i < n → get_or (fill_to n z xs) i z ≡ get_or xs i z
  unfolding fill_to
  get_d_fill zero z xs i h = absurd (omega arith)
  get_d_fill (suc n) z [] zero h = refl
  get_d_fill (suc n) z [] (suc i) h = get_d_fill n z [] i (omega arith)
  get_d_fill (suc n) z (x ∷ xs) zero h = refl
  get_d_fill (suc n) z (x ∷ xs) (suc i) h = get_d_fill n z xs i (omega arith)

  -- an element replaced
  pub fill_set : (n : ℕ) (z : A) (xs : List A) (i : ℕ) (y : A) → i < length xs → fill_to n z (set xs i y) ≡ set (fill_to n z xs) i y
  unfolding fill_to
  fill_set n z [] i y h = absurd (omega arith)
  fill_set zero z (x ∷ xs) zero y h = refl
  fill_set zero z (x ∷ xs) (suc i) y h = refl
  fill_set (suc n) z (x ∷ xs) zero y h = refl
  fill_set (suc n) z (x ∷ xs) (suc i) y h = ap (λ (r : List A). x ∷ r) (fill_set n z xs i y (omega arith))

  -- one more behind the list takes the place of the first z
  pub fill_more : (n : ℕ) (z : A) (xs : List A) (y : A) → fill_to n z (xs ++ (y ∷ [])) ≡ set (fill_to n z xs) (length xs) y
  unfolding fill_to
  fill_more zero z [] y = refl
  fill_more zero z (x ∷ xs) y = refl
  fill_more (suc n) z [] y = refl
  fill_more (suc n) z (x ∷ xs) y = ap (λ (r : List A). x ∷ r) (fill_more n z xs y)

  -- and the last one goes where z takes its place
  pub fill_less : (n : ℕ) (z : A) (xs : List A) (y : A) → fill_to n z xs ≡ set (fill_to n z (xs ++ (y ∷ []))) (length xs) z
  unfolding fill_to
  fill_less zero z [] y = refl
  fill_less zero z (x ∷ xs) y = refl
  fill_less (suc n) z [] y = refl
  fill_less (suc n) z (x ∷ xs) y = ap (λ (r : List A). x ∷ r) (fill_less n z xs y)

pub map_fill : {A B : Type 0} (f : A → B) (n : ℕ) (z : A) (xs : List A) → map f (fill_to n z xs) ≡ fill_to n (f z) (map f xs)
unfolding fill_to
map_fill f zero z xs = refl
map_fill f (suc n) z [] = ap (λ (r : List _). f z ∷ r) (map_fill f n z [])
map_fill f (suc n) z (x ∷ xs) = ap (λ (r : List _). f x ∷ r) (map_fill f n z xs)
