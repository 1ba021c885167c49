-- Laws of lists every element of which has a property, and of maps over them.
use Prim.Native.Nat.{ℕ, zero, suc, ◌<◌}
use mathlib.Core.Path.{◌≡◌, refl, ap, subst}
use mathlib.Core.Option.{some}
use mathlib.Core.List.{List, [], ◌∷◌, ◌++◌, map, reverse, reverse_aux}
use native.Mathlib.Omega.{arith}
use lib.ListN.{length, take, drop, get_or, get_elem?, set}
use Rattle.lists.specs.Lists.{All, joined}
use Rattle.lists.proofs.Tests.{none_not_some, some_injective}

module _ {A : Type 0} (P : A → Type 0) where
  pub all_append : (xs ys : List A) → All P xs → All P ys → All P (xs ++ ys)
  unfolding All
  all_append [] ys a b = b
  all_append (x ∷ xs) ys a b = (a.0, all_append xs ys a.1 b)

  pub all_left : (xs ys : List A) → All P (xs ++ ys) → All P xs
  unfolding All
  all_left [] ys a = tt
  all_left (x ∷ xs) ys a = (a.0, all_left xs ys a.1)

  pub all_right : (xs ys : List A) → All P (xs ++ ys) → All P ys
  unfolding All
  all_right [] ys a = a
  all_right (x ∷ xs) ys a = all_right xs ys a.1

  pub all_head : (x : A) (xs : List A) → All P (x ∷ xs) → P x
  unfolding All
  all_head x xs a = a.0

  pub all_tail : (x : A) (xs : List A) → All P (x ∷ xs) → All P xs
  unfolding All
  all_tail x xs a = a.1

  pub all_none : All P []
  unfolding All
  all_none = tt

  pub all_cons : (x : A) (xs : List A) → P x → All P xs → All P (x ∷ xs)
  unfolding All
  all_cons x xs p a = (p, a)

  -- the same with one element more or moved in the middle
  pub all_middle : (xs : List A) (y : A) (ys : List A) → All P (xs ++ ys) → P y → All P (xs ++ (y ∷ ys))
  all_middle xs y ys a p = all_append xs (y ∷ ys) (all_left xs ys a) (all_cons y ys p (all_right xs ys a))

  all_onto : (xs ys : List A) → All P xs → All P ys → All P (reverse_aux xs ys)
  unfolding All
  all_onto [] ys a b = b
  all_onto (x ∷ xs) ys a b = all_onto xs (x ∷ ys) a.1 (a.0, b)

  pub all_reverse : (xs : List A) → All P xs → All P (reverse xs)
  all_reverse xs a = all_onto xs [] a all_none

  pub all_joined : (xss : List (List A)) → All (All P) xss → All P (joined xss)
  unfolding All joined
  all_joined [] a = tt
  all_joined (xs ∷ xss) a = all_append xs (joined xss) a.0 (all_joined xss a.1)

  pub all_unjoined : (xss : List (List A)) → All P (joined xss) → All (All P) xss
  unfolding All joined
  all_unjoined [] a = tt
  all_unjoined (xs ∷ xss) a = (all_left xs (joined xss) a, all_unjoined xss (all_right xs (joined xss) a))

  -- a part
  pub all_take : (n : ℕ) (xs : List A) → All P xs → All P (take n xs)
  unfolding All
  all_take zero xs a = tt
  all_take (suc n) [] a = tt
  all_take (suc n) (x ∷ xs) a = (a.0, all_take n xs a.1)

  pub all_drop : (n : ℕ) (xs : List A) → All P xs → All P (drop n xs)
  unfolding All
  all_drop zero xs a = a
  all_drop (suc n) [] a = tt
  all_drop (suc n) (x ∷ xs) a = all_drop n xs a.1

  pub all_element : (xs : List A) (i : ℕ) {x : A} → All P xs → get_elem? xs i ≡ some x → P x
  unfolding All
  all_element [] i a e = none_not_some e
  all_element (y ∷ xs) zero a e = subst P (some_injective e) a.0
  all_element (y ∷ xs) (suc i) a e = all_element xs i a.1 e

  pub all_elements : (xs : List A) → ((i : ℕ) (x : A) → get_elem? xs i ≡ some x → P x) → All P xs
  unfolding All
  all_elements [] f = tt
  all_elements (x ∷ xs) f = (f 0 x refl, all_elements xs (λ i y e. f (suc i) y e))

  pub all_get_d : (xs : List A) (i : ℕ) (d : A) → All P xs → i < length xs → P (get_or xs i d)
  unfolding All
  all_get_d [] i d a h = absurd (omega arith)
  all_get_d (x ∷ xs) zero d a h = a.0
  all_get_d (x ∷ xs) (suc i) d a h = all_get_d xs i d a.1 (omega arith)

module _ {A : Type 0} where
  -- from one property to another
  pub all_so : {P Q : A → Type 0} → ((x : A) → P x → Q x) → (xs : List A) → All P xs → All Q xs
  unfolding All
  all_so f [] a = tt
  all_so f (x ∷ xs) a = (f x a.0, all_so f xs a.1)

  pub all_both : {P Q R : A → Type 0} → ((x : A) → P x → Q x → R x) → (xs : List A) → All P xs → All Q xs → All R xs
  unfolding All
  all_both f [] a b = tt
  all_both f (x ∷ xs) a b = (f x a.0 b.0, all_both f xs a.1 b.1)

  pub all_any : {P : A → Type 0} → ((x : A) → P x) → (xs : List A) → All P xs
  unfolding All
  all_any f [] = tt
  all_any f (x ∷ xs) = (f x, all_any f xs)

  -- a map that changes nothing
  pub map_same : (f : A → A) (xs : List A) → All (λ x. f x ≡ x) xs → map f xs ≡ xs
  unfolding All
  map_same f [] a = refl
  map_same f (x ∷ xs) a = λ i. (a.0 i) ∷ (map_same f xs a.1 i)

module _ {A B : Type 0} where
  pub all_map : (P : B → Type 0) (f : A → B) (xs : List A) → All (λ x. P (f x)) xs → All P (map f xs)
  unfolding All
  all_map P f [] a = tt
  all_map P f (x ∷ xs) a = (a.0, all_map P f xs a.1)

  pub all_unmap : (P : B → Type 0) (f : A → B) (xs : List A) → All P (map f xs) → All (λ x. P (f x)) xs
  unfolding All
  all_unmap P f [] a = tt
  all_unmap P f (x ∷ xs) a = (a.0, all_unmap P f xs a.1)

  -- maps that agree
  pub map_agree : (f g : A → B) (xs : List A) → All (λ x. f x ≡ g x) xs → map f xs ≡ map g xs
  unfolding All
  map_agree f g [] a = refl
  map_agree f g (x ∷ xs) a = λ i. (a.0 i) ∷ (map_agree f g xs a.1 i)

  map_onto : (f : A → B) (xs ys : List A) → map f (reverse_aux xs ys) ≡ reverse_aux (map f xs) (map f ys)
  map_onto f [] ys = refl
  map_onto f (x ∷ xs) ys = map_onto f xs (x ∷ ys)

  pub map_reverse : (f : A → B) (xs : List A) → map f (reverse xs) ≡ reverse (map f xs)
  map_reverse f xs = map_onto f xs []

  -- a map's element, whatever the default
  pub map_at : (f : A → B) (i : ℕ) (xs : List A) (a : A) (b : B) → i < length xs → get_or (map f xs) i b ≡ f (get_or xs i a)
  map_at f i [] a b h = absurd (omega arith)
  map_at f zero (x ∷ xs) a b h = refl
  map_at f (suc i) (x ∷ xs) a b h = map_at f i xs a b (omega arith)

  pub map_set : (f : A → B) (i : ℕ) (xs : List A) (y : A) → set (map f xs) i (f y) ≡ map f (set xs i y)
  map_set f i [] y = refl
  map_set f zero (x ∷ xs) y = refl
  map_set f (suc i) (x ∷ xs) y = ap (λ (r : List B). f x ∷ r) (map_set f i xs y)

  pub map_take : (f : A → B) (n : ℕ) (xs : List A) → map f (take n xs) ≡ take n (map f xs)
  map_take f zero xs = refl
  map_take f (suc n) [] = refl
  map_take f (suc n) (x ∷ xs) = ap (λ (r : List B). f x ∷ r) (map_take f n xs)

  pub map_drop : (f : A → B) (n : ℕ) (xs : List A) → map f (drop n xs) ≡ drop n (map f xs)
  map_drop f zero xs = refl
  map_drop f (suc n) [] = refl
  map_drop f (suc n) (x ∷ xs) = map_drop f n xs

-- one map after another
pub maps_after : {A B C : Type 0} (f : A → B) (g : B → C) (xs : List A) → map g (map f xs) ≡ map (λ x. g (f x)) xs
maps_after f g [] = refl
maps_after f g (x ∷ xs) = ap (λ (r : List _). g (f x) ∷ r) (maps_after f g xs)
