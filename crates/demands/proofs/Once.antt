-- Lists in which nothing stands twice: appended, mapped, joined, and of what passes a test.
use Prim.Native.Nat.{ℕ, zero, suc, ◌<◌}
use mathlib.Core.Path.{◌≡◌, refl, sym, subst}
use mathlib.Core.Logic.{◌⊎◌, inl, inr}
use mathlib.Core.Bool.{Bool, true, false}
use mathlib.Core.List.{List, [], ◌∷◌, ◌++◌, map}
use native.Mathlib.Omega.{arith}
use Rattle.lists.specs.Lists.{keep, up_to, joined}
use Rattle.lists.proofs.Tests.{true_or_false}
use Rattle.lists.proofs.Lists.{keep_nil, keep_true, keep_false, joined_next}
use Rattle.lists.specs.Members.{In, first, later, NoneTwice}

module _ {A : Type 0} where
  nowhere : {x : A} {B : Type 0} → In x [] → B
  nowhere a = elim a [ ]

  one_of : {x y : A} {ys : List A} → In x (y ∷ ys) → (x ≡ y) ⊎ In x ys
  one_of first = inl refl
  one_of (later a) = inr a

  -- ---- appended
  pub append_in : {x : A} (xs : List A) {ys : List A} → In x (xs ++ ys) → In x xs ⊎ In x ys
  append_in [] a = inr a
  append_in (y ∷ xs) first = inl first
  append_in (y ∷ xs) (later a) = elim (append_in xs a) [ inl b ↦ inl (later b) | inr b ↦ inr b ]

  pub once_append : (xs ys : List A) → NoneTwice xs → NoneTwice ys → ((x : A) → In x xs → In x ys → ⊥) → NoneTwice (xs ++ ys)
  unfolding NoneTwice
  once_append [] ys o u apart = u
  once_append (x ∷ xs) ys o u apart =
      (λ a. elim (append_in xs a) [ inl b ↦ o.0 b | inr b ↦ apart x first b ], once_append xs ys o.1 u (λ y a b. apart y (later a) b))

  -- ---- what passes a test
  pub kept_in : {x : A} (test : A → Bool) (xs : List A) → In x (keep test xs) → In x xs
  kept_in {x} test [] a = subst (In x) (keep_nil test) a
  kept_in {x} test (y ∷ xs) a = go (true_or_false (test y)) (kept_in test xs)
    where
      go : (test y ≡ true) ⊎ (test y ≡ false) → (In x (keep test xs) → In x xs) → In x (y ∷ xs)
      go (inl t) f = elim (one_of (subst (In x) (keep_true test y xs t) a)) [ inl e ↦ rw e first | inr b ↦ later (f b) ]
      go (inr t) f = later (f (subst (In x) (keep_false test y xs t) a))

  pub once_kept : (test : A → Bool) (xs : List A) → NoneTwice xs → NoneTwice (keep test xs)
  unfolding NoneTwice
  once_kept test [] o = subst NoneTwice (sym (keep_nil test)) tt
  once_kept test (x ∷ xs) o = elim (true_or_false (test x)) [
    | inl t ↦ subst NoneTwice (sym (keep_true test x xs t)) (λ a. o.0 (kept_in test xs a), once_kept test xs o.1)
    | inr t ↦ subst NoneTwice (sym (keep_false test x xs t)) (once_kept test xs o.1)
  ]

-- ---- mapped
module _ {A B : Type 0} (f : A → B) where
  pub map_in : {y : B} (xs : List A) → In y (map f xs) → (x : A) × In x xs × (y ≡ f x)
  map_in [] a = nowhere a
  map_in (x ∷ xs) a = elim (one_of a) [ inl e ↦ (x, first, e) | inr b ↦ (let (z, c, e) = map_in xs b in (z, later c, e)) ]

  pub once_map : ((x y : A) → f x ≡ f y → x ≡ y) → (xs : List A) → NoneTwice xs → NoneTwice (map f xs)
  unfolding NoneTwice
  once_map inj [] o = tt
  once_map inj (x ∷ xs) o = (λ a. let (z, b, e) = map_in xs a in o.0 (subst (λ z. In z xs) (sym (inj x z e)) b), once_map inj xs o.1)

-- ---- the numbers below n, and lists made for each of them
pub up_to_in : {i : ℕ} (n : ℕ) → In i (up_to n) → i < n
unfolding up_to
up_to_in zero a = nowhere a
up_to_in {i} (suc n) a = elim (append_in (up_to n) a) [ inl b ↦ (let z = up_to_in n b in omega arith) | inr b ↦ elim (one_of b) [ inl e ↦ omega arith | inr c ↦ nowhere c ] ]

pub once_up_to : (n : ℕ) → NoneTwice (up_to n)
unfolding NoneTwice up_to
once_up_to zero = tt
once_up_to (suc n) = once_append (up_to n) (n ∷ []) (once_up_to n) (λ a. nowhere a, tt) λ i a b. elim (one_of b) [ inl e ↦ (let z = up_to_in n a in omega arith) | inr c ↦ nowhere c ]

module _ {A : Type 0} (f : ℕ → List A) where
  pub joined_in : {x : A} (n : ℕ) → In x (joined (map f (up_to n))) → (p : ℕ) × (p < n) × In x (f p)
  unfolding up_to joined
  joined_in zero a = nowhere a
  joined_in {x} (suc n) a = elim (append_in (joined (map f (up_to n))) (subst (In x) (joined_next f n) a)) [
    | inl b ↦ (let (p, h, c) = joined_in n b in (p, omega arith, c))
    | inr b ↦ (n, omega arith, b)
  ]

  pub once_joined : ((p : ℕ) → NoneTwice (f p)) → ((p q : ℕ) (x : A) → In x (f p) → In x (f q) → p ≡ q) → (n : ℕ) → NoneTwice (joined (map f (up_to n)))
  unfolding NoneTwice up_to joined
  once_joined each apart zero = tt
  once_joined each apart (suc n) =
      subst NoneTwice (sym (joined_next f n))
      (once_append (joined (map f (up_to n))) (f n) (once_joined each apart n) (each n) λ x a b. let (p, h, c) = joined_in n a in let z = apart p n x c b in omega arith)
