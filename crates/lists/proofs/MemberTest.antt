-- Laws of the test `member`, and of `All` on what passes it.
use Prim.Native.Nat.{ℕ, zero, suc, ◌<◌}
use mathlib.Core.Path.{◌≡◌, refl, sym, subst}
use mathlib.Core.Logic.{◌⊎◌, inl, inr}
use mathlib.Core.Bool.{true}
use mathlib.Core.List.{List, [], ◌∷◌, ◌++◌}
use native.Mathlib.Omega.{arith}
use native.Mathlib.Decide.{dec_lt}
use lib.Dec.{eqb}
use lib.ListN.{replicate}
use Rattle.lists.specs.Lists.{member, up_to, All}
use Rattle.lists.proofs.Tests.{eqb-true, eqb_of, or_true, or_left, or_right, true_not_false}

pub member_here : (k : ℕ) (xs : List ℕ) → member k (k ∷ xs) ≡ true
unfolding member
member_here k xs = or_left (member k xs) (eqb_of k k refl)

pub member_there : (k x : ℕ) (xs : List ℕ) → member k xs ≡ true → member k (x ∷ xs) ≡ true
unfolding member
member_there k x xs h = or_right (eqb k x) h

-- a member of a list with a head is the head or a member of the others
pub member_cons : (k x : ℕ) (xs : List ℕ) → member k (x ∷ xs) ≡ true → (k ≡ x) ⊎ (member k xs ≡ true)
unfolding member
member_cons k x xs h = elim (or_true (eqb k x) (member k xs) h) [ inl e ↦ inl (eqb-true k x e) | inr m ↦ inr m ]

pub member_none : {A : Type 0} (k : ℕ) → member k [] ≡ true → A
unfolding member
member_none k h = true_not_false h refl

-- what holds of all of a list holds of each member
pub member_all : (P : ℕ → Type 0) (k : ℕ) (xs : List ℕ) → All P xs → member k xs ≡ true → P k
unfolding All
member_all P k [] h m = member_none k m
member_all P k (x ∷ xs) h m = elim (member_cons k x xs m) [ inl e ↦ subst P (sym e) h.0 | inr m' ↦ member_all P k xs h.1 m' ]

pub member_append : (k : ℕ) (xs ys : List ℕ) → member k (xs ++ ys) ≡ true → (member k xs ≡ true) ⊎ (member k ys ≡ true)
member_append k [] ys h = inr h
member_append k (x ∷ xs) ys h = elim (member_cons k x (xs ++ ys) h) [
  | inl e ↦ inl (subst (λ y. member k (y ∷ xs) ≡ true) e (member_here k xs))
  | inr m ↦ elim (member_append k xs ys m) [ inl a ↦ inl (member_there k x xs a) | inr b ↦ inr b ]
]

pub member_left : (k : ℕ) (xs ys : List ℕ) → member k xs ≡ true → member k (xs ++ ys) ≡ true
member_left k [] ys h = member_none k h
member_left k (x ∷ xs) ys h = elim (member_cons k x xs h) [
  | inl e ↦ subst (λ y. member k (y ∷ (xs ++ ys)) ≡ true) e (member_here k (xs ++ ys))
  | inr m ↦ member_there k x (xs ++ ys) (member_left k xs ys m)
]

pub member_right : (k : ℕ) (xs ys : List ℕ) → member k ys ≡ true → member k (xs ++ ys) ≡ true
member_right k [] ys h = h
member_right k (x ∷ xs) ys h = member_there k x (xs ++ ys) (member_right k xs ys h)

-- 0, 1, .. n-1 are the numbers below n
pub up_to_below : (k n : ℕ) → member k (up_to n) ≡ true → k < n
unfolding up_to
up_to_below k zero h = member_none k h
up_to_below k (suc n) h = elim (member_append k (up_to n) (n ∷ []) h) [
  | inl m ↦ (let b = up_to_below k n m in omega arith)
  | inr m ↦ elim (member_cons k n [] m) [ inl e ↦ omega arith | inr f ↦ member_none k f ]
]

pub below_up_to : (k n : ℕ) → k < n → member k (up_to n) ≡ true
unfolding up_to
below_up_to k zero h = absurd (omega arith)
below_up_to k (suc n) h = elim (dec_lt k n) [
  | yes b ↦ member_left k (up_to n) (n ∷ []) (below_up_to k n b)
  | no b ↦ member_right k (up_to n) (n ∷ []) (let e : k ≡ n = omega arith in subst (λ m. member k (m ∷ []) ≡ true) e (member_here k []))
]

-- what holds of x holds of all of a list of x
pub all_replicate : {A : Type 0} (P : A → Type 0) (n : ℕ) (x : A) → P x → All P (replicate n x)
unfolding All
all_replicate P zero x h = tt
all_replicate P (suc n) x h = (h, all_replicate P n x h)
