-- Elements of a list: which there are in lists made of others, and what a test on all of them says.
use Prim.Native.Nat.{ℕ, zero, suc, ◌<◌}
use mathlib.Core.Path.{◌≡◌, refl, sym, ◌∙◌, ap}
use mathlib.Core.Logic.{◌⊎◌, inl, inr}
use mathlib.Core.Bool.{Bool, true, false}
use mathlib.Core.List.{List, [], ◌∷◌, ◌++◌, map}
use native.Mathlib.Decide.{ℕ_discrete}
use native.Mathlib.Omega.{arith}
use Rattle.lists.specs.Lists.{up_to, any, keep, joined}
use Rattle.lists.specs.Members.{In, first, later}
use Rattle.lists.proofs.Tests.{true_not_false, true_or_false, or_true, or_false_left, or_false_right}
use Rattle.lists.proofs.Lists.{keep_true, keep_false}

module _ {A : Type 0} where
  pub in_left : {x : A} {xs : List A} (ys : List A) → In x xs → In x (xs ++ ys)
  in_left ys first = first
  in_left ys (later i) = later (in_left ys i)

  pub in_right : {x : A} (xs : List A) {ys : List A} → In x ys → In x (xs ++ ys)
  in_right [] i = i
  in_right (y ∷ xs) i = later (in_right xs i)

  pub in_joined : {x : A} {xs : List A} {xss : List (List A)} → In x xs → In xs xss → In x (joined xss)
  unfolding joined
  in_joined {xs} i (first {xs = yss}) = in_left (joined yss) i
  in_joined i (later {y} j) = in_right y (in_joined i j)

  -- a test that no element passes, or that one does
  pub none_passes : {x : A} (test : A → Bool) (xs : List A) → any test xs ≡ false → In x xs → test x ≡ false
  unfolding any
  none_passes test [] e i = elim i [ ]
  none_passes test (x ∷ xs) e first = or_false_left (test x) (any test xs) e
  none_passes test (y ∷ xs) e (later i) = none_passes test xs (or_false_right (test y) (any test xs) e) i

  pub one_passes : (test : A → Bool) (xs : List A) → any test xs ≡ true → (x : A) × In x xs × (test x ≡ true)
  unfolding any
  one_passes test [] e = true_not_false e refl
  one_passes test (x ∷ xs) e = go (or_true (test x) (any test xs) e) (one_passes test xs)
    where
      go : (test x ≡ true) ⊎ (any test xs ≡ true) → (any test xs ≡ true → (y : A) × In y xs × (test y ≡ true)) → (y : A) × In y (x ∷ xs) × (test y ≡ true)
      go (inl i) f = (x, first, i)
      go (inr i) f = let (y, j, t) = f i in (y, later j, t)

  pub passes : {x : A} (test : A → Bool) (xs : List A) → In x xs → test x ≡ true → any test xs ≡ true
  passes {x} test xs i e = elim (true_or_false (any test xs)) [ inl t ↦ t | inr f ↦ true_not_false e (none_passes test xs f i) ]

  -- what is kept
  nil_not_cons : {B : Type 0} {x : A} {xs : List A} → [] ≡ x ∷ xs → B
  nil_not_cons e = let z : ◌≡◌ {A = ℕ} 0 1 = cc in absurd (omega arith)

  head_is : {x y : A} {xs ys : List A} → x ∷ xs ≡ y ∷ ys → x ≡ y
  head_is e = cc

  pub none_kept : {x : A} (test : A → Bool) (xs : List A) → keep test xs ≡ [] → In x xs → test x ≡ false
  none_kept test [] e i = elim i [ ]
  none_kept test (x ∷ xs) e first = elim (true_or_false (test x)) [ inl t ↦ nil_not_cons (sym e ∙ keep_true test x xs t) | inr t ↦ t ]
  none_kept test (y ∷ xs) e (later i) = elim (true_or_false (test y)) [
    | inl t ↦ nil_not_cons (sym e ∙ keep_true test y xs t)
    | inr t ↦ none_kept test xs (sym (keep_false test y xs t) ∙ e) i
  ]

  pub first_kept : {x : A} {ys : List A} (test : A → Bool) (xs : List A) → keep test xs ≡ x ∷ ys → test x ≡ true
  unfolding keep
  first_kept test [] e = nil_not_cons e
  first_kept {x} {ys} test (y ∷ xs) e = go (true_or_false (test y)) (first_kept test xs)
    where
      go : (test y ≡ true) ⊎ (test y ≡ false) → (keep test xs ≡ x ∷ ys → test x ≡ true) → test x ≡ true
      go (inl t) f = ap test (sym (head_is (sym (keep_true test y xs t) ∙ e))) ∙ t
      go (inr t) f = f (sym (keep_false test y xs t) ∙ e)

  pub in_kept : {x : A} (test : A → Bool) (xs : List A) → In x xs → test x ≡ true → In x (keep test xs)
  in_kept test [] i t = elim i [ ]
  in_kept test (x ∷ xs) first t = rw (keep_true test x xs t) first
  in_kept test (y ∷ xs) (later i) t = elim (true_or_false (test y)) [
    | inl u ↦ rw (keep_true test y xs u) (later (in_kept test xs i t))
    | inr u ↦ rw (keep_false test y xs u) (in_kept test xs i t)
  ]

  -- what is kept passes
  in_first : {x y : A} {xs : List A} → In x (y ∷ xs) → (x ≡ y) ⊎ In x xs
  in_first first = inl refl
  in_first (later i) = inr i

  in_none : {B : Type 0} {x : A} {xs : List A} → In x xs → xs ≡ [] → B
  in_none (first {xs}) e = nil_not_cons (sym e)
  in_none (later {y} {xs} i) e = nil_not_cons (sym e)

  pub kept_passes : {x : A} (test : A → Bool) (xs : List A) → In x (keep test xs) → test x ≡ true
  unfolding keep
  kept_passes test [] i = in_none i refl
  kept_passes {x} test (y ∷ xs) i = go (true_or_false (test y)) (kept_passes test xs)
    where
      go : (test y ≡ true) ⊎ (test y ≡ false) → (In x (keep test xs) → test x ≡ true) → test x ≡ true
      go (inl t) f = elim (in_first (rw (keep_true test y xs t) at i)) [ inl e ↦ ap test e ∙ t | inr j ↦ f j ]
      go (inr t) f = f (rw (keep_false test y xs t) at i)

module _ {A B : Type 0} where
  pub in_map : {x : A} {xs : List A} (f : A → B) → In x xs → In (f x) (map f xs)
  in_map f first = first
  in_map f (later i) = later (in_map f i)

pub in_up_to : {i : ℕ} (n : ℕ) → i < n → In i (up_to n)
unfolding up_to
in_up_to zero h = absurd (omega arith)
in_up_to {i} (suc n) h = go (ℕ_discrete i n) (in_up_to {i = i} n)
  where
    go : Dec (i ≡ n) → (i < n → In i (up_to n)) → In i (up_to n ++ (n ∷ []))
    go (yes e) f = in_right (up_to n) (rw e first)
    go (no e) f = in_left (n ∷ []) (f (omega arith))
