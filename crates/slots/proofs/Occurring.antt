-- What occurs in lists of numbers: facts of all elements, joined lists, lists turned round.
use Prim.Native.Nat.{ℕ, ◌≤◌}
use mathlib.Core.Path.{◌≡◌, refl, sym, ◌∙◌, ap, subst}
use mathlib.Core.List.{List, [], ◌∷◌, ◌++◌, map, map-append, append-nil, reverse, reverse-cons}
use native.Mathlib.Decide.{ℕ_discrete}
use native.Mathlib.Omega.{arith}
use Rattle.lists.specs.Lists.{All, joined}
use Rattle.lists.proofs.Lists.{joined_append}
use Rattle.lists.proofs.Counts.{occurs, occurs_append, occurs_head, occurs_other, occurs_more}

-- what occurs has what all have, and all have what each that occurs has
module _ (P : ℕ → Type 0) where
  pub occurs_so : (c : ℕ) (cs : List ℕ) → All P cs → 1 ≤ occurs c cs → P c
  unfolding All occurs
  occurs_so c [] a h = absurd (omega arith)
  occurs_so c (x ∷ cs) a h = elim (ℕ_discrete c x) [
    | yes e ↦ subst P (sym e) a.0
    | no n ↦ occurs_so c cs a.1 (omega (arith, h, occurs_other c x cs n))
  ]

  pub all_occurring : (cs : List ℕ) → ((c : ℕ) → 1 ≤ occurs c cs → P c) → All P cs
  unfolding All
  all_occurring [] f = tt
  all_occurring (x ∷ cs) f = (f x (omega (arith, occurs_head x cs)), all_occurring cs (λ c h. f c (omega (arith, h, occurs_more c x cs))))

-- joined lists
module _ {A X : Type 0} (g : A → List X) where
  -- one element more
  pub collect_snoc : (xs : List A) (x : A) → joined (map g (xs ++ (x ∷ []))) ≡ joined (map g xs) ++ g x
  unfolding joined
  collect_snoc xs x = ap joined (map-append g xs (x ∷ [])) ∙ joined_append (map g xs) (g x ∷ []) ∙ ap (λ z. joined (map g xs) ++ z) (append-nil (g x))

module _ {A : Type 0} (g : A → List ℕ) (c : ℕ) where
  -- turned round, what is collected occurs as often
  pub occurs_reverse : (xs : List A) → occurs c (joined (map g (reverse xs))) ≡ occurs c (joined (map g xs))
  unfolding joined
  occurs_reverse [] = refl
  occurs_reverse (x ∷ xs) =
      ap (λ (ys : List A). occurs c (joined (map g ys))) (reverse-cons x xs)
      ∙ ap (occurs c) (collect_snoc g (reverse xs) x)
      ∙ omega (arith, occurs_append c (joined (map g (reverse xs))) (g x), occurs_append c (g x) (joined (map g xs)), occurs_reverse xs)
