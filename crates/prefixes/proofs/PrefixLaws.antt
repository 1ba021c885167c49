-- Prefixes as the library compares them, and a row without one of its words.
use Prim.Native.Nat.{ℕ, suc, ◌+◌, ◌-◌, ◌≤◌, ◌<◌}
use mathlib.Core.Path.{◌≡◌, refl, sym, ◌∙◌, ap}
use mathlib.Core.Bool.{Bool, true, false, ◌&&◌, and_assoc}
use mathlib.Core.List.{List, [], ◌∷◌, ◌++◌, append-nil}
use native.Mathlib.Omega.{arith}
use lib.Dec.{eqb}
use lib.ListN.{length, take, drop, drop_of_length-le, length-drop}
use lib.Seq.{length-take-le, take_all}
use lib.Pointwise.{pointwise}
use Rattle.lists.proofs.Tests.{and_right, true_not_false}
use Rattle.prefixes.specs.Prefixes.{begins, left_begins}

-- the library's word for it
pub begins_is : (xs ys : List ℕ) → begins xs ys ≡ pointwise eqb xs (take (length xs) ys)
unfolding begins
begins_is [] ys = refl
begins_is (x ∷ xs) [] = refl
begins_is (x ∷ xs) (y ∷ ys) = ap (λ (b : Bool). eqb x y && b) (begins_is xs ys)

-- ---- a queue without the message that a rec took

begins_parts : (xs zs ys : List ℕ) → begins (xs ++ zs) ys ≡ (begins xs ys && begins zs (drop (length xs) ys))
unfolding begins
begins_parts [] zs ys = refl
begins_parts (x ∷ xs) zs [] = refl
begins_parts (x ∷ xs) zs (y ∷ ys) = ap (λ (b : Bool). eqb x y && b) (begins_parts xs zs ys) ∙ sym (and_assoc (eqb x y) (begins xs ys) (begins zs (drop (length xs) ys)))

begins_within : (xs ys : List ℕ) → begins xs ys ≡ true → length xs ≤ length ys
unfolding begins
begins_within [] ys e = omega arith
begins_within (x ∷ xs) [] e = absurd (true_not_false e refl)
begins_within (x ∷ xs) (y ∷ ys) e = let h = begins_within xs ys (and_right (eqb x y) (begins xs ys) e) in omega arith

module _ (taken : ℕ) (before after : List ℕ) where
  pub left_outside : (r : Bool) → length before ≤ taken → r ≡ begins before after → r ≡ left_begins taken before after
  unfolding left_begins
  left_outside r h e = e ∙ ap (λ (xs : List ℕ). begins xs after) (sym ((λ i. take_all taken before h i ++ drop_of_length-le before {i = suc taken} (omega arith) i) ∙ append-nil before))

  left_is : taken < length before → left_begins taken before after ≡ (begins (take taken before) after && begins (drop (suc taken) before) (drop taken after))
  unfolding left_begins
  left_is h =
      begins_parts (take taken before) (drop (suc taken) before) after
      ∙ ap (λ (n : ℕ). begins (take taken before) after && begins (drop (suc taken) before) (drop n after)) (length-take-le taken before (omega arith))

  pub left_within : (b : Bool) → taken < length before → b ≡ begins (take taken before) after → b ≡ true → taken ≤ length after
  left_within b h e t = omega (arith, length-take-le taken before (omega arith), begins_within (take taken before) after (sym e ∙ t))

  pub left_breaks : (b : Bool) → taken < length before → b ≡ begins (take taken before) after → b ≡ false → b ≡ left_begins taken before after
  left_breaks b h e f = f ∙ sym (left_is h ∙ ap (λ (c : Bool). c && begins (drop (suc taken) before) (drop taken after)) (sym e ∙ f))

  pub left_rest : (b r : Bool) → taken < length before → b ≡ begins (take taken before) after → b ≡ true
      → r ≡ begins (take (length before - (taken + 1)) (drop (taken + 1) before)) (take (length after - taken) (drop taken after)) → r ≡ left_begins taken before after
  left_rest b r h e t q =
      let one : suc taken ≡ taken + 1 = omega arith in
      q
      ∙ (λ i. begins (take_all (length before - (taken + 1)) (drop (taken + 1) before) (omega (arith, length-drop (taken + 1) before)) i) (take_all (length after - taken) (drop taken after) (omega (arith, length-drop taken after)) i))
      ∙ ap (λ (n : ℕ). begins (drop n before) (drop taken after)) (sym one)
      ∙ sym (left_is h ∙ ap (λ (c : Bool). c && begins (drop (suc taken) before) (drop taken after)) (sym e ∙ t))
