-- What the code's test of a word outside patterns returns: whether it is light.
use Prim.Native.Nat.{ℕ, ◌≤◌}
use mathlib.Core.Path.{◌≡◌, refl, sym, ◌∙◌}
use native.Mathlib.Omega.{arith}
use Rattle.term.specs.Words.{tag_of, n_of, tag_atom, tag_integer, tag_call}
use Rattle.term.proofs.WordLaws.{n_small}
use Rattle.checks.specs.Walking.{IsLight}

-- what `light_word` returns
module _ (w t : ℕ) (et : t ≡ tag_of w) where
  pub light_integer : t ≡ tag_integer → IsLight w (record { words = 2; below = 0 })
  light_integer e = record { some = omega arith; few = omega arith; few_below = omega arith; integer = λ i. (refl, refl); plain = λ d. absurd (d (sym et ∙ e)) }

  pub light_plain : ¬ (t ≡ tag_integer) → tag_atom ≤ t → t ≤ tag_call → (n : ℕ) → n ≡ n_of w → IsLight w (record { words = 1; below = n })
  light_plain d low high n en =
      record { some = omega arith; few = omega arith; few_below = omega (arith, n_small w, en); integer = λ i. absurd (d (et ∙ i)); plain = λ o. (omega (arith, low, et), omega (arith, high, et), refl, en) }
