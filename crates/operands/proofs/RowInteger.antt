-- Laws of 32-bit integers in code. A signed local holds bits, so a read of z at the width w is `to_z w (of_z w z)`, which is z where z fits.
use mathlib.Core.Path.{◌≡◌, refl, sym, ap, ◌∙◌, subst}
use mathlib.Core.Bool.{Bool, true, false, cond, ◌&&◌}
use mathlib.Core.Option.{none, some}
use Prim.Native.Nat.{ℕ, suc, ◌-◌, ◌≤◌, ◌<◌}
use native.Mathlib.Omega.{arith}
use native.Mathlib.Decide.{dec_le}
use lib.Dec.{ltb, leb}
use lib.IntN.{ℤ, pos, negsuc, ◌-ℤ◌}
use lib.Signed.{quot_z, rem_z, mag_rem}
use mir.Syntax.{Width, w32}
use mir.Val.{SFits, of_z, to_z, sel}
use mir.ValLaws.{to_z-of_z, of_z-to_z, sfits_le}
use borrow.Author.Tests.{leb-true, le-leb, lt-ltb, ne_eqb}
use Rattle.std.specs.Int.{CanDivide}
use Rattle.std.specs.Prelude.{Option, Some, None, SomeIff}
use Rattle.lists.proofs.Tests.{cond_true, cond_false}
use Rattle.term.specs.Tree.{int}
use Rattle.machine.specs.Operator.{signed, unsigned, in_range, ranged, is_zero, divided}
use Rattle.operands.specs.Answers.{number}

pub and_true : (b : Bool) → (b && true) ≡ b
and_true true = refl
and_true false = refl

-- ---- ranges
pub in→fits : (z : ℤ) → in_range z ≡ true → SFits w32 z
unfolding in_range
in→fits (pos n) h = record { sfits = omega (arith, leb-true n 2147483647 h) }
in→fits (negsuc n) h = record { sfits = omega (arith, leb-true n 2147483647 (sym (and_true (leb n 2147483647)) ∙ h)) }

pub fits→in : (z : ℤ) → SFits w32 z → in_range z ≡ true
unfolding in_range
fits→in (pos n) f = le-leb n 2147483647 (omega (arith, f.sfits))
fits→in (negsuc n) f = and_true (leb n 2147483647) ∙ le-leb n 2147483647 (omega (arith, f.sfits))

-- ---- words
pub unsigned_is : (z : ℤ) → unsigned z ≡ of_z w32 z
unfolding unsigned
unsigned_is (pos n) = refl
unsigned_is (negsuc n) = refl

signed_by : (w : ℕ) (t : Bool) → w < 4294967296 → cond t (pos w) (pos w -ℤ pos 4294967296) ≡ sel t (pos w) (negsuc (4294967296 - suc w))
signed_by w true h = refl
signed_by w false h = ap (λ (t : Bool). cond t (negsuc (4294967296 - suc w)) (pos (w - 4294967296))) (lt-ltb w 4294967296 h)

pub signed_is : (w : ℕ) → w < 4294967296 → signed w ≡ to_z w32 w
unfolding signed
signed_is w h = signed_by w (ltb w 2147483648) h

pub unsigned_signed : (w : ℕ) → w < 4294967296 → unsigned (signed w) ≡ w
unsigned_signed w h = ap unsigned (signed_is w h) ∙ unsigned_is (to_z w32 w) ∙ of_z-to_z w32 w (record { fits = h })

word_below : (z : ℤ) → SFits w32 z → of_z w32 z < 4294967296
word_below (pos n) f = omega (arith, f.sfits)
word_below (negsuc n) f = omega (arith, f.sfits)

pub unsigned_below : (z : ℤ) → in_range z ≡ true → unsigned z < 4294967296
unsigned_below z h = subst (λ (n : ℕ). n < 4294967296) (sym (unsigned_is z)) (word_below z (in→fits z h))

pub signed_unsigned : (z : ℤ) → in_range z ≡ true → signed (unsigned z) ≡ z
signed_unsigned z h = signed_is (unsigned z) (unsigned_below z h) ∙ ap (to_z w32) (unsigned_is z) ∙ to_z-of_z w32 z (in→fits z h)

-- a read of a signed local
abbrev pub read : Width → ℤ → ℤ
read w z = to_z w (of_z w z)

-- ---- an operator's result: the number where it fits
pub checked : (r : Option ℤ) (z : ℤ) → SomeIff r (SFits w32 z) z → number r ≡ ranged z
unfolding ranged
checked (Some x) z h = ap (λ (v : ℤ). some (int (unsigned v))) h.1 ∙ sym (cond_true (some (int (unsigned z))) none (fits→in z h.0))
checked None z h = go (in_range z) (in→fits z)
  where
    go : (b : Bool) → (b ≡ true → SFits w32 z) → none ≡ cond b (some (int (unsigned z))) none
    go true f = absurd (h (f refl))
    go false f = refl

-- ---- div, rem
pub zero_is : {y : ℤ} → SFits w32 y → of_z w32 y ≡ 0 → is_zero y ≡ true
unfolding is_zero
zero_is {y} f e = ap is_zero (sym (to_z-of_z w32 y f) ∙ ap (to_z w32) e)

nonzero_is : (y : ℤ) → (of_z w32 y ≡ 0 → ⊥) → is_zero y ≡ false
unfolding is_zero
nonzero_is (pos n) h = ne_eqb n 0 h
nonzero_is (negsuc n) h = refl

pub divided_checked : (r : Option ℤ) (x y : ℤ) → SFits w32 y → SomeIff r (CanDivide w32 x y) (quot_z x y) → number r ≡ divided y (quot_z x y)
unfolding divided
divided_checked (Some q) x y f h = checked (Some q) (quot_z x y) (h.0.1, h.1) ∙ sym (cond_false none _ (nonzero_is y (λ e. omega arith)))
divided_checked None x y f h = go (dec_le (of_z w32 y) 0)
  where
    go : Dec (of_z w32 y ≤ 0) → none ≡ cond (is_zero y) none (ranged (quot_z x y))
    go (yes z) = sym (cond_true none _ (zero_is f (omega arith)))
    go (no d) = checked None (quot_z x y) (λ q. h (omega arith, q)) ∙ sym (cond_false none _ (nonzero_is y (λ e. omega arith)))

pub rem_none : (x : ℤ) {y : ℤ} → SFits w32 y → of_z w32 y ≡ 0 → none ≡ divided y (rem_z x y)
unfolding divided
rem_none x f e = sym (cond_true none _ (zero_is f e))

pub rem_value : {x y r : ℤ} → SFits w32 x → SFits w32 y → (of_z w32 y ≡ 0 → ⊥) → r ≡ rem_z (read w32 x) (read w32 y) → some (int (unsigned (read w32 r))) ≡ divided y (rem_z x y)
unfolding divided
rem_value {x} {y} {r} fx fy d e =
    let fits : SFits w32 (rem_z x y) = sfits_le {y = rem_z x y} {z = x} (mag_rem x y) fx in
    let is : r ≡ rem_z x y = e ∙ (λ i. rem_z (to_z-of_z w32 x fx i) (to_z-of_z w32 y fy i)) in
    checked (Some (read w32 r)) (rem_z x y) (fits, ap (read w32) is ∙ to_z-of_z w32 (rem_z x y) fits) ∙ sym (cond_false none _ (nonzero_is y d))
