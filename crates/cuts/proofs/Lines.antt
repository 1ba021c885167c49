-- Lines by number, and cuts as lists of numbers.
use Prim.Native.Nat.{ℕ, zero, suc, ◌+◌, ◌<◌}
use mathlib.Core.Path.{◌≡◌, refl, sym, ◌∙◌, ap, fun_ext}
use mathlib.Core.List.{List, [], ◌∷◌}
use native.Mathlib.Decide.{dec_lt}
use native.Mathlib.Omega.{arith}
use lib.ListN.{length, get_or, set, get_or-eq_default}
use lib.Seq.{get_or-set_same, get_or-set_other}
use Rattle.rules.specs.Depends.{Series, entries_of, deliveries_to}
use Rattle.rules.specs.Rollback.{cut_to}
use Rattle.demands.proofs.Event.{line?}
use Rattle.demands.proofs.Cut.{cut_at, cut_off}
use Rattle.cuts.specs.Bounds.{line_count}
use Rattle.cuts.specs.Links.{line_number, cut_in, sum_of}

-- each number is that of one line
pub line_of : (x : ℕ) → (y : Series) × (line_number y ≡ x)
line_of zero = (entries_of 0, refl)
line_of (suc zero) = (deliveries_to 0, refl)
line_of (suc (suc x)) = go (line_of x)
  where
    go : (y : Series) × (line_number y ≡ x) → (y : Series) × (line_number y ≡ suc (suc x))
    go (entries_of p, e) = (entries_of (suc p), omega (arith, e))
    go (deliveries_to q, e) = (deliveries_to (suc q), omega (arith, e))

pub same_line : (x y : Series) → line_number x ≡ line_number y → x ≡ y
same_line (entries_of p) (entries_of q) e = ap entries_of (omega (arith, e))
same_line (entries_of p) (deliveries_to q) e = absurd (omega (arith, e))
same_line (deliveries_to p) (entries_of q) e = absurd (omega (arith, e))
same_line (deliveries_to p) (deliveries_to q) e = ap deliveries_to (omega (arith, e))

-- a number of a list is that of its line
pub at_line : (l : List ℕ) (x : Series) {n : ℕ} → n ≡ line_number x → get_or l n 0 ≡ cut_in l x
unfolding cut_in
at_line l x e = ap (λ z. get_or l z 0) e

pub cut_set : (l : List ℕ) (x : Series) (v : ℕ) {n : ℕ} → n ≡ line_number x → n < length l → cut_in (set l n v) ≡ cut_to x v (cut_in l)
unfolding cut_in
cut_set l x v {n} e h = fun_ext λ y. elim (line? x y) [
  | yes i ↦ ap (λ z. get_or (set l n v) z 0) (sym (e ∙ ap line_number i)) ∙ get_or-set_same l n v 0 h ∙ sym (cut_at x v (cut_in l)) ∙ ap (cut_to x v (cut_in l)) i
  | no i ↦ get_or-set_other l n (line_number y) v 0 (λ z. i (same_line x y (sym (z ∙ e)))) ∙ sym (cut_off x y v (cut_in l) i)
]

-- no line has a number past the list
pub line_low : (l : List ℕ) (x : Series) {m : ℕ} → length l ≡ line_count → m < cut_in l x → line_number x < line_count
unfolding cut_in
line_low l x e h = elim (dec_lt (line_number x) line_count) [ yes z ↦ z | no z ↦ absurd (omega (arith, h, get_or-eq_default l 0 {n = line_number x} (omega (arith, e)))) ]

-- ---- the sum falls with each number
pub sum_set : (l : List ℕ) (i v : ℕ) → i < length l → sum_of (set l i v) + get_or l i 0 ≡ sum_of l + v
sum_set [] i v h = absurd (omega arith)
sum_set (n ∷ l) zero v h = omega arith
sum_set (n ∷ l) (suc i) v h = omega (arith, sum_set l i v (omega arith))

pub sum_less : (l : List ℕ) (i v : ℕ) → i < length l → v < get_or l i 0 → sum_of (set l i v) < sum_of l
sum_less l i v h g = omega (arith, sum_set l i v h)
