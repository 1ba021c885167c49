-- The operators 0..8: + - * div rem =:= =/= < =<.
use Rattle.std.specs.Prelude.{ℕ, suc, ◌-◌, Bool, false, cond, not, ◌&&◌, ltb, eqb, ℤ, pos, negsuc, ◌+ℤ◌, ◌-ℤ◌, ◌*ℤ◌}
use Rattle.std.proofs.Math.Option.{Option, none, some}
use Rattle.std.specs.Int.Signed.{lt_z, le_z, quot_z, rem_z}
use Rattle.term.specs.Tree.{Term, Terms, int, node, end, ◌then◌}
use Rattle.machine.specs.Value.{same_term, truth}

abbrev pub op_add : ℕ
op_add = 0

abbrev pub op_subtract : ℕ
op_subtract = 1

abbrev pub op_multiply : ℕ
op_multiply = 2

abbrev pub op_div : ℕ
op_div = 3

abbrev pub op_rem : ℕ
op_rem = 4

abbrev pub op_equal : ℕ
op_equal = 5

abbrev pub op_unequal : ℕ
op_unequal = 6

abbrev pub op_less : ℕ
op_less = 7

abbrev pub op_at_most : ℕ
op_at_most = 8

-- the number that a word is the two's complement of: w below 2^31, else w - 2^32
unfoldable pub signed : ℕ → ℤ
signed w = cond (ltb w 2147483648) (pos w) (pos w -ℤ pos 4294967296)

-- the word of a number: z, or z + 2^32 where z is negative (`negsuc n` is -(n + 1))
unfoldable pub unsigned : ℤ → ℕ
unsigned (pos n) = n
unsigned (negsuc n) = 4294967296 - suc n

-- "-2147483648..2147483647"
unfoldable pub in_range : ℤ → Bool
in_range z = le_z (negsuc 2147483647) z && le_z z (pos 2147483647)

-- "a result outside .. is stuck"
unfoldable pub ranged : ℤ → Option Term
ranged z = cond (in_range z) (some (int (unsigned z))) none

unfoldable pub is_zero : ℤ → Bool
is_zero (pos n) = eqb n 0
is_zero (negsuc n) = false

-- "a zero divisor is stuck"
unfoldable pub divided : ℤ → ℤ → Option Term
divided divisor z = cond (is_zero divisor) none (ranged z)

-- "The first five and the last two need integers". "Div rounds toward zero; rem has the dividend's sign": `quot_z` and `rem_z` do.
unfoldable pub on_integers : ℕ → ℤ → ℤ → Option Term
on_integers op x y =
    cond (eqb op op_add) (ranged (x +ℤ y))
    (cond (eqb op op_subtract) (ranged (x -ℤ y))
    (cond (eqb op op_multiply) (ranged (x *ℤ y))
    (cond (eqb op op_div) (divided y (quot_z x y))
    (cond (eqb op op_rem) (divided y (rem_z x y))
    (cond (eqb op op_less) (some (truth (lt_z x y)))
    (cond (eqb op op_at_most) (some (truth (le_z x y)))
    none))))))

unfoldable pub if_integers : ℕ → Term → Term → Option Term
if_integers op (int x) (int y) = on_integers op (signed x) (signed y)
if_integers op (int x) (node tag n k ts) = none
if_integers op (node tag n k ts) b = none

-- An operator on two values; none where it is stuck. "=:= and its opposite =/= take any values."
unfoldable pub operate : ℕ → Term → Term → Option Term
operate op a b =
    cond (eqb op op_equal) (some (truth (same_term a b)))
    (cond (eqb op op_unequal) (some (truth (not (same_term a b))))
    (if_integers op a b))

-- on the children of a call
unfoldable pub operate_on : ℕ → Terms → Option Term
operate_on op end = none
operate_on op (a then end) = none
operate_on op (a then (b then ts)) = operate op a b
