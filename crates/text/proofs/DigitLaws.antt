-- Laws of numbers written digit by digit.
use mathlib.Core.Path.{◌≡◌, refl, sym, ap, ◌∙◌}
use mathlib.Core.List.{List, [], ◌∷◌, ◌++◌}
use Prim.Native.Nat.{ℕ, zero, suc, ◌+◌, ◌-◌, ◌/◌, ◌%◌, ◌<◌, ◌≤◌}
use native.Mathlib.Omega.{arith}
use native.Mathlib.Decide.{dec_le}
use lib.ListN.{length}
use Rattle.lists.proofs.Tests.{ltb_of, ltb_over}
use Rattle.rules.specs.Text.{digit, hex_digit, decimal_in, decimal, hex_in, zero_digit}
use Rattle.text.specs.Written.{far, onward, Wrote}
use Rattle.text.proofs.WritingLaws.{wrote_then, wrote_none}

-- decimal digits
decimal_last : (rounds n : ℕ) → n < 10 → decimal_in (suc rounds) n ≡ (zero_digit + n) ∷ []
unfolding decimal_in digit
decimal_last rounds n h = rw (ltb_of n 10 h, decimal_in) refl

decimal_next : (rounds n : ℕ) → 10 ≤ n → decimal_in (suc rounds) n ≡ decimal_in rounds (n / 10) ++ ((zero_digit + n % 10) ∷ [])
unfolding decimal_in digit
decimal_next rounds n h = rw (ltb_over n 10 h, decimal_in) refl

-- more rounds than enough change nothing
decimal_rounds : (r q n : ℕ) → n < r → n < q → decimal_in r n ≡ decimal_in q n
decimal_rounds zero q n h g = absurd (omega arith)
decimal_rounds (suc r) zero n h g = absurd (omega arith)
decimal_rounds (suc r) (suc q) n h g = elim (dec_le 10 n) [
  | yes l ↦ decimal_next r n l ∙ ap (λ (ds : List ℕ). ds ++ ((zero_digit + n % 10) ∷ [])) (decimal_rounds r q (n / 10) (omega arith) (omega arith)) ∙ sym (decimal_next q n l)
  | no s ↦ decimal_last r n (omega arith) ∙ sym (decimal_last q n (omega arith))
]

pub wrote_decimal_last : (n : ℕ) {old new : List ℕ} {at e : ℕ} → n < 10 → Wrote ((zero_digit + n) ∷ []) at old new e → Wrote (decimal n) at old new e
unfolding decimal
wrote_decimal_last n h w = rw (decimal_last n n h) w

pub wrote_decimal_next : (n : ℕ) {old mid new : List ℕ} {at b e : ℕ} → 10 ≤ n → Wrote (decimal (n / 10)) at old mid b → Wrote ((zero_digit + n % 10) ∷ []) b mid new e → Wrote (decimal n) at old new e
unfolding decimal
wrote_decimal_next n h w v =
    rw (decimal_next n n h, decimal_rounds n (suc (n / 10)) (n / 10) (omega arith) (omega arith)) (wrote_then w v)

-- hexadecimal digits
pub hex_below_ten : (d : ℕ) → d < 10 → zero_digit + d ≡ hex_digit d
unfolding hex_digit digit
hex_below_ten d h = rw (ltb_of d 10 h) refl

pub hex_from_ten : (d : ℕ) → 10 ≤ d → 65 + (d - 10) ≡ hex_digit d
unfolding hex_digit digit
hex_from_ten d h = rw (ltb_over d 10 h) (omega arith)

pub wrote_digits_none : (d w : ℕ) {old : List ℕ} {at e : ℕ} → d ≡ 0 → e ≡ onward (at + 0) → length old < far → Wrote (hex_in d w) at old old e
unfolding hex_in
wrote_digits_none d w {old} {at} {e} z h s = rw z (wrote_none old at e h s)

pub wrote_digits_next : (d w x : ℕ) {old mid new : List ℕ} {at b e : ℕ} → ¬ (d ≡ 0) → x ≡ hex_digit (w % 16) → Wrote (hex_in (d - 1) (w / 16)) at old mid b → Wrote (x ∷ []) b mid new e → Wrote (hex_in d w) at old new e
unfolding hex_in
wrote_digits_next zero w x z h u v = absurd (z refl)
wrote_digits_next (suc d) w x {mid = mid} {new} {b = b} {e} z h u v =
    let t : suc d - 1 ≡ d = omega arith in
    wrote_then (rw t at u) (rw h at v)
