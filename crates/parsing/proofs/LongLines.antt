-- A line of more than 16 bytes is malformed.
use mathlib.Core.Path.{◌≡◌, refl}
use mathlib.Core.Logic.{inl, inr}
use mathlib.Core.Bool.{◌&&◌}
use mathlib.Core.Option.{Option, none, some}
use mathlib.Core.List.{List, [], ◌∷◌}
use Prim.Native.Nat.{ℕ, suc, ◌+◌, ◌-◌, ◌*◌, ◌<◌, ◌≤◌}
use Prim.Native.String.{String}
use native.Mathlib.Omega.{arith}
use native.Mathlib.Decide.{dec_le}
use lib.Dec.{eqb, leb}
use lib.ListN.{length, take, drop, length-drop}
use lib.Seq.{length-take-le}
use Rattle.lists.proofs.Tests.{eqb-false, leb-true, and_left, true_or_false, none_not_some}
use Rattle.rules.specs.Text.{bytes, comma, zero_digit}
use Rattle.rules.specs.Line.{Request, split, digits_say, of_byte, number, after, one_number, two_numbers, keyed, parse_line}
use Rattle.parsing.specs.Pieces.{before}
use Rattle.parsing.proofs.PieceLaws.{split_more, split_last}
use Rattle.parsing.proofs.NumberLaws.{say_not, say_digit, say_large, one_none, two_first, two_second}

-- one digit more, if it is one
say_on : (n b : ℕ) (bs : List ℕ) → ((m : ℕ) → n * 10 + (b - 48) ≡ m → 48 ≤ b → of_byte (digits_say m bs) ≡ none) → of_byte (digits_say n (b ∷ bs)) ≡ none
unfolding of_byte
say_on n b bs next = elim (true_or_false (leb zero_digit b && leb b (zero_digit + 9))) [
  | inl t ↦ rw (say_digit n b bs t) (next (n * 10 + (b - 48)) refl (leb-true 48 b (and_left (leb zero_digit b) (leb b (zero_digit + 9)) t)))
  | inr f ↦ rw (say_not n b bs f) refl
]

-- four digits of which the first is no zero say more than 255
number_long : (text : List ℕ) → 3 < length text → number text ≡ none
unfolding number
number_long [] h = absurd (omega arith)
number_long (b ∷ []) h = absurd (omega arith)
number_long (b ∷ (d ∷ [])) h = absurd (omega arith)
number_long (b ∷ (d ∷ (f ∷ []))) h = absurd (omega arith)
number_long (b ∷ (d ∷ (f ∷ (g ∷ rest)))) h = elim (true_or_false (eqb b zero_digit)) [
  | inl t ↦ rw (t, number) refl
  | inr z ↦
      let nz : ¬ (b ≡ 48) = eqb-false b zero_digit z in
      rw (z, number) (say_on 0 b (d ∷ (f ∷ (g ∷ rest))) λ i ei hb. say_on i d (f ∷ (g ∷ rest)) λ j ej hd. say_on j f (g ∷ rest) λ k ek hf. say_on k g rest λ l el hg.
      let o : 1 ≤ i = one b i nz ei hb in say_large l rest (omega arith))
]
  where
    one : (x y : ℕ) → ¬ (x ≡ 48) → 0 * 10 + (x - 48) ≡ y → 48 ≤ x → 1 ≤ y
    one x y n e q = omega arith

one_long : (request : ℕ → Request) (text : List ℕ) → 3 < length text → one_number request (split comma text) ≡ none
one_long request text h = one_none request text (number_long text h)

two_long : (request : ℕ → ℕ → Request) (text : List ℕ) → 7 < length text → two_numbers request (split comma text) ≡ none
unfolding two_numbers
two_long request text h = elim (dec_le (length text) (before comma text)) [
  | yes l ↦ rw (split_last comma text l) refl
  | no g ↦ rw (split_more comma text (omega arith)) (pieces (before comma text) (omega arith) (number (take (before comma text) text)) refl)
]
  where
    pieces : (m : ℕ) → m < length text → (o : Option ℕ) → number (take m text) ≡ o → two_numbers request (take m text ∷ split comma (drop (suc m) text)) ≡ none
    pieces m l none e = two_first request (take m text) (split comma (drop (suc m) text)) e
    pieces m l (some a) e = elim (dec_le 4 m) [
      | yes q ↦ two_first request (take m text) (split comma (drop (suc m) text)) (number_long (take m text) (omega (arith, length-take-le m text (omega arith))))
      | no q ↦ two_second request (take m text) (drop (suc m) text) a e (number_long (drop (suc m) text) (omega (arith, length-drop (suc m) text)))
    ]

-- what follows a key is as long as is left
after_length : (key text rest : List ℕ) → after key text ≡ some rest → length text ≡ length key + length rest
unfolding after
after_length [] text rest e = let i : text ≡ rest = cc in rw i (omega arith)
after_length (k ∷ key) [] rest e = none_not_some e
after_length (k ∷ key) (b ∷ text) rest e = elim (true_or_false (eqb k b)) [
  | inl t ↦ let h = after_length key text rest (rw (t, after) at e) in omega arith
  | inr f ↦ none_not_some (rw (f, after) at e)
]

keyed_long : (key : String) (request : List (List ℕ) → Option Request) (text : List ℕ) (others : Option Request)
    → ((rest : List ℕ) → length text ≡ length (bytes key) + length rest → request (split comma rest) ≡ none) → others ≡ none → keyed key request text others ≡ none
unfolding keyed
keyed_long key request text others short e = go (after (bytes key) text) refl
  where
    go : (o : Option (List ℕ)) → after (bytes key) text ≡ o → keyed key request text others ≡ none
    go none n = rw (n, keyed) e
    go (some rest) s = rw (s, keyed) (short rest (after_length (bytes key) text rest s))

pub parse_long : (text : List ℕ) → 16 < length text → parse_line text ≡ none
unfolding parse_line bytes
parse_long text h =
    keyed_long "step=" _ text _ (λ rest l. one_long _ rest (omega arith))
    (keyed_long "spawn=" _ text _ (λ rest l. two_long _ rest (omega arith))
    (keyed_long "deliver=" _ text _ (λ rest l. two_long _ rest (omega arith))
    (keyed_long "back=" _ text _ (λ rest l. one_long _ rest (omega arith))
    (keyed_long "undeliver=" _ text _ (λ rest l. one_long _ rest (omega arith))
    (keyed_long "rollback=" _ text _ (λ rest l. two_long _ rest (omega arith))
    refl)))))
