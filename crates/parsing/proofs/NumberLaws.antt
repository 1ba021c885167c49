-- Laws of numbers in texts: digits read one after another, one number, two numbers with a comma between them.
use mathlib.Core.Path.{◌≡◌, refl, sym, ◌∙◌}
use mathlib.Core.Logic.{inl, inr}
use mathlib.Core.Bool.{Bool, true, false, ◌&&◌}
use mathlib.Core.Option.{Option as Maybe, none, some}
use mathlib.Core.List.{List, [], ◌∷◌}
use Prim.Native.Nat.{ℕ, suc, ◌+◌, ◌-◌, ◌*◌, ◌<◌, ◌≤◌}
use native.Mathlib.Omega.{arith}
use native.Mathlib.Numerals.{add-one}
use native.Mathlib.Decide.{dec_le}
use lib.Dec.{eqb, leb}
use lib.ListN.{length, take, drop, get_or, length-drop, drop_of_length-le}
use lib.Seq.{drop-cons, take_all}
use Rattle.lists.proofs.Tests.{eqb_of, eqb_apart, eqb-true, leb_of, leb_over, and_of, true_or_false, none_not_some}
use Rattle.rules.specs.Text.{comma, zero_digit}
use Rattle.rules.specs.Line.{Request, split, digits_say, of_byte, number, one_number, two_numbers}
use Rattle.std.specs.Prelude.{Option, Some, None}
use Rattle.std.specs.Char.{IsAsciiDigit, IsNotAsciiDigit}
use Rattle.parsing.specs.Pieces.{before, piece_end}
use Rattle.parsing.specs.Requests.{number_said, asked_by, ReadsPair}
use Rattle.parsing.proofs.PieceLaws.{before_within, split_more, split_last, split_some}

-- a byte is a digit, or it is not
digit_low : (b : ℕ) → b < 48 → (leb zero_digit b && leb b (zero_digit + 9)) ≡ false
digit_low b h = rw (leb_over zero_digit b h) refl

digit_high : (b : ℕ) → 57 < b → (leb zero_digit b && leb b (zero_digit + 9)) ≡ false
digit_high b h = rw (leb_over b (zero_digit + 9) h) (right (leb zero_digit b))
  where
    right : (a : Bool) → (a && false) ≡ false
    right true = refl
    right false = refl

digit_out : (b : ℕ) → IsNotAsciiDigit b → (leb zero_digit b && leb b (zero_digit + 9)) ≡ false
digit_out b (inl l) = digit_low b l
digit_out b (inr g) = digit_high b g

digit_in : (b : ℕ) → 48 ≤ b → b ≤ 57 → (leb zero_digit b && leb b (zero_digit + 9)) ≡ true
digit_in b h g = and_of (leb_of zero_digit b h) (leb_of b (zero_digit + 9) g)

-- digits after digits: too large already, a byte that is no digit, one digit more, none left
pub say_not : (n b : ℕ) (bs : List ℕ) → (leb zero_digit b && leb b (zero_digit + 9)) ≡ false → digits_say n (b ∷ bs) ≡ none
unfolding digits_say
say_not n b bs e = rw (e, digits_say) refl

pub say_digit : (n b : ℕ) (bs : List ℕ) → (leb zero_digit b && leb b (zero_digit + 9)) ≡ true → digits_say n (b ∷ bs) ≡ digits_say (n * 10 + (b - zero_digit)) bs
unfolding digits_say
say_digit n b bs e = rw (e, digits_say) refl

pub say_large : (n : ℕ) (bs : List ℕ) → 255 < n → of_byte (digits_say n bs) ≡ none
unfolding digits_say of_byte
say_large n [] h = rw (leb_over n 255 h) refl
say_large n (b ∷ bs) h = elim (true_or_false (leb zero_digit b && leb b (zero_digit + 9))) [
  | inl t ↦ rw (say_digit n b bs t) (say_large (n * 10 + (b - zero_digit)) bs (omega arith))
  | inr f ↦ rw (say_not n b bs f) refl
]

module _ (text : List ℕ) (n i : ℕ) (all : Maybe ℕ) (here : of_byte (digits_say n (drop i text)) ≡ all) where
  pub digits_not : i < length text → IsNotAsciiDigit (get_or text i 0) → number_said None ≡ all
  unfolding number_said of_byte
  digits_not h o = (rw (drop-cons text i 0 h, say_not n (get_or text i 0) (drop (suc i) text) (digit_out (get_or text i 0) o)) at here)

  -- a digit, as the code tests it, and its value
  module _ (d : ℕ) (value : d ≡ get_or text i 0 - 48) (h : i < length text) (digit : IsAsciiDigit (get_or text i 0)) where
    pub digits_more : of_byte (digits_say (n * 10 + d) (drop (i + 1) text)) ≡ all
    digits_more = rw (value, add-one i) (rw (drop-cons text i 0 h, say_digit n (get_or text i 0) (drop (suc i) text) (digit_in (get_or text i 0) digit.0 digit.1)) at here)

    pub digits_large : 255 < n * 10 + d → number_said None ≡ all
    unfolding number_said
    digits_large x = sym (say_large (n * 10 + d) (drop (i + 1) text) x) ∙ digits_more

  pub digits_all : length text ≤ i → n ≤ 255 → number_said (Some n) ≡ all
  unfolding number_said of_byte digits_say
  digits_all h l = (rw (drop_of_length-le text {i = i} h, leb_of n 255 l) at here)

-- one number: nothing, a single byte, a leading zero, anything else
pub number_none : (text : List ℕ) → length text ≡ 0 → number_said None ≡ number text
unfolding number number_said
number_none [] h = refl
number_none (b ∷ bs) h = absurd (omega arith)

pub number_single : (text : List ℕ) (r : Option ℕ) → ¬ (length text ≡ 0) → length text ≤ 1 → number_said r ≡ of_byte (digits_say 0 text) → number_said r ≡ number text
unfolding number
number_single [] r h g e = absurd (h refl)
number_single (b ∷ []) r h g e = e
number_single (b ∷ (d ∷ ds)) r h g e = absurd (omega arith)

pub number_zero : (text : List ℕ) → 1 < length text → get_or text 0 0 ≡ 48 → number_said None ≡ number text
unfolding number number_said
number_zero [] h z = absurd (omega arith)
number_zero (b ∷ []) h z = absurd (omega arith)
number_zero (b ∷ (d ∷ ds)) h z = rw (eqb_of b zero_digit z, number) refl

pub number_other : (text : List ℕ) (r : Option ℕ) → 1 < length text → ¬ (get_or text 0 0 ≡ 48) → number_said r ≡ of_byte (digits_say 0 text) → number_said r ≡ number text
unfolding number
number_other [] r h z e = absurd (omega arith)
number_other (b ∷ []) r h z e = absurd (omega arith)
number_other (b ∷ (d ∷ ds)) r h z e = rw (eqb_apart b zero_digit z, number) e

-- a text with a comma is no number
say_comma : (n : ℕ) (bs : List ℕ) → before comma bs < length bs → digits_say n bs ≡ none
unfolding before
say_comma n [] h = absurd (omega arith)
say_comma n (b ∷ bs) h = elim (true_or_false (eqb b comma)) [
  | inl t ↦ let e : b ≡ 44 = eqb-true b comma t in say_not n b bs (digit_low b (omega arith))
  | inr f ↦
      let s : before comma (b ∷ bs) ≡ suc (before comma bs) = rw (f, before) refl in
      elim (true_or_false (leb zero_digit b && leb b (zero_digit + 9))) [
        | inl t ↦ rw (say_digit n b bs t) (say_comma (n * 10 + (b - zero_digit)) bs (omega arith))
        | inr g ↦ say_not n b bs g
      ]
]

number_comma : (text : List ℕ) → before comma text < length text → number text ≡ none
unfolding number of_byte
number_comma [] h = refl
number_comma (b ∷ []) h = rw (say_comma 0 (b ∷ []) h) refl
number_comma (b ∷ (d ∷ ds)) h = elim (true_or_false (eqb b zero_digit)) [
  | inl t ↦ rw (t, number) refl
  | inr f ↦ rw (f, number) (rw (say_comma 0 (b ∷ (d ∷ ds)) h) refl)
]

-- pieces of a text that are two or more
module _ (request : ℕ → Request) where
  one_piece : (x : List ℕ) (ys : List (List ℕ)) → ¬ (ys ≡ []) → one_number request (x ∷ ys) ≡ none
  unfolding one_number
  one_piece x [] n = absurd (n refl)
  one_piece x (y ∷ ys) n = refl

  pub one_none : (text : List ℕ) → number text ≡ none → one_number request (split comma text) ≡ none
  unfolding one_number
  one_none text e = elim (dec_le (length text) (before comma text)) [
    | yes l ↦ rw (split_last comma text l, e, one_number) refl
    | no g ↦ rw (split_more comma text (omega arith)) (one_piece (take (before comma text) text) (split comma (drop (suc (before comma text)) text)) (split_some comma (drop (suc (before comma text)) text)))
  ]

  pub one_some : (text : List ℕ) (a : ℕ) → number text ≡ some a → one_number request (split comma text) ≡ some (request a)
  unfolding one_number
  one_some text a e = elim (dec_le (length text) (before comma text)) [
    | yes l ↦ rw (split_last comma text l, e, one_number) refl
    | no g ↦ none_not_some (sym (number_comma text (omega arith)) ∙ e)
  ]

module _ (request : ℕ → ℕ → Request) where
  two_pieces : (x y : List ℕ) (zs : List (List ℕ)) → ¬ (zs ≡ []) → two_numbers request (x ∷ (y ∷ zs)) ≡ none
  unfolding two_numbers
  two_pieces x y [] n = absurd (n refl)
  two_pieces x y (z ∷ zs) n = refl

  pub two_first : (x : List ℕ) (ys : List (List ℕ)) → number x ≡ none → two_numbers request (x ∷ ys) ≡ none
  unfolding two_numbers
  two_first x [] e = refl
  two_first x (y ∷ []) e = rw (e, two_numbers) refl
  two_first x (y ∷ (z ∷ zs)) e = refl

  pub two_second : (x text : List ℕ) (a : ℕ) → number x ≡ some a → number text ≡ none → two_numbers request (x ∷ split comma text) ≡ none
  unfolding two_numbers
  two_second x text a e n = elim (dec_le (length text) (before comma text)) [
    | yes l ↦ rw (split_last comma text l, e, n, two_numbers) refl
    | no g ↦ rw (split_more comma text (omega arith)) (two_pieces x (take (before comma text) text) (split comma (drop (suc (before comma text)) text)) (split_some comma (drop (suc (before comma text)) text)))
  ]

  two_both : (x text : List ℕ) (a b : ℕ) → number x ≡ some a → number text ≡ some b → two_numbers request (x ∷ split comma text) ≡ some (request a b)
  unfolding two_numbers
  two_both x text a b e f = elim (dec_le (length text) (before comma text)) [
    | yes l ↦ rw (split_last comma text l, e, f, two_numbers) refl
    | no g ↦ none_not_some (sym (number_comma text (omega arith)) ∙ f)
  ]

-- the pieces of a text with a comma at m, the first
comma_at : (text : List ℕ) (m : ℕ) → m ≡ piece_end comma text 0 → m < length text → split comma text ≡ take m text ∷ split comma (drop (m + 1) text)
unfolding piece_end
comma_at text m e h =
    let b : m ≡ before comma text = omega arith in
    rw (b, add-one (before comma text)) (split_more comma text (omega arith))

-- what follows a position, as a part that is lent
pub part_after : (text : List ℕ) (at : ℕ) → take (length text - at) (drop at text) ≡ drop at text
part_after text at = take_all (length text - at) (drop at text) (omega (arith, length-drop at text))

module _ (text : List ℕ) (m : ℕ) (e : m ≡ piece_end comma text 0) where
  pub pair_single : length text ≤ m → ReadsPair text None
  unfolding ReadsPair asked_by two_numbers piece_end
  pair_single h request = let b = before_within comma text in rw (split_last comma text (omega arith)) refl

  module _ (h : m < length text) where
    pub pair_first : number_said None ≡ number (take m text) → ReadsPair text None
    unfolding ReadsPair asked_by number_said
    pair_first first request = sym (rw (comma_at text m e h) (two_first request (take m text) (split comma (drop (m + 1) text)) (sym first)))

    module _ (a : ℕ) (first : number_said (Some a) ≡ number (take m text)) where
      pub pair_second : number_said None ≡ number (take (length text - (m + 1)) (drop (m + 1) text)) → ReadsPair text None
      unfolding ReadsPair asked_by number_said
      pair_second second request = sym (rw (comma_at text m e h) (two_second request (take m text) (drop (m + 1) text) a (sym first) (sym (rw (part_after text (m + 1)) at second))))

      pub pair_both : (b : ℕ) → number_said (Some b) ≡ number (take (length text - (m + 1)) (drop (m + 1) text)) → ReadsPair text (Some (a, b))
      unfolding ReadsPair asked_by number_said
      pair_both b second request = sym (rw (comma_at text m e h) (two_both request (take m text) (drop (m + 1) text) a b (sym first) (sym (rw (part_after text (m + 1)) at second))))
