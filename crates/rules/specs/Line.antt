-- Text commands. 01: "command lines (LF, last one optional; numbers 0..255, no leading zeros)".
use Rattle.std.specs.Prelude.{ℕ, ◌+◌, ◌*◌, ◌-◌, true, false, cond, ◌&&◌, List, [], ◌∷◌, eqb, leb}
use Prim.Native.String.{String}
use Rattle.std.proofs.Math.Option.{Option, none, some}
use Rattle.rules.specs.Commands.{Command, step, spawn_into, deliver, back, undeliver}
use Rattle.rules.specs.Text.{bytes, line_feed, comma, zero_digit}

-- a single step, or a rollback
pub data Request : Type 0 where
  single : Command → Request
  rollback_to : (p t : ℕ) → Request

-- the pieces of a text between its separators; a text without one is one piece
unfoldable pub onto_first : ℕ → List (List ℕ) → List (List ℕ)
onto_first b [] = (b ∷ []) ∷ []
onto_first b (piece ∷ pieces) = (b ∷ piece) ∷ pieces

unfoldable pub split : (separator : ℕ) → List ℕ → List (List ℕ)
split separator [] = [] ∷ []
split separator (b ∷ bs) = elim (eqb b separator) [ true ↦ [] ∷ split separator bs | false ↦ onto_first b (split separator bs) ]

-- the lines of an input: a last piece that is empty is no line
unfoldable pub without_empty_last : List (List ℕ) → List (List ℕ)
without_empty_last [] = []
without_empty_last (x ∷ []) = elim x [ [] ↦ [] | b ∷ bs ↦ (b ∷ bs) ∷ [] ]
without_empty_last (x ∷ (y ∷ ys)) = x ∷ without_empty_last (y ∷ ys)

unfoldable pub lines_of : List ℕ → List (List ℕ)
lines_of input = without_empty_last (split line_feed input)

-- the number that decimal digits say, after what was read
unfoldable pub digits_say : ℕ → List ℕ → Option ℕ
digits_say n [] = some n
digits_say n (b ∷ bs) = elim (leb zero_digit b && leb b (zero_digit + 9)) [ true ↦ digits_say (n * 10 + (b - zero_digit)) bs | false ↦ none ]

-- "numbers 0..255"
unfoldable pub of_byte : Option ℕ → Option ℕ
of_byte none = none
of_byte (some n) = cond (leb n 255) (some n) none

-- "no leading zeros": a 0 stands alone
unfoldable pub number : List ℕ → Option ℕ
number [] = none
number (b ∷ []) = of_byte (digits_say 0 (b ∷ []))
number (b ∷ (d ∷ ds)) = elim (eqb b zero_digit) [ true ↦ none | false ↦ of_byte (digits_say 0 (b ∷ (d ∷ ds))) ]

-- what follows a key, where the text begins with it
unfoldable pub after : List ℕ → List ℕ → Option (List ℕ)
after [] text = some text
after (k ∷ key) [] = none
after (k ∷ key) (b ∷ text) = elim (eqb k b) [ true ↦ after key text | false ↦ none ]

-- one number, or two, where nothing else stands
unfoldable pub one_number : (ℕ → Request) → List (List ℕ) → Option Request
one_number request [] = none
one_number request (x ∷ []) = elim (number x) [ none ↦ none | some a ↦ some (request a) ]
one_number request (x ∷ (y ∷ ys)) = none

unfoldable pub two_numbers : (ℕ → ℕ → Request) → List (List ℕ) → Option Request
two_numbers request [] = none
two_numbers request (x ∷ []) = none
two_numbers request (x ∷ (y ∷ [])) = elim (number x) [ none ↦ none | some a ↦ elim (number y) [ none ↦ none | some b ↦ some (request a b) ] ]
two_numbers request (x ∷ (y ∷ (z ∷ zs))) = none

-- the request of a line that begins with the key, else that of `others`
unfoldable pub keyed : String → (List (List ℕ) → Option Request) → List ℕ → Option Request → Option Request
keyed key request text others = elim (after (bytes key) text) [ some rest ↦ request (split comma rest) | none ↦ others ]

-- the request of a line; none for a malformed one, which is answered 17
unfoldable pub parse_line : List ℕ → Option Request
parse_line text =
    keyed "step=" (one_number (λ p. single (step p))) text
    (keyed "spawn=" (two_numbers (λ p f. single (spawn_into p f))) text
    (keyed "deliver=" (two_numbers (λ s k. single (deliver s k))) text
    (keyed "back=" (one_number (λ p. single (back p))) text
    (keyed "undeliver=" (one_number (λ p. single (undeliver p))) text
    (keyed "rollback=" (two_numbers rollback_to) text
    none)))))
