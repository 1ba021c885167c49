-- Texts as bytes: keys, decimal and hexadecimal numbers, words split by single spaces.
use Rattle.std.specs.Prelude.{ℕ, zero, suc, ◌+◌, ◌/◌, ◌%◌, true, false, cond, List, [], ◌∷◌, ◌++◌, ltb}
use Prim.Native.Char.{code}
use Prim.Native.String.{String}

-- the bytes of a text of plain letters and signs
unfoldable pub bytes : String → List ℕ
bytes String.[] = []
bytes (String.◌∷◌ c s) = code c ∷ bytes s

abbrev pub line_feed : ℕ
line_feed = 10

abbrev pub space : ℕ
space = 32

abbrev pub comma : ℕ
comma = 44

abbrev pub point : ℕ
point = 46

-- '0'; digit d of a decimal number; digit d of an upper-case hexadecimal number
abbrev pub zero_digit : ℕ
zero_digit = 48

unfoldable pub digit : ℕ → ℕ
digit d = zero_digit + d

unfoldable pub hex_digit : ℕ → ℕ
hex_digit d = cond (ltb d 10) (digit d) (55 + d)

-- a number in decimal, with no leading zeros; it has at most as many digits as rounds
unfoldable pub decimal_in : (rounds n : ℕ) → List ℕ
decimal_in zero n = []
decimal_in (suc rounds) n = elim (ltb n 10) [ true ↦ digit n ∷ [] | false ↦ decimal_in rounds (n / 10) ++ (digit (n % 10) ∷ []) ]

unfoldable pub decimal : ℕ → List ℕ
decimal n = decimal_in (suc n) n

-- the last so many hexadecimal digits of a number
unfoldable pub hex_in : (digits n : ℕ) → List ℕ
hex_in zero n = []
hex_in (suc digits) n = hex_in digits (n / 16) ++ (hex_digit (n % 16) ∷ [])

unfoldable pub hex : ℕ → List ℕ
hex w = hex_in 8 w

-- split by single spaces
unfoldable pub spaced : List (List ℕ) → List ℕ
spaced [] = []
spaced (x ∷ []) = x
spaced (x ∷ (y ∷ ys)) = x ++ (space ∷ spaced (y ∷ ys))

-- a line: a key, what follows it, LF
unfoldable pub line : String → List ℕ → List ℕ
line key rest = bytes key ++ rest ++ (line_feed ∷ [])
