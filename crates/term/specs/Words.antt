-- Words. 01: "A word is tag × 2^24 + n × 2^16 + k."
use Rattle.std.specs.Prelude.{ℕ, ◌+◌, ◌*◌, ◌/◌, ◌%◌}

abbrev pub word : ℕ → ℕ → ℕ → ℕ
word tag n k = tag * 16777216 + n * 65536 + k

-- the parts of a word
abbrev pub tag_of : ℕ → ℕ
tag_of w = w / 16777216

abbrev pub n_of : ℕ → ℕ
n_of w = w / 65536 % 256

abbrev pub k_of : ℕ → ℕ
k_of w = w % 65536

-- the tags
abbrev pub tag_variable : ℕ
tag_variable = 1

abbrev pub tag_atom : ℕ
tag_atom = 2

abbrev pub tag_integer : ℕ
tag_integer = 3

abbrev pub tag_pid : ℕ
tag_pid = 4

abbrev pub tag_nil : ℕ
tag_nil = 5

abbrev pub tag_cons : ℕ
tag_cons = 6

abbrev pub tag_tuple : ℕ
tag_tuple = 7

abbrev pub tag_call : ℕ
tag_call = 8

abbrev pub tag_apply : ℕ
tag_apply = 9

abbrev pub tag_case : ℕ
tag_case = 10

abbrev pub tag_let : ℕ
tag_let = 11

abbrev pub tag_receive : ℕ
tag_receive = 12

abbrev pub tag_spawn : ℕ
tag_spawn = 13

abbrev pub tag_send : ℕ
tag_send = 14

abbrev pub tag_self : ℕ
tag_self = 15

abbrev pub tag_check : ℕ
tag_check = 16

abbrev pub tag_clause : ℕ
tag_clause = 17

abbrev pub tag_function : ℕ
tag_function = 18

-- the word before an integer's two's complement: n and k are 0
abbrev pub integer_word : ℕ
integer_word = word tag_integer 0 0
