-- What an operand stands for: a short value by its words, a cons or tuple by its place in one of two rows, or nothing where it is stuck.
--
use Rattle.std.specs.Prelude.{ℕ, ◌≡◌, Bool, true, false, cond, ◌||◌, List, eqb, ℤ, Option, Some, None}
use Rattle.std.proofs.Math.Option.{Option as Maybe, none, some}
use Rattle.term.specs.Words.{tag_of, n_of, k_of, integer_word, tag_cons, tag_tuple}
use Rattle.term.specs.Tree.{Term, int, node, end}
use Rattle.term.specs.Value.{is_value}
use Rattle.machine.specs.Value.{same_term}
use Rattle.machine.specs.Operator.{on_integers, if_integers, op_less, op_at_most}
use Rattle.machine.specs.Guard.{operate_some, before_some}
use Rattle.row_laws.specs.Rows.{Stands}
use Rattle.operands.specs.declared.operand.Operand.{Operand}
use Rattle.operands.specs.declared.operand.Operand.TheVariants.{Short, Here, There}
use Rattle.operands.specs.Answers.{number}

-- the value of one word, or of an integer's word and its two's complement
unfoldable pub short_term : ℕ → ℕ → Term
short_term w x = cond (eqb w integer_word) (int x) (node (tag_of w) (n_of w) (k_of w) end)

unfoldable pub is_long : Term → Bool
is_long (int x) = false
is_long (node tag n k ts) = eqb tag tag_cons || eqb tag tag_tuple

pub record ShortIs (w x : ℕ) (o : Maybe Term) : Type 0 where
  pub gives : o ≡ some (short_term w x)
  pub plain : ¬ (w ≡ integer_word) → x ≡ 0
  pub short : is_long (short_term w x) ≡ false

pub record LongIs (row : List ℕ) (at : ℕ) (o : Maybe Term) : Type 0 where
  pub term : Term
  pub gives : o ≡ some term
  pub stands : Stands row at term
  pub long : is_long term ≡ true

-- in the row where the operand is made, and in the row of what was matched
unfoldable pub Gives : (here there : List ℕ) → Option Operand → Maybe Term → Type 0
Gives here there (Some (Short w x)) o = ShortIs w x o
Gives here there (Some (Here at)) o = LongIs here at o
Gives here there (Some (There at)) o = LongIs there at o
Gives here there None o = o ≡ none

-- the same whatever the rows
unfoldable pub GivesAnywhere : Option Operand → Maybe Term → Type 0
GivesAnywhere r o = (here there : List ℕ) → Gives here there r o

-- the five operators that compute
unfoldable pub Computes : ℕ → ℤ → ℤ → Option ℤ → Type 0
Computes op x y r = ¬ (op ≡ op_less) → ¬ (op ≡ op_at_most) → number r ≡ on_integers op x y

-- the two operands are the same value
unfoldable pub same_some : Maybe Term → Maybe Term → Bool
same_some none p = false
same_some (some a) none = false
same_some (some a) (some b) = same_term a b

unfoldable pub Equals : (here there : List ℕ) → Option Operand → Option Operand → Bool → Type 0
Equals here there x y r = (o p : Maybe Term) → Gives here there x o → Gives here there y p → r ≡ same_some o p

-- an operator on what two operands give
unfoldable pub operate_both : ℕ → Maybe Term → Maybe Term → Maybe Term
operate_both op o p = operate_some op (before_some o (before_some p (some end)))

unfoldable pub Operates : (here there : List ℕ) → ℕ → Option Operand → Option Operand → Option Operand → Type 0
Operates here there op x y r = (o p : Maybe Term) → Gives here there x o → Gives here there y p → Gives here there r (operate_both op o p)

-- a value that stands in the row, taken as an operand
unfoldable pub StandsHere : List ℕ → ℕ → Option Operand → Type 0
StandsHere row at r = (there : List ℕ) (t : Term) → Stands row at t → is_value t ≡ true → Gives row there r (some t)

unfoldable pub StandsThere : List ℕ → ℕ → Option Operand → Type 0
StandsThere row at r = (here : List ℕ) (t : Term) → Stands row at t → is_value t ≡ true → Gives here row r (some t)

-- a short value against an operand, and a long one that stands in a row
unfoldable pub SameShort : ℕ → ℕ → Operand → Bool → Type 0
SameShort w x y r = (here there : List ℕ) (o p : Maybe Term) → ShortIs w x o → Gives here there (Some y) p → r ≡ same_some o p

unfoldable pub SameLong : (row : List ℕ) (at : ℕ) (here there : List ℕ) → Operand → Bool → Type 0
SameLong row at here there y r = (o p : Maybe Term) → LongIs row at o → Gives here there (Some y) p → r ≡ same_some o p

-- an operator that needs integers
unfoldable pub integers_some : ℕ → Maybe Term → Maybe Term → Maybe Term
integers_some op none p = none
integers_some op (some a) none = none
integers_some op (some a) (some b) = if_integers op a b

unfoldable pub Arithmetic : ℕ → Operand → Operand → Option Operand → Type 0
Arithmetic op x y r = (here there : List ℕ) (o p : Maybe Term) → Gives here there (Some x) o → Gives here there (Some y) p → Gives here there r (integers_some op o p)
