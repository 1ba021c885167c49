-- What is printed for a command line.
use Rattle.std.specs.Prelude.{ℕ, ◌≤◌, Bool, true, false, cond, ◌&&◌, List, ◌++◌, eqb, length}
use Rattle.std.proofs.Math.Option.{Option, none, some}
use Rattle.rules.specs.Answers.{done}
use Rattle.rules.specs.Line.{Request, single, rollback_to, parse_line}
use Rattle.rules.specs.Replies.{answer_line, undone_line}
use Rattle.text.specs.Written.{Wrote}
use Rattle.calls.specs.Numbers.{Answer, number_of, value_of, TextCall}

unfoldable pub rolls_back : Option Request → Bool
rolls_back none = false
rolls_back (some (single c)) = false
rolls_back (some (rollback_to p t)) = true

-- "`undone` follows an accepted rollback only"
unfoldable pub undone_by : Option Request → Answer → Option ℕ
undone_by request a = cond (rolls_back request && eqb (number_of a) done) (some (value_of a)) none

unfoldable pub reply_text : Option Request → Answer → List ℕ
reply_text request a = answer_line (number_of a) ++ undone_line (undone_by request a)

-- room for every reply: the longest, an accepted rollback's with a count of ten digits, has 27 bytes
abbrev pub reply_room : ℕ
reply_room = 32

-- the line is performed, and its answer stands in the output from a position on, as far as it reaches
pub record Replied (line entry exit : List ℕ) (at : ℕ) (old new : List ℕ) (end : ℕ) : Type 0 where
  pub answer : Answer
  pub call : TextCall line entry exit answer
  pub text : Wrote (reply_text (parse_line line) answer) at old new end
  pub fits : length (reply_text (parse_line line) answer) ≤ reply_room
