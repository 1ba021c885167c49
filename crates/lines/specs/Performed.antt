-- What a list of command lines performs, and what is said for them.
use Rattle.std.specs.Prelude.{ℕ, ◌*◌, ◌≤◌, List, [], ◌∷◌, ◌++◌, length}
use Rattle.rules.specs.Line.{parse_line}
use Rattle.text.specs.Written.{Wrote}
use Rattle.calls.specs.Numbers.{Answer, TextCall}
use Rattle.replies.specs.Replied.{reply_text, reply_room}

-- each line is performed on the store that the one before it left
pub data Performed : (entry : List ℕ) (lines : List (List ℕ)) (exit said : List ℕ) → Type 0 where
  no_line : {store : List ℕ} → Performed store [] store []
  one_line : {line entry mid exit said : List ℕ} {lines : List (List ℕ)} (answer : Answer) → TextCall line entry mid answer → Performed mid lines exit said
      → Performed entry (line ∷ lines) exit (reply_text (parse_line line) answer ++ said)

-- and what is said stands in an output from a position on, as far as it reaches; no reply is longer than the room for one
pub record Says (entry : List ℕ) (lines : List (List ℕ)) (at : ℕ) (old exit new : List ℕ) (end : ℕ) : Type 0 where
  pub said : List ℕ
  pub performed : Performed entry lines exit said
  pub text : Wrote said at old new end
  pub fits : length said ≤ reply_room * length lines
