-- `take_block` meets its contract.
use borrow.Author.Rules.{rules}
use native.Mathlib.Omega.{arith}
use Rattle.lines.specs.Input.{takes, refuses}
use Rattle.lines.proofs.input.take_block.Goals as goal

pub returns-then-line-le-LONGEST_GOOD : goal.returns-then-line-le-LONGEST_GOOD
returns-then-line-le-LONGEST_GOOD c = refuses (λ room. absurd (omega (arith, room.0, room.1)))

pub returns : goal.returns
returns c = takes (search rules, search rules) c.take_lines.ensures
