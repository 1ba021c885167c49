-- `last_line` meets its contract.
use mathlib.Core.Path.{sym}
use Rattle.lists.proofs.Tests.{eqb-true, eqb-false}
use Rattle.lines.proofs.GatherLaws.{ends_empty, ends_line}
use borrow.Author.Rules.{rules}
use Rattle.lines.proofs.input.last_line.Goals as goal

pub returns-then-is_empty : goal.returns-then-is_empty
returns-then-is_empty c = ends_empty _ _ _ (eqb-true _ _ (sym c.if-is_empty.ensures)) (search rules)

pub returns : goal.returns
returns c = ends_line _ _ _ _ _ _ (eqb-false _ _ (sym c.if-is_empty.ensures)) c.reply.ensures
