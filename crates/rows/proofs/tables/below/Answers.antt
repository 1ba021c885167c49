-- `rows::tables::below` meets its contract.
use mathlib.Core.Path.{ap}
use borrow.Author.Rules.{rules}
use Rattle.rows.proofs.TableLaws.{past_rows, kind_at}
use Rattle.rows.proofs.tables.below.Goals as goal

pub returns-then-tag-gt-FUNCTION : goal.returns-then-tag-gt-FUNCTION
returns-then-tag-gt-FUNCTION c = ap (λ row. row.children) (past_rows c.args.tag (search rules))

pub returns : goal.returns
returns c = kind_at c.args.tag
