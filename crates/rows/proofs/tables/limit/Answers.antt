-- `rows::tables::limit` meets its contract.
use mathlib.Core.Path.{sym, ap}
use borrow.Author.Rules.{rules}
use Rattle.term.specs.Table.{table}
use Rattle.rows.proofs.TableLaws.{at_row, past_rows}
use Rattle.rows.proofs.tables.limit.Goals as goal

pub returns-then-tag-gt-FUNCTION : goal.returns-then-tag-gt-FUNCTION
returns-then-tag-gt-FUNCTION c = ap (λ row. row.limit) (past_rows c.args.tag (search rules))

pub returns : goal.returns
unfolding table
returns c = sym (at_row (λ row. row.limit) c.args.tag)
