-- `rows::tables::least` meets its contract.
use mathlib.Core.Path.{refl, sym, ap}
use borrow.Author.Rules.{rules}
use mathlib.Core.List.{map}
use Rattle.term.specs.Table.{table}
use Rattle.rows.proofs.TableLaws.{at_row, past_rows, all_small, small_at}
use Rattle.rows.proofs.tables.least.Goals as goal

pub returns-then-tag-gt-FUNCTION : goal.returns-then-tag-gt-FUNCTION
returns-then-tag-gt-FUNCTION c = ap (λ row. row.least) (past_rows c.args.tag (search rules))

pub overflow_cast-result-2 : goal.overflow_cast-result-2
unfolding table all_small
overflow_cast-result-2 c = small_at (map (λ row. row.least) table) c.args.tag refl

pub returns : goal.returns
unfolding table
returns c = sym (at_row (λ row. row.least) c.args.tag)
