-- `rows::tables::children` meets its contract.
use Rattle.rows.proofs.TableLaws.{count_body, count_case, count_other}
use Rattle.rows.proofs.tables.children.Goals as goal

pub returns-in-Body : goal.returns-in-Body
returns-in-Body c = count_body _ _ c.tag.ensures _ c.n-count.ensures c.in-Body.ensures

pub returns-in-OfCase : goal.returns-in-OfCase
returns-in-OfCase c = count_case _ _ c.tag.ensures _ c.n-count.ensures c.in-OfCase.ensures

pub returns-in_default : goal.returns-in_default
returns-in_default c = count_other _ _ c.tag.ensures _ c.n-count.ensures _ c.below.ensures c.in_default.not-Body c.in_default.not-OfCase
