-- `shape::shape::may_stand` meets its contract.
use mathlib.Core.Path.{sym, ◌∙◌}
use Rattle.lists.proofs.Tests.{true_not_false}
use Rattle.shape.proofs.SpotLaws.{fits_not, fits_n, fits_k}
use Rattle.shape.proofs.shape.may_stand.Goals as goal
use Rattle.shape.proofs.shape.may_stand.Goals.{then-stands, else-stands}

pub returns-then-n_fits : goal.returns-then-n_fits
returns-then-n_fits c =
    elim c.if-stands.branch [
      | then-stands w ↦ fits_k _ _ _ _ c.tag-t.ensures _ c.stands.ensures w.if-stands.true _ w.n.ensures _ w.n_fits.ensures (sym w.value-is ∙ c.if-n_fits.true) _ c.k.ensures _ c.k_limit.ensures
      | else-stands w ↦ true_not_false c.if-n_fits.true (w.value-is ∙ w.if-stands.false)
    ]

pub returns-else-n_fits : goal.returns-else-n_fits
returns-else-n_fits c =
    elim c.if-stands.branch [
      | then-stands w ↦ c.if-n_fits.false ∙ fits_n _ _ _ _ c.tag-t.ensures _ c.stands.ensures w.if-stands.true _ w.n.ensures _ w.n_fits.ensures (sym w.value-is ∙ c.if-n_fits.false)
      | else-stands w ↦ w.value-is ∙ w.if-stands.false ∙ fits_not _ _ _ _ c.tag-t.ensures _ c.stands.ensures w.if-stands.false
    ]
