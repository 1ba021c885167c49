-- `links::arrivals::left_at` meets its contract.
use mathlib.Core.Path.{refl}
use Rattle.reading.proofs.KindReads.{other_kind}
use Rattle.links.proofs.ArrivalReads.{left_rec, left_other, names_some}
use Rattle.links.proofs.arrivals.left_at.Goals as goal

pub overflow_sub-result : goal.overflow_sub-result
overflow_sub-result c = names_some _ _ _ c.args.left _ _ c.requires.0 c.requires.1 c.in-Rec.ensures refl c.queue_before.ensures

pub returns-in-Rec : goal.returns-in-Rec
returns-in-Rec c = left_rec _ _ _ _ _ _ c.in-Rec.ensures refl c.queue_before.ensures

pub returns-in_default : goal.returns-in_default
returns-in_default c = left_other _ _ _ _ _ c.kind.ensures (other_kind c.in_default.not-Rec)
