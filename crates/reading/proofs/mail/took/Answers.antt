-- `took` meets its contract.
use mathlib.Core.Path.{refl}
use mathlib.Core.List.{[]}
use Rattle.reading.proofs.KindReads.{other_kind}
use Rattle.reading.proofs.MailReads.{took_not, took_in, took_out}
use Rattle.reading.proofs.mail.took.Goals as goal

pub bounds-queue_before-at : goal.bounds-queue_before-at
bounds-queue_before-at c = took_in _ _ _ _ _ _ c.in-Rec.ensures refl c.number-at.ensures c.queue_before.ensures c.requires.0 c.requires.1

pub returns-in-Rec : goal.returns-in-Rec
returns-in-Rec c = took_out _ _ _ _ _ _ c.in-Rec.ensures refl c.number-at.ensures c.queue_before.ensures _

pub returns-in_default : goal.returns-in_default
returns-in_default c = took_not _ _ _ _ 0 [] c.kind.ensures _ (other_kind c.in_default.not-Rec)
