-- `release` meets its contract.
use Rattle.writing.proofs.SlotCode.{zero_filled, release_written}
use Rattle.writing.proofs.undoing.release.Goals as goal

pub returns : goal.returns
returns c = release_written _ _ _ _ _ _ _ c.requires c.copy_slot.auto.store c.copy_slot.ensures (zero_filled _ _ (c.fill.ensures.after (λ y e. e)))
