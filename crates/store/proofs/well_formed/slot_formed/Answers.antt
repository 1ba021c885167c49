-- `slot_formed` meets its contract.
use mathlib.Core.Bool.{not}
use mathlib.Core.Path.{ap, ◌∙◌}
use Rattle.store.proofs.WellTestSlot.{slot_no_head, slot_no_control_zeros, slot_left}
use Rattle.store.proofs.well_formed.slot_formed.Goals as goal

pub returns-then-not-zeros : goal.returns-then-not-zeros
returns-then-not-zeros c = slot_no_head c.args.sizes.places c.args.sizes.entries c.args.sizes.words c.args.slot.now _ (c.requires ∙ c.args.sizes.slot_is) c.zeros.ensures (ap not c.if-not-zeros.true)

pub returns-then-not-zeros-2 : goal.returns-then-not-zeros-2
returns-then-not-zeros-2 c = slot_no_control_zeros c.args.sizes.places c.args.sizes.entries c.args.sizes.words c.args.slot.now _ _ c.control_length-control.ensures c.if-sizes-control.false c.zeros-2.ensures (ap not c.if-not-zeros-2.true)

pub returns : goal.returns
returns c =
    let a = c.args in
    slot_left a.sizes.places a.sizes.entries a.sizes.words a.slot.now _ _ _ _ _ (c.requires ∙ a.sizes.slot_is) c.if-slot-ne0.false c.zeros.ensures (ap not c.if-not-zeros.false)
    c.control_length-control.ensures c.if-sizes-control.false c.queue_length-queue.ensures c.if-sizes-queue.false c.zeros-2.ensures (ap not c.if-not-zeros-2.false) c.zeros-3.ensures
