-- `arrive_slot` meets its contract.
use native.Mathlib.Omega.{arith}
use Rattle.soundness.proofs.MessageTest.{slot_arrives, slot_arrives_not}
use Rattle.soundness.proofs.messages.arrive_slot.Goals as goal

pub overflow_cast-slot : goal.overflow_cast-slot
overflow_cast-slot c = omega (arith, c.type_inv.slot 2)

pub overflow_add-sizes-then-slot-eq-REC : goal.overflow_add-sizes-then-slot-eq-REC
overflow_add-sizes-then-slot-eq-REC c =
    let s = c in
    let inside = s.requires.0.taken_fits c.if-slot-eq-REC.true in
    omega (arith, s.requires.0.names_fit)

pub offset_bounds-slot-sizes : goal.offset_bounds-slot-sizes
offset_bounds-slot-sizes c =
    let s = c in
    let inside = s.requires.0.taken_fits c.if-slot-eq-REC.true in
    omega (arith, s.requires.0.names_fit)

pub bounds-slot-sizes : goal.bounds-slot-sizes
bounds-slot-sizes c =
    let s = c in
    let inside = s.requires.0.taken_fits c.if-slot-eq-REC.true in
    omega (arith, s.requires.0.names_fit)

pub returns-then-slot-eq-REC : goal.returns-then-slot-eq-REC
returns-then-slot-eq-REC c = search slot_arrives

pub returns : goal.returns
returns c = search slot_arrives_not
