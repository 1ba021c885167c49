-- `may_undo` meets its contract.
use mathlib.Core.Path.{refl}
use Rattle.reading.proofs.KindReads.{other_kind}
use Rattle.backward.proofs.HeldLaws.{newest_entry, newest_place, newest_send, undo_send, undo_rec, child_lives, undo_spawn, undo_alone}
use Rattle.backward.proofs.held.may_undo.Goals as goal

pub kind-requires : goal.kind-requires
kind-requires c = let pre = c.requires in (pre.0, newest_entry _ _ _ pre.1)

pub flying-requires : goal.flying-requires
flying-requires c = let pre = c.requires in (pre.0, newest_send _ _ _ pre.1 _ c.in-Send.ensures refl)

pub returns-in-Send : goal.returns-in-Send
returns-in-Send c = undo_send _ _ _ c.requires.1 _ c.in-Send.ensures refl _ c.flying.ensures

pub queue-requires : goal.queue-requires
queue-requires c = let pre = c.requires in (pre.0, newest_place _ _ _ pre.1)

pub left-requires : goal.left-requires
left-requires c = let pre = c.requires in (pre.0, newest_place _ _ _ pre.1)

pub returns-in-Rec : goal.returns-in-Rec
returns-in-Rec c = undo_rec _ _ _ c.requires.1 _ c.in-Rec.ensures refl _ c.queue.ensures _ c.left.ensures

pub number-requires : goal.number-requires
number-requires c = let pre = c.requires in (pre.0, newest_entry _ _ _ pre.1)

pub untouched-requires : goal.untouched-requires
untouched-requires c = let pre = c.requires in (pre.0, child_lives _ _ _ pre.1 _ c.in-Spawn.ensures refl _ c.number.ensures)

pub returns-in-Spawn : goal.returns-in-Spawn
returns-in-Spawn c = undo_spawn _ _ _ c.requires.1 _ c.in-Spawn.ensures refl _ c.number.ensures _ c.untouched.ensures

pub returns-in_default : goal.returns-in_default
returns-in_default c = undo_alone _ _ _ c.requires.1 _ c.kind.ensures (other_kind c.in_default.not-Send) (other_kind c.in_default.not-Rec) (other_kind c.in_default.not-Spawn)
