-- `undo` meets its contract.
use mathlib.Core.Path.{refl}
use Rattle.reading.proofs.KindReads.{other_kind}
use native.Mathlib.Omega.{arith}
use Rattle.writing.proofs.SpanLaws.{no_entry, two_slots}
use Rattle.writing.proofs.SlotCode.{zero_filled}
use Rattle.writing.proofs.UndoLaws.{undoing_place, newest_index, some_entry, newest_entry, undo_leads, release_leads, child_place, unbear_leads}
use Rattle.writing.proofs.undoing.undo.Goals as goal

pub entry_count-count-requires : goal.entry_count-count-requires
entry_count-count-requires c = let S = c in (S.requires.0, undoing_place _ _ S.requires.1)

pub locate-present-requires : goal.locate-present-requires
locate-present-requires c = let S = c in (S.requires.0, undoing_place _ _ S.requires.1, no_entry _)

pub locate-newest-requires : goal.locate-newest-requires
locate-newest-requires c = let S = c in (S.requires.0, undoing_place _ _ S.requires.1, newest_index _ _ _ c.entry_count-count.ensures)

pub overflow_sub-count : goal.overflow_sub-count
overflow_sub-count c = let S = c in some_entry _ _ _ S.requires.1 c.entry_count-count.ensures S.requires.0

pub kind-requires : goal.kind-requires
kind-requires c = let S = c in (S.requires.0, newest_entry _ _ _ S.requires.1 c.entry_count-count.ensures)

pub release-requires : goal.release-requires
release-requires c = two_slots _ c.requires.0 _ _ _ _ _ _ c.locate-newest.ensures c.locate-present.ensures

pub returns-in-Rec : goal.returns-in-Rec
returns-in-Rec c = release_leads _ _ _ c.requires.1 c.entry_count-count.ensures _ _ c.locate-present.ensures c.locate-newest.ensures _ c.in-Rec.ensures _ refl c.release.ensures

pub overflow_sub-count-in-Spawn : goal.overflow_sub-count-in-Spawn
overflow_sub-count-in-Spawn c = let S = c in some_entry _ _ _ S.requires.1 c.entry_count-count.ensures S.requires.0

pub number-child-requires : goal.number-child-requires
number-child-requires c = let S = c in (S.requires.0, newest_entry _ _ _ S.requires.1 c.entry_count-count.ensures)

pub locate-gone-requires : goal.locate-gone-requires
locate-gone-requires c = (c.requires.0, child_place _ _ _ c.requires.1 c.entry_count-count.ensures _ _ c.locate-present.ensures c.locate-newest.ensures _ c.in-Spawn.ensures _ refl c.number-child.ensures, no_entry _)

pub shrink-requires : goal.shrink-requires
shrink-requires c = two_slots _ c.requires.0 _ _ _ _ _ _ c.locate-newest.ensures c.locate-present.ensures

pub offset_bounds-store-from : goal.offset_bounds-store-from
offset_bounds-store-from c = let at = c.locate-gone.ensures in omega (arith, at.adds, at.low)

pub returns-in-Spawn : goal.returns-in-Spawn
returns-in-Spawn c = unbear_leads _ _ _ c.requires.1 c.entry_count-count.ensures _ _ c.locate-present.ensures c.locate-newest.ensures _ c.in-Spawn.ensures _ refl c.number-child.ensures _ c.locate-gone.ensures _ _ c.shrink.auto.store c.shrink.ensures (zero_filled _ _ (c.fill.ensures.after (λ y e. e)))

pub shrink-requires-in_default : goal.shrink-requires-in_default
shrink-requires-in_default c = two_slots _ c.requires.0 _ _ _ _ _ _ c.locate-newest.ensures c.locate-present.ensures

pub returns-in_default : goal.returns-in_default
returns-in_default c = undo_leads _ _ _ c.requires.1 c.entry_count-count.ensures _ _ c.locate-present.ensures c.locate-newest.ensures _ c.kind.ensures _ (other_kind c.in_default.not-Rec) (other_kind c.in_default.not-Spawn) c.shrink-in_default.ensures
