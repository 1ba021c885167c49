-- `enter` meets its contract.
use native.Mathlib.Omega.{arith}
use Rattle.writing.proofs.SpanLaws.{no_entry}
use Rattle.entering.proofs.EnterLaws.{growing_place, growing_index, count_small, grow_room, enter_leads}
use Rattle.entering.proofs.entering.enter.Goals as goal

pub entry_count-count-requires : goal.entry_count-count-requires
entry_count-count-requires c = let S = c in (S.requires.0, growing_place _ _ _ S.requires.1)

pub locate-present-requires : goal.locate-present-requires
locate-present-requires c = let S = c in (S.requires.0, growing_place _ _ _ S.requires.1, no_entry _)

pub overflow_add-count : goal.overflow_add-count
overflow_add-count c = omega (arith, count_small _ c.requires.0 _ _ c.entry_count-count.ensures)

pub locate-made-requires : goal.locate-made-requires
locate-made-requires c = let S = c in (S.requires.0, growing_place _ _ _ S.requires.1, growing_index _ _ _ _ S.requires.1 c.entry_count-count.ensures)

pub grow-requires : goal.grow-requires
grow-requires c = let S = c in grow_room _ _ _ _ _ _ S.requires.1 c.locate-present.ensures c.locate-made.ensures S.requires.0

pub returns : goal.returns
returns c = let S = c in enter_leads _ _ _ _ _ _ S.requires.1 c.locate-present.ensures c.locate-made.ensures c.entry_count-count.ensures _ _ _ c.grow.ensures
