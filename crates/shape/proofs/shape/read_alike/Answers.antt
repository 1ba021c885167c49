-- `shape::shape::read_alike` meets its contract.
use Rattle.shape.proofs.ReadingLaws.{comes_start, comes_common, comes_integer, comes_alike, alike_ends, alike_past, alike_misfit, alike_cut, alike_turns}
use Rattle.shape.proofs.shape.read_alike.Goals as goal

pub loop-left-init : goal.loop-left-init
loop-left-init c = search comes_start

pub returns-then-row-a : goal.returns-then-row-a
returns-then-row-a c = search alike_past

pub loop-left-preserved-then-left-row : goal.loop-left-preserved-then-left-row
loop-left-preserved-then-left-row c = search comes_common

pub returns-then-not-may_stand : goal.returns-then-not-may_stand
returns-then-not-may_stand c = search alike_misfit

pub returns-then-row-a-lt2 : goal.returns-then-row-a-lt2
returns-then-row-a-lt2 c = search alike_cut

pub loop-left-preserved-then-tag-eq-INTEGER : goal.loop-left-preserved-then-tag-eq-INTEGER
loop-left-preserved-then-tag-eq-INTEGER c = search comes_integer

pub returns-then-not-alike : goal.returns-then-not-alike
returns-then-not-alike c = search alike_turns

pub loop-left-preserved : goal.loop-left-preserved
loop-left-preserved c = search comes_alike

pub returns : goal.returns
returns c = search alike_ends
