-- `same` meets its contract.
use Rattle.operands.proofs.RowSame.{goes_start, goes_none, goes_past, goes_past_other, goes_differ, goes_cut, goes_cut_other, goes_integers_differ, goes_integers, goes_nodes}
use Rattle.operands.proofs.same.same.Goals as goal

pub loop-left-init : goal.loop-left-init
loop-left-init c = search goes_start

pub returns-then-a-x : goal.returns-then-a-x
returns-then-a-x c = search goes_past

pub returns-then-b-y : goal.returns-then-b-y
returns-then-b-y c = search goes_past_other

pub returns-then-w-b : goal.returns-then-w-b
returns-then-w-b c = search goes_differ

pub returns-then-a-x-lt2 : goal.returns-then-a-x-lt2
returns-then-a-x-lt2 c = search goes_cut

pub returns-then-b-y-lt2 : goal.returns-then-b-y-lt2
returns-then-b-y-lt2 c = search goes_cut_other

pub returns-then-a-x-2 : goal.returns-then-a-x-2
returns-then-a-x-2 c = search goes_integers_differ

pub loop-left-preserved-then-tag-eq-INTEGER : goal.loop-left-preserved-then-tag-eq-INTEGER
loop-left-preserved-then-tag-eq-INTEGER c = search (goes_integers, c.loop-left.invariant)

pub loop-left-preserved : goal.loop-left-preserved
loop-left-preserved c = search goes_nodes

pub returns : goal.returns
returns c = search goes_none
