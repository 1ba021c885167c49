-- `rows::terms::skip` meets its contract.
use mathlib.Core.Path.{refl}
use Rattle.rows.proofs.SkipLaws.{skip_none, skip_past, skip_out, skip_integer, skip_node}
use Rattle.rows.proofs.terms.skip.Goals as goal

pub loop-left-init : goal.loop-left-init
loop-left-init c = refl

pub returns-then-row-x : goal.returns-then-row-x
returns-then-row-x c = search skip_past

pub returns-then-row-x-2 : goal.returns-then-row-x-2
returns-then-row-x-2 c = search skip_out

pub loop-left-preserved-then-tag-eq-INTEGER : goal.loop-left-preserved-then-tag-eq-INTEGER
loop-left-preserved-then-tag-eq-INTEGER c = search skip_integer

pub loop-left-preserved : goal.loop-left-preserved
loop-left-preserved c = search skip_node

pub returns : goal.returns
returns c = search skip_none
