-- `rollback::rollback::newest_check` meets its contract.
use Rattle.std.proofs.Common.{arith}
use Rattle.rollback.proofs.RollbackCalls.{unfound_start, unfound_entry, unfound_here, unfound_on, unfound_nowhere}
use Rattle.rollback.proofs.rollback.newest_check.Goals as goal

pub loop-i-init : goal.loop-i-init
loop-i-init c = search unfound_start

pub is_numbered-requires : goal.is_numbered-requires
is_numbered-requires c = (c.requires.0, unfound_entry _ _ _ c.loop-i.i _ (omega arith) c.loop-i.invariant)

pub returns-then-is_numbered : goal.returns-then-is_numbered
returns-then-is_numbered c = unfound_here _ _ _ c.loop-i.i _ (omega arith) c.loop-i.invariant _ c.is_numbered.ensures c.if-is_numbered.true

pub loop-i-preserved : goal.loop-i-preserved
loop-i-preserved c = unfound_on _ _ _ c.loop-i.i _ (omega arith) c.loop-i.invariant _ c.is_numbered.ensures c.if-is_numbered.false

pub returns : goal.returns
returns c = search unfound_nowhere
