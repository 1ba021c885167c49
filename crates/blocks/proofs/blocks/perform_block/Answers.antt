-- The bytes so far are gathered, and at the end all of them.
use Rattle.std.proofs.Common.{rules, arith}
use Rattle.blocks.proofs.Gathering.{gathers_none, gathers_more, gathers_all}
use Rattle.blocks.proofs.blocks.perform_block.Goals as goal

pub loop-b-init : goal.loop-b-init
loop-b-init g c = (search rules, gathers_none _ _)

pub loop-b-preserved : goal.loop-b-preserved
loop-b-preserved g c = (omega (arith, c.in_ok-n.ensures.ok), gathers_more _ _ (search rules) c.loop-b.invariant.1 c.in_ok-n.ensures.ok_gathers)

pub returns-clause-ok_gathers : goal.returns-clause-ok_gathers
returns-clause-ok_gathers g c = gathers_all _ _ (search rules) c.loop-b.invariant.1
