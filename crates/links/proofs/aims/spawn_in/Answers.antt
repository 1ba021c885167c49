-- `links::aims::spawn_in` meets its contract.
use Rattle.reading.proofs.MailReads.{end_entry}
use Rattle.links.proofs.SpawnReads.{unspawned_start, spawn_here, unspawned_on, unspawned_all}
use Rattle.links.proofs.aims.spawn_in.Goals as goal

pub loop-i-init : goal.loop-i-init
loop-i-init c = unspawned_start _ _ _

pub is_numbered-requires : goal.is_numbered-requires
is_numbered-requires c = (c.requires.0, end_entry _ _ _ _ c.entry_count-i-end.ensures c.loop-i-test.true)

pub returns-then-is_numbered : goal.returns-then-is_numbered
returns-then-is_numbered c = spawn_here _ _ _ _ _ c.is_numbered.ensures (end_entry _ _ _ _ c.entry_count-i-end.ensures c.loop-i-test.true) c.if-is_numbered.true

pub loop-i-preserved : goal.loop-i-preserved
loop-i-preserved c = unspawned_on _ _ _ _ _ c.is_numbered.ensures c.loop-i.invariant c.if-is_numbered.false

pub returns : goal.returns
returns c = unspawned_all _ _ _ _ _ c.entry_count-i-end.ensures c.loop-i-test.false c.loop-i.invariant
