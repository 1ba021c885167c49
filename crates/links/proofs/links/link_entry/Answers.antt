-- `links::links::link_entry` meets its contract.
use mathlib.Core.Path.{refl}
use Rattle.reading.proofs.KindReads.{other_kind}
use Rattle.std.proofs.Common.{arith}
use Rattle.links.proofs.LinkReads.{kind_is, other_adds}
use Rattle.links.proofs.links.link_entry.Goals as goal

pub link_rec-requires : goal.link_rec-requires
link_rec-requires g c = (omega (arith, c.well_formed), (c.requires.0, c.requires.1, kind_is _ _ _ c.requires.1 _ _ c.in-Rec.ensures refl, c.requires.2))

pub link_send-requires : goal.link_send-requires
link_send-requires g c = (omega (arith, c.well_formed), (c.requires.0, c.requires.1, kind_is _ _ _ c.requires.1 _ _ c.in-Send.ensures refl, omega (arith, c.requires.2)))

pub link_spawn-requires : goal.link_spawn-requires
link_spawn-requires g c = (omega (arith, c.well_formed), (c.requires.0, c.requires.1, kind_is _ _ _ c.requires.1 _ _ c.in-Spawn.ensures refl, c.requires.2))

pub returns-in_default : goal.returns-in_default
returns-in_default g c = other_adds _ _ _ c.requires.1 _ _ c.kind.ensures (other_kind c.in_default.not-Rec) (other_kind c.in_default.not-Send) (other_kind c.in_default.not-Spawn)
