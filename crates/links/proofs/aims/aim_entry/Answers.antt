-- `links::aims::aim_entry` meets its contract.
use mathlib.Core.Path.{refl}
use Rattle.std.proofs.Common.{arith}
use Rattle.reading.proofs.KindReads.{other_kind}
use Rattle.links.proofs.LinkReads.{kind_is}
use Rattle.links.proofs.SpawnReads.{aim_other}
use Rattle.links.proofs.aims.aim_entry.Goals as goal

pub aim_send-requires : goal.aim_send-requires
aim_send-requires g c = (omega (arith, c.well_formed), (c.requires.0, c.requires.1, kind_is _ _ _ c.requires.1 _ _ c.in-Send.ensures refl, c.requires.2))

pub returns-in_default : goal.returns-in_default
returns-in_default g c = aim_other _ _ _ c.requires.1 _ _ c.kind.ensures (other_kind c.in_default.not-Send)
