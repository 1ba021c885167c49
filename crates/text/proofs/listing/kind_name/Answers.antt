-- `kind_name` meets its contract.
use Rattle.text.proofs.ListingLaws.{kind_known, none_known}
use Rattle.rules.specs.Text.{bytes}
use Rattle.text.specs.Lines.{newest_bytes, newest_text}
use Rattle.text.proofs.listing.kind_name.Goals as goal

pub returns-in-Seq : goal.returns-in-Seq
unfolding newest_bytes newest_text bytes
returns-in-Seq c = kind_known _ _ _ c.in-Some.is c.in-Seq.is

pub returns-in-Send : goal.returns-in-Send
unfolding newest_bytes newest_text bytes
returns-in-Send c = kind_known _ _ _ c.in-Some.is c.in-Send.is

pub returns-in-Rec : goal.returns-in-Rec
unfolding newest_bytes newest_text bytes
returns-in-Rec c = kind_known _ _ _ c.in-Some.is c.in-Rec.is

pub returns-in-Spawn : goal.returns-in-Spawn
unfolding newest_bytes newest_text bytes
returns-in-Spawn c = kind_known _ _ _ c.in-Some.is c.in-Spawn.is

pub returns-in-Own : goal.returns-in-Own
unfolding newest_bytes newest_text bytes
returns-in-Own c = kind_known _ _ _ c.in-Some.is c.in-Own.is

pub returns-in-Check : goal.returns-in-Check
unfolding newest_bytes newest_text bytes
returns-in-Check c = kind_known _ _ _ c.in-Some.is c.in-Check.is

pub returns-in_default : goal.returns-in_default
unfolding newest_bytes newest_text bytes
returns-in_default c = search none_known
