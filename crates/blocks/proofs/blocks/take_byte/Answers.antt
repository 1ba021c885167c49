-- A byte is gathered: an LF ends the line, and any other is kept.
use Rattle.std.proofs.Common.{rules, refl}
use Rattle.blocks.proofs.Gathering.{gathers_feed, gathers_byte}
use Rattle.blocks.proofs.blocks.take_byte.Goals as goal

pub returns-then-b-eq-LINE_FEED-clause-ok_gathers : goal.returns-then-b-eq-LINE_FEED-clause-ok_gathers
returns-then-b-eq-LINE_FEED-clause-ok_gathers g c = gathers_feed _ _ _ _ (search rules) refl

pub returns-clause-ok_gathers : goal.returns-clause-ok_gathers
returns-clause-ok_gathers g c = gathers_byte _ _ _ _ _ (search rules) c.keep.ensures
