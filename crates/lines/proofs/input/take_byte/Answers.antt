-- `take_byte` meets its contract.
use mathlib.Core.Path.{sym}
use lib.Seq.{length-take-le}
use Rattle.lines.proofs.GatherLaws.{kept_within, took_feed, took_byte}
use borrow.Author.Rules.{rules}
use Rattle.lines.proofs.input.take_byte.Goals as goal

pub slice_bounds-end_line-end-then-b-eq-LINE_FEED : goal.slice_bounds-end_line-end-then-b-eq-LINE_FEED
slice_bounds-end_line-end-then-b-eq-LINE_FEED c = sym (length-take-le _ _ c.requires)

pub returns-then-b-eq-LINE_FEED : goal.returns-then-b-eq-LINE_FEED
returns-then-b-eq-LINE_FEED c = record { within = search rules; took = took_feed _ _ _ _ _ _ _ _ _ _ (search rules) (search rules) c.end_line.ensures.replied }

pub returns : goal.returns
returns c = record { within = kept_within c.keep.ensures; took = took_byte _ _ _ _ _ _ _ _ _ (search rules) c.keep.ensures c.past.ensures (search rules) }
