-- `newest` meets its contract.
use Rattle.listing.proofs.ProcessLaws.{newest_none, newest_entry, newest_is}
use borrow.Author.Rules.{rules}
use Rattle.listing.proofs.processes.newest.Goals as goal

pub returns-then-count-eq0 : goal.returns-then-count-eq0
returns-then-count-eq0 c = newest_none _ _ _ c.entry_count-count.ensures c.if-count-eq0.true

pub kind-requires : goal.kind-requires
kind-requires c = (search rules, search newest_entry)

pub returns : goal.returns
returns c = newest_is _ _ _ _ c.entry_count-count.ensures c.if-count-eq0.false c.kind.ensures
