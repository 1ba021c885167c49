-- `find` meets its contract.
use borrow.Author.Rules.{rules}
use Rattle.copying.proofs.RowPlace.{found_none, found_in, found_few}
use Rattle.copying.proofs.place.+find.Goals as goal

pub returns-then-src-x : goal.returns-then-src-x
returns-then-src-x t c = search found_none

pub find-requires : goal.find-requires
find-requires t c = search (rules, found_few)

pub returns : goal.returns
returns t c = search found_in
