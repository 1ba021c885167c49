-- `past_values` meets its contract.
use borrow.Author.Rules.{rules}
use Rattle.lists.proofs.Tests.{not_true}
use Rattle.copying.proofs.RowPlace.{seeks_start, seeks_none, seeks_past, seeks_short, seeks_integer, seeks_work, seeks_value}
use Rattle.copying.proofs.place.past_values.Goals as goal

pub loop-left-init : goal.loop-left-init
loop-left-init c = search seeks_start

pub returns-then-src-x : goal.returns-then-src-x
returns-then-src-x c = seeks_past _ _ _ _ _ c.loop-left.invariant (search rules) (search rules)

pub returns-then-src-x-lt2 : goal.returns-then-src-x-lt2
returns-then-src-x-lt2 c = seeks_short _ _ _ _ _ c.loop-left.invariant (search rules) (search rules) _ c.tag-t.ensures (search rules) (search rules)

pub loop-left-preserved-then-t-eq-INTEGER : goal.loop-left-preserved-then-t-eq-INTEGER
loop-left-preserved-then-t-eq-INTEGER c = search seeks_integer

pub returns-then-not-of_value : goal.returns-then-not-of_value
returns-then-not-of_value c = seeks_work _ _ _ _ _ c.loop-left.invariant (search rules) (search rules) _ c.tag-t.ensures (search rules) _ c.of_value.ensures (search (rules, not_true))

pub loop-left-preserved : goal.loop-left-preserved
loop-left-preserved c = search seeks_value

pub returns : goal.returns
returns c = seeks_none _ _ _ _ _ c.loop-left.invariant (search rules)
