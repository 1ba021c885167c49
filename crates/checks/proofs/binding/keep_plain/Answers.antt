-- `checks::binding::keep_plain` meets its contract.
use mathlib.Core.Path.{ap}
use mathlib.Core.Bool.{not}
use borrow.Author.Rules.{rules}
use Rattle.checks.proofs.PlainLaws.{gets_light, gets_next, plain_past, plain_end, plain_short, plain_broken, plain_opens}
use Rattle.checks.proofs.binding.keep_plain.Goals as goal
use Rattle.checks.proofs.binding.keep_plain.Goals.{then-row-a-via-then-row-a, then-row-a-via-else-row-a+then-row-a-2}

pub returns-then-row-a : goal.returns-then-row-a
returns-then-row-a c =
    elim c.then-row-a.branch [
      | then-row-a-via-then-row-a w ↦ search plain_end
      | then-row-a-via-else-row-a+then-row-a-2 w ↦ search plain_short
    ]

pub loop-left-preserved-in-Some : goal.loop-left-preserved-in-Some
loop-left-preserved-in-Some c = search (gets_light, c.in-Some.ensures)

pub returns-then-not-keeps_rule : goal.returns-then-not-keeps_rule
returns-then-not-keeps_rule c = search (plain_broken, c.in_default.ensures)

pub returns-then-opens : goal.returns-then-opens
returns-then-opens c = plain_opens _ _ _ _ _ _ _ _ _ _ c.loop-left.invariant (search rules) (search rules) c.in_default.ensures _ c.keeps_rule.ensures (ap not c.if-not-keeps_rule.false) _ c.tag.ensures _ c.opens.ensures c.if-opens.true

pub loop-left-preserved : goal.loop-left-preserved
loop-left-preserved c = search (gets_next, c.in_default.ensures)

pub returns : goal.returns
returns c = search plain_past
