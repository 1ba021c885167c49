-- `take_lines` meets its contract.
use borrow.Author.Rules.{rules}
use Rattle.lines.proofs.GatherLaws.{took_none, took_more, took_all}
use Rattle.lines.proofs.input.take_lines.Goals as goal

pub loop-b-init : goal.loop-b-init
loop-b-init c = (search rules, search rules, search rules, search rules, took_none _ _ _ _ (search rules))

pub loop-b-preserved : goal.loop-b-preserved
loop-b-preserved c = (search rules, search rules, search rules, search rules, search took_more)

pub returns : goal.returns
returns c = search took_all
